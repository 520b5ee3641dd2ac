-- After i turns the slice holds the first i of the words, and then what it held.
use Rattle.std.proofs.Common.{length}
use Rattle.order.proofs.Filling.{Filling}
use Rattle.files.specs.Words.{words_from}
use Rattle.files.proofs.words.read_words.Given as goal

abbrev pub invariant-loop-i : goal.invariant-loop-i
invariant-loop-i l = Filling (words_from l.bytes l.first (length l.fn.to)) l.fn.to l.to l.i

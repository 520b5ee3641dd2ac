-- A word is the sum of its four bytes.
use Rattle.std.proofs.Common.{arith}
use Rattle.files.proofs.Reading.{word_at}
use Rattle.files.proofs.words.word.Goals as goal

pub returns : goal.returns
returns c = omega (arith, c.from_le_bytes.ensures, word_at c.args.bytes.now c.args.i (omega arith))

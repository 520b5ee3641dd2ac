-- The search has yet to find what `lowest_below` is.
use Rattle.std.proofs.Common.{length}
use Rattle.outcomes.proofs.Searching.{Searched}
use Rattle.preimages.specs.Parts.{image_has}
use Rattle.preimages.proofs.first_source.Given as goal

abbrev pub invariant-loop-x : goal.invariant-loop-x
invariant-loop-x l = Searched (image_has l.table.images.now l.table.lengths.now l.j) (length l.table.images.now) l.x

-- The totals of the degrees passed are above.
use Rattle.bounds.specs.Parts.{Above}
use Rattle.bounds.proofs.first_within.Given as goal

abbrev pub invariant-loop-d : goal.invariant-loop-d
invariant-loop-d l = Above l.totals l.low l.spare l.d

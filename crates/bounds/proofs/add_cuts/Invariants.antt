-- The cuts at the degrees below d are added, and the other totals as they were.
use Rattle.bounds.proofs.Totals.{Adding}
use Rattle.bounds.proofs.add_cuts.Given as goal

abbrev pub invariant-loop-d : goal.invariant-loop-d
invariant-loop-d l = Adding l.w l.initial.totals l.totals l.d

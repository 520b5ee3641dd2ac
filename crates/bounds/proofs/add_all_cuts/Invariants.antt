-- The runs before j in the order by image are passed, and there is a total for each degree.
use Rattle.runs.specs.Runs.{runs_in}
use Rattle.bounds.proofs.Passing.{Passed}
use Rattle.bounds.proofs.add_all_cuts.Given as goal

abbrev pub invariant-loop-j : goal.invariant-loop-j
invariant-loop-j l = Passed l.list.n (runs_in l.list) l.totals l.passed l.j

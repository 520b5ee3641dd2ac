-- The places up to p are done, and the next one is near run x.
use Rattle.runs.specs.Runs.{runs_in}
use Rattle.permutations.proofs.Placing.{Placing}
use Rattle.permutations.proofs.values.of_places.Given as goal

abbrev pub invariant-loop-p : goal.invariant-loop-p
invariant-loop-p l = Placing l.list.n (runs_in l.list) l.initial.values l.values l.x l.p

-- The sweep is in its course, with so many cuts in the working table.
use Rattle.runs.specs.Runs.{runs_in}
use Rattle.cuts.proofs.Turns.{Turning, left_at}
use Rattle.cuts.proofs.sweep.sweep.Given as goal

abbrev pub invariant-loop-at : goal.invariant-loop-at
invariant-loop-at l = Turning l.d l.list.n (runs_in l.list) l.ranked l.initial.working l.working l.count l.at

abbrev pub decreases-loop-at : goal.decreases-loop-at
decreases-loop-at l = left_at l.list.n (runs_in l.list) l.working l.count l.at

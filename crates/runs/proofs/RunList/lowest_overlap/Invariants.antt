-- The runs before t in the order by image are swept.
use Rattle.runs.specs.Runs.{runs_in}
use Rattle.runs.proofs.Sweeping.{Swept}
use Rattle.runs.proofs.RunList.lowest_overlap.Given as goal

abbrev pub invariant-loop-t : goal.invariant-loop-t
invariant-loop-t l = Swept l.self.n (runs_in l.self) l.lowest l.reached l.t

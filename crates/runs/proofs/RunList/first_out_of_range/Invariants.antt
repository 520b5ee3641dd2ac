-- The search has yet to find what `lowest_below` is.
use Rattle.std.proofs.Common.{length}
use Rattle.outcomes.proofs.Searching.{Searched}
use Rattle.runs.specs.Runs.{runs_in}
use Rattle.runs.specs.Check.{out_of_range}
use Rattle.runs.proofs.RunList.first_out_of_range.Given as goal

abbrev pub invariant-loop-x : goal.invariant-loop-x
invariant-loop-x l = Searched (out_of_range l.self.n (runs_in l.self)) (length l.self.starts.now) l.x

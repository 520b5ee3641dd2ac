-- The search has yet to find what `lowest_below` is.
use Rattle.std.proofs.Common.{length}
use Rattle.outcomes.proofs.Searching.{Searched}
use Rattle.runs.specs.Check.{unordered}
use Rattle.runs.proofs.RunList.first_unordered.Given as goal

abbrev pub invariant-loop-x : goal.invariant-loop-x
invariant-loop-x l = Searched (unordered l.self.n l.self.starts.now) (length l.self.starts.now) l.x

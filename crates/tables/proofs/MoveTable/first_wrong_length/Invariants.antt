-- The search has yet to find what `lowest_below` is.
use Rattle.std.proofs.Common.{length}
use Rattle.outcomes.proofs.Searching.{Searched}
use Rattle.tables.specs.Tables.{wrong_length}
use Rattle.tables.proofs.MoveTable.first_wrong_length.Given as goal

abbrev pub invariant-loop-x : goal.invariant-loop-x
invariant-loop-x l = Searched (wrong_length l.self.n l.self.starts.now l.self.lengths.now) (length l.self.starts.now) l.x

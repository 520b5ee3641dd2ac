-- Before each turn it is known whether all lengths of the intervals so far are right.
use Rattle.std.proofs.Common.{◌≡◌, not}
use Rattle.outcomes.specs.Search.{any_below}
use Rattle.tables.specs.Tables.{wrong_length}
use Rattle.tables.proofs.measuring.is_any_wrong.Given as goal

abbrev pub invariant-loop-x : goal.invariant-loop-x
invariant-loop-x l = l.right ≡ not (any_below (wrong_length l.n l.starts l.lengths) l.x)

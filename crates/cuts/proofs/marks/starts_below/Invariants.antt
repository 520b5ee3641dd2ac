-- The starts that are passed are below `to`.
use Rattle.std.proofs.Common.{◌+◌, ◌≤◌}
use Rattle.order.specs.Lists.{count_below}
use Rattle.cuts.proofs.marks.starts_below.Given as goal

abbrev pub invariant-loop-passed : goal.invariant-loop-passed
invariant-loop-passed l = l.from + l.passed ≤ count_below l.to l.entries.starts.now

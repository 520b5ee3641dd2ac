-- What was read lies in the slice, and each read that is not the last leaves less of it.
use Rattle.std.proofs.Common.{length, ◌-◌, ◌≤◌}
use Rattle.rows.proofs.input.read.Given as goal

abbrev pub invariant-loop-got : goal.invariant-loop-got
invariant-loop-got g l = l.got ≤ length l.to

abbrev pub decreases-loop-got : goal.decreases-loop-got
decreases-loop-got g l = length l.to - l.got

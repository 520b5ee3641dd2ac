-- A row has at most nine slices.
use Rattle.std.proofs.Common.{◌≤◌}
use Rattle.rows.proofs.lent.write.Given as goal

abbrev pub invariant-loop-text : goal.invariant-loop-text
invariant-loop-text l =
    (goal.iterator-loop-text).can_next l.text-iterator ×
    (goal.iterator-loop-text).is_finite l.text-iterator ×
    (l.slices ≤ 9)

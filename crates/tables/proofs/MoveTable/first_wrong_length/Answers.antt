use Rattle.std.proofs.Common.{sym, ◌∙◌}
use Rattle.outcomes.proofs.Searching.{searched_next}
use Rattle.tables.proofs.MoveTable.first_wrong_length.Goals as goal

pub loop-x-preserved : goal.loop-x-preserved
loop-x-preserved c =
    searched_next _ _ _ c.loop-x.invariant c.loop-x-test.true (sym c.is_wrong_length.ensures ∙ c.if-is_wrong_length.false)

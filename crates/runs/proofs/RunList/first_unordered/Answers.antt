use Rattle.std.proofs.Common.{sym, ◌∙◌}
use Rattle.outcomes.proofs.Searching.{searched_next}
use Rattle.runs.proofs.RunList.first_unordered.Goals as goal

pub loop-x-preserved : goal.loop-x-preserved
loop-x-preserved c =
    searched_next _ _ _ c.loop-x.invariant c.loop-x-test.true (sym c.is_unordered.ensures ∙ c.if-is_unordered.false)

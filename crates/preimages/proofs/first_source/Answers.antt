use Rattle.std.proofs.Common.{sym, ◌∙◌}
use Rattle.outcomes.proofs.Searching.{searched_next}
use Rattle.preimages.proofs.first_source.Goals as goal

pub loop-x-preserved : goal.loop-x-preserved
loop-x-preserved c = searched_next _ _ _ c.loop-x.invariant c.loop-x-test.true (sym c.is_source.ensures ∙ c.if-is_source.false)

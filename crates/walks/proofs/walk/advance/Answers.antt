use Rattle.std.proofs.Common.{sym, ap, ◌∙◌, arith}
use Rattle.outcomes.specs.Outcome.{done}
use Rattle.walks.proofs.Steps.{advance_broken, advance_on, movable}
use Rattle.walks.proofs.walk.advance.Goals as goal

pub returns-then-is_broken : goal.returns-then-is_broken
returns-then-is_broken c = advance_broken _ _ _ _ (sym c.is_broken.ensures ∙ c.if-is_broken.true)

pub step_from-requires : goal.step_from-requires
step_from-requires c = movable _ _ _ _ (omega arith) c.requires (sym c.is_broken.ensures ∙ c.if-is_broken.false)

pub returns : goal.returns
returns c = ap done c.step_from.ensures ∙ advance_on _ _ _ _ (sym c.is_broken.ensures ∙ c.if-is_broken.false)

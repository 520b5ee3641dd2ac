use Rattle.std.proofs.Common.{sym, ◌∙◌}
use Rattle.walks.proofs.Steps.{leave_wrong, leave_on}
use Rattle.walks.proofs.walk.leave.Goals as goal

pub returns-then-is_wrong_length : goal.returns-then-is_wrong_length
returns-then-is_wrong_length c = leave_wrong _ _ _ _ (sym c.is_wrong_length.ensures ∙ c.if-is_wrong_length.true)

pub returns : goal.returns
returns c = c.advance.ensures ∙ leave_on _ _ _ _ (sym c.is_wrong_length.ensures ∙ c.if-is_wrong_length.false)

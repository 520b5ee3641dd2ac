-- The first run begins one, and another where its image does not follow on.
use Rattle.std.proofs.Common.{arith}
use Rattle.folds.proofs.Heads.{begins_first, begins_later}
use Rattle.folds.proofs.is_head.Goals as goal

pub returns-then-x-eq0 : goal.returns-then-x-eq0
returns-then-x-eq0 c = begins_first _ _ c.if-x-eq0.true

pub returns : goal.returns
returns c = begins_later _ _ _ _ c.if-x-eq0.false c.from-3.ensures (omega arith)

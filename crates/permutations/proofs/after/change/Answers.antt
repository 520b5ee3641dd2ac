use Rattle.std.proofs.Common.{arith}
use Rattle.permutations.proofs.Changing.{changing_none, changing_next, changing_all}
use Rattle.permutations.proofs.after.change.Goals as goal

pub loop-p-init : goal.loop-p-init
loop-p-init c = changing_none _ _ _ c.requires.0 _ c.requires.1

pub loop-p-preserved : goal.loop-p-preserved
loop-p-preserved c =
    changing_next _ _ _ c.requires.0 _ _ _ c.loop-p.invariant (omega arith) _ c.value_after.ensures

pub returns : goal.returns
returns c = changing_all _ _ _ c.requires.0 _ _ _ c.loop-p.invariant (omega arith)

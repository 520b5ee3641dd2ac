use Rattle.std.proofs.Common.{refl, arith}
use Rattle.permutations.proofs.Placing.{placing_none, home_value, placing_next, placing_all}
use Rattle.permutations.proofs.values.of_places.Goals as goal

pub loop-p-init : goal.loop-p-init
loop-p-init c = placing_none _ _ c.requires _ refl

pub run_near-x-requires : goal.run_near-x-requires
run_near-x-requires c = c.loop-p.invariant.near (omega arith)

pub overflow_add-values : goal.overflow_add-values
overflow_add-values c =
    let v = home_value _ _ c.requires _ _ (omega arith) c.run_near-x.ensures in
    omega (arith, v.0, v.1, c.requires.few)

pub loop-p-preserved : goal.loop-p-preserved
loop-p-preserved c =
    placing_next _ _ c.requires _ _ _ _ _ c.loop-p.invariant (omega arith) c.run_near-x.ensures

pub returns : goal.returns
returns c = placing_all _ _ c.requires _ _ _ _ c.loop-p.invariant (omega arith)

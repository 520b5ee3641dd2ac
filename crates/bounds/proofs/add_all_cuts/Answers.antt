use Rattle.std.proofs.Common.{arith}
use Rattle.bounds.proofs.Passing.{from_some, passed_none, passed_few, passed_next, passed_all}
use Rattle.bounds.proofs.add_all_cuts.Goals as goal

pub loop-j-init : goal.loop-j-init
loop-j-init c = passed_none _ _ c.requires.legal _ c.requires.cleared

pub overflow_sub-end : goal.overflow_sub-end
overflow_sub-end c = omega (arith, from_some _ _ c.requires.legal c.loop-j.j c.loop-j-test.true)

pub near_end-to-requires : goal.near_end-to-requires
near_end-to-requires c = passed_few _ _ c.requires.legal _ _ _ c.loop-j.invariant

pub loop-j-preserved : goal.loop-j-preserved
loop-j-preserved c =
    passed_next _ _ c.requires.legal _ _ _ c.loop-j.invariant c.loop-j-test.true _ _
    c.image_from-end.ensures c.near_end-to.ensures.0 _ c.add_cuts.ensures

pub returns : goal.returns
returns c = passed_all _ _ c.requires.legal _ _ _ c.loop-j.invariant c.loop-j-test.false

use Rattle.std.proofs.Common.{arith}
use Rattle.merging.proofs.Merged.{at_sum, at_own, at_stop, at_go}
use Rattle.cuts.proofs.marks.skip.Goals as goal

pub returns-then-to-step : goal.returns-then-to-step
returns-then-to-step c =
    let l = c.loop in
    let h = at_stop _ _ _ c.requires.0 _ _ l.invariant.0 c.args.to (omega (arith, c.step-step.ensures.entry_is)) in
    record { at = l.invariant.0; below = l.invariant.2; far = omega (arith, l.invariant); stopped = λ z. omega (arith, l.invariant) }

-- the next entry is one more that is below `to`
pub loop-preserved : goal.loop-preserved
loop-preserved c =
    let l = c.loop in
    let m = at_go _ _ _ c.requires.0 _ _ l.invariant.0 c.args.to c.requires.3 (omega (arith, c.step-step.ensures.entry_is)) in
    let b = c.step-step.ensures.behind m.0 in
    let s = at_sum _ _ _ c.requires.0 _ _ b in
    (at_own _ _ _ c.requires.0 _ _ b, omega (arith, l.invariant.1), omega (arith, m.1))

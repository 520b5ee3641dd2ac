-- Each turn takes one run more, and writes it if it begins one (proofs/Heads).
use Rattle.std.proofs.Common.{arith}
use Rattle.folds.proofs.Heads.{heading_start, heading_few, heading_lengths, heading_past, heading_next, heading_end}
use Rattle.folds.proofs.write_folded.Goals as goal
use Rattle.folds.proofs.write_folded.Goals.{then-is_head, else-is_head}

pub loop-x-init : goal.loop-x-init
loop-x-init c = heading_start _ _ _ c.requires.1

pub bounds-starts-m : goal.bounds-starts-m
bounds-starts-m c =
    let h = c.loop-x.invariant in
    omega (arith, heading_few _ _ _ _ _ _ _ h, (heading_lengths _ _ _ _ _ _ _ h).0, c.requires.1.0)

pub bounds-images-m : goal.bounds-images-m
bounds-images-m c =
    let h = c.loop-x.invariant in
    omega (arith, heading_few _ _ _ _ _ _ _ h, (heading_lengths _ _ _ _ _ _ _ h).1, c.requires.1.1.0)

pub loop-x-preserved : goal.loop-x-preserved
loop-x-preserved c =
    let h = c.loop-x.invariant in
    let l = c.loop-x-test.true in
    let e = c.is_head.ensures in
    elim c.if-is_head.branch [
      | then-is_head w ↦ heading_next _ _ _ _ _ _ _ h l _ e _ _ _ w.if-is_head.true w.starts-is w.images-is w.m-is
      | else-is_head w ↦ heading_past _ _ _ _ _ _ _ h l _ e _ _ _ w.if-is_head.false w.starts-is w.images-is w.m-is
    ]

pub returns-clause-written : goal.returns-clause-written
returns-clause-written c = heading_end _ _ _ _ _ _ _ c.loop-x.invariant (omega arith)

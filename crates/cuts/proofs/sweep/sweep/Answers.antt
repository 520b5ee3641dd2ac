-- Each turn is one step of the sweep (proofs/Turns).
use Rattle.std.proofs.Common.{◌+◌, take, sym, arith}
use Rattle.std.proofs.Math.Seq.{length-take-le}
use Rattle.order.proofs.Laws.{strict_sorted}
use Rattle.cuts.proofs.Turns.{turning_start, turning_end, turning_behind, turning_lookable, turning_inside, turning_below, turning_room, turning_passed, turning_added, turning_few, turning_cut, turning_edge, turning_bounded, turning_light}
use Rattle.cuts.proofs.sweep.sweep.Goals as goal

pub loop-at-init : goal.loop-at-init
loop-at-init c =
    turning_start _ _ _ _ _ _ c.requires.0 c.requires.1 c.requires.2 c.requires.3 _ _ c.first.ensures c.at_front-at.ensures

pub here-here-requires : goal.here-here-requires
here-here-requires c = (
  record { ranked = c.requires.0; starts = c.loop-at.invariant.progress.starts },
  c.loop-at.invariant.front,
  turning_behind _ _ _ _ _ _ c.requires.0 c.requires.1 c.requires.2 c.requires.3 _ _ _ c.loop-at.invariant c.loop-at-test.true,
)

pub look-looked-requires : goal.look-looked-requires
look-looked-requires c =
    rw c.entries.ensures (turning_lookable _ _ _ _ _ _ c.requires.0 c.requires.1 c.requires.2 c.requires.3 _ _ _ c.loop-at.invariant c.loop-at-test.true _ c.here-here.ensures)

pub overflow_sub-u : goal.overflow_sub-u
overflow_sub-u c =
    let i = turning_inside _ _ _ _ _ _ c.requires.0 c.requires.1 c.requires.2 c.requires.3 _ _ _ c.loop-at.invariant c.loop-at-test.true _ c.here-here.ensures _ (rw c.entries.ensures at c.look-looked.ensures) c.if-looked.true in
    omega arith

pub overflow_add-u : goal.overflow_add-u
overflow_add-u c =
    let b = turning_below _ _ _ _ _ _ c.requires.0 c.requires.1 c.requires.2 c.requires.3 _ _ _ c.loop-at.invariant c.loop-at-test.true _ c.here-here.ensures _ (rw c.entries.ensures at c.look-looked.ensures) c.if-looked.true in
    omega arith

pub insert-requires : goal.insert-requires
insert-requires c = (
  turning_room _ _ _ _ _ _ c.requires.0 c.requires.1 c.requires.2 c.requires.3 _ _ _ c.loop-at.invariant c.loop-at-test.true _ c.here-here.ensures _ (rw c.entries.ensures at c.look-looked.ensures) c.if-looked.true,
  strict_sorted (take c.loop-at.count c.loop-at.working) c.loop-at.invariant.progress.starts.cuts_rise,
)

pub slice_bounds-cuts-end-then-looked : goal.slice_bounds-cuts-end-then-looked
slice_bounds-cuts-end-then-looked c =
    let b = turning_room _ _ _ _ _ _ c.requires.0 c.requires.1 c.requires.2 c.requires.3 _ _ _ c.loop-at.invariant c.loop-at-test.true _ c.here-here.ensures _ (rw c.entries.ensures at c.look-looked.ensures) c.if-looked.true in
    omega arith

pub slice_bounds-cuts-end-then-looked-2 : goal.slice_bounds-cuts-end-then-looked-2
slice_bounds-cuts-end-then-looked-2 c =
    let b = turning_room _ _ _ _ _ _ c.requires.0 c.requires.1 c.requires.2 c.requires.3 _ _ _ c.loop-at.invariant c.loop-at-test.true _ c.here-here.ensures _ (rw c.entries.ensures at c.look-looked.ensures) c.if-looked.true in
    sym (length-take-le (c.loop-at.count + 1) c.insert.new.s (omega arith))

pub after_cut-at-requires : goal.after_cut-at-requires
after_cut-at-requires c =
    let few = turning_few _ _ _ _ _ _ c.requires.0 c.requires.1 c.requires.2 c.requires.3 _ _ _ c.loop-at.invariant c.loop-at-test.true _ c.here-here.ensures _ (rw c.entries.ensures at c.look-looked.ensures) _ c.pass-front.ensures c.if-looked.true _ c.insert.ensures in (
      record { ranked = c.requires.0; starts = turning_added _ _ _ _ _ _ c.requires.0 c.requires.1 c.requires.2 c.requires.3 _ _ _ c.loop-at.invariant c.loop-at-test.true _ c.here-here.ensures _ (rw c.entries.ensures at c.look-looked.ensures) _ c.pass-front.ensures c.if-looked.true _ c.insert.ensures },
      turning_below _ _ _ _ _ _ c.requires.0 c.requires.1 c.requires.2 c.requires.3 _ _ _ c.loop-at.invariant c.loop-at-test.true _ c.here-here.ensures _ (rw c.entries.ensures at c.look-looked.ensures) c.if-looked.true,
      omega arith,
    )

pub loop-at-smaller-then-looked : goal.loop-at-smaller-then-looked
loop-at-smaller-then-looked c =
    (turning_cut _ _ _ _ _ _ c.requires.0 c.requires.1 c.requires.2 c.requires.3 _ _ _ c.loop-at.invariant c.loop-at-test.true _ c.here-here.ensures _ (rw c.entries.ensures at c.look-looked.ensures) _ c.pass-front.ensures c.if-looked.true _ c.insert.ensures _ c.after_cut-at.ensures).1

pub loop-at-preserved-then-looked : goal.loop-at-preserved-then-looked
loop-at-preserved-then-looked c =
    (turning_cut _ _ _ _ _ _ c.requires.0 c.requires.1 c.requires.2 c.requires.3 _ _ _ c.loop-at.invariant c.loop-at-test.true _ c.here-here.ensures _ (rw c.entries.ensures at c.look-looked.ensures) _ c.pass-front.ensures c.if-looked.true _ c.insert.ensures _ c.after_cut-at.ensures).0

pub pass_light-requires : goal.pass_light-requires
pass_light-requires c = (
  record { ranked = c.requires.0; starts = c.loop-at.invariant.progress.starts },
  turning_passed _ _ _ _ _ _ c.requires.0 c.requires.1 c.requires.2 c.requires.3 _ _ _ c.loop-at.invariant c.loop-at-test.true _ c.here-here.ensures _ (rw c.entries.ensures at c.look-looked.ensures) _ c.pass-front.ensures,
  turning_edge _ _ _ _ _ _ c.requires.0 c.requires.1 c.requires.2 c.requires.3 _ _ _ c.loop-at.invariant c.loop-at-test.true _ c.here-here.ensures _ (rw c.entries.ensures at c.look-looked.ensures) _ c.pass-front.ensures c.if-looked.false,
  turning_bounded _ _ _ _ _ _ c.requires.0 c.requires.1 c.requires.2 c.requires.3 _ _ _ c.loop-at.invariant c.loop-at-test.true _ c.here-here.ensures _ (rw c.entries.ensures at c.look-looked.ensures) _ c.pass-front.ensures c.if-looked.false,
  omega (arith, c.requires.1),
  c.requires.2,
)

pub loop-at-smaller : goal.loop-at-smaller
loop-at-smaller c =
    (turning_light _ _ _ _ _ _ c.requires.0 c.requires.1 c.requires.2 c.requires.3 _ _ _ c.loop-at.invariant c.loop-at-test.true _ c.here-here.ensures _ (rw c.entries.ensures at c.look-looked.ensures) _ c.pass-front.ensures c.if-looked.false _ c.pass_light.ensures _ c.at_front-at-else-looked.ensures).1

pub loop-at-preserved : goal.loop-at-preserved
loop-at-preserved c =
    (turning_light _ _ _ _ _ _ c.requires.0 c.requires.1 c.requires.2 c.requires.3 _ _ _ c.loop-at.invariant c.loop-at-test.true _ c.here-here.ensures _ (rw c.entries.ensures at c.look-looked.ensures) _ c.pass-front.ensures c.if-looked.false _ c.pass_light.ensures _ c.at_front-at-else-looked.ensures).0

pub returns : goal.returns
returns c =
    turning_end _ _ _ _ _ _ c.requires.0 c.requires.1 c.requires.2 c.requires.3 _ _ _ c.loop-at.invariant c.loop-at-test.false

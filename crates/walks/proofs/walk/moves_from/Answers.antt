use Rattle.std.proofs.Common.{ap, ◌∙◌, arith}
use Rattle.std.proofs.lemmas.Result.{err_from_is_err_and}
use Rattle.outcomes.specs.Outcome.{done}
use Rattle.walks.proofs.Moves.{walking_start, walking_fits, walking_more, walking_refused, walking_end}
use Rattle.walks.proofs.walk.moves_from.Goals as goal

pub loop-init : goal.loop-init
loop-init c = walking_start _ _ _ _ _ c.requires

pub leave-requires : goal.leave-requires
leave-requires c = c.loop.invariant.here

pub returns-in_err-next : goal.returns-in_err-next
returns-in_err-next c =
    let p = err_from_is_err_and c.from_residual.result c.from_residual.ensures.1 in
    rw (p.1, p.2) (walking_refused _ _ _ _ _ _ _ c.loop.invariant _ _ c.in_err-next.ensures c.loop-test.true)

pub overflow_add-count : goal.overflow_add-count
overflow_add-count c =
    let m = c.ranges.m in
    omega (arith, walking_fits _ _ _ _ _ _ _ c.loop.invariant _ c.in_ok-next.ensures c.loop-test.true (omega arith))

pub loop-preserved : goal.loop-preserved
loop-preserved c = walking_more _ _ _ _ _ _ _ c.loop.invariant _ c.in_ok-next.ensures c.loop-test.true

pub stand-requires : goal.stand-requires
stand-requires c =
    let here = c.loop.invariant.here in
    (here.at.entered.index, here.at.low)

pub returns : goal.returns
returns c = ap done c.stand.ensures ∙ walking_end _ _ _ _ _ _ _ c.loop.invariant (omega arith)

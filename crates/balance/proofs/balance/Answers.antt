-- The refusal of its plan, or what becomes of the tables after the planned cuts.
use Rattle.std.proofs.lemmas.Result.{err_from_is_err_and}
use Rattle.runs.specs.Runs.{runs_in}
use Rattle.plans.proofs.Outcomes.{clearable}
use Rattle.plans.proofs.Fitted.{found_planned}
use Rattle.balance.specs.Lent.{lent_in}
use Rattle.balance.proofs.Outcomes.{plan_refused, plan_fillable, plan_filled}
use Rattle.balance.proofs.balance.Goals as goal

pub returns-in_err-plan-clause-balanced : goal.returns-in_err-plan-clause-balanced
returns-in_err-plan-clause-balanced c =
    let a = c.args in
    let p = err_from_is_err_and c.from_residual.result c.from_residual.ensures.1 in
    rw (p.1, p.2)
    (plan_refused a.list.n (runs_in a.list) a.d (lent_in a.to.now a.working.now) _ _
    c.in_err-plan.ensures.0 c.in_err-plan.ensures.1)

pub slice_bounds-cuts-end : goal.slice_bounds-cuts-end
slice_bounds-cuts-end c = c.in_ok-plan.ensures.cuts.fits

pub fill_tables-answer-requires : goal.fill_tables-answer-requires
fill_tables-answer-requires c =
    let a = c.args in
    plan_fillable a.list.n (runs_in a.list) a.d (lent_in a.to.now a.working.now) _ _
    c.in_ok-plan.ensures

pub clear-requires : goal.clear-requires
clear-requires c = clearable _ _ _ _ (found_planned _ _ _ _ _ _ c.in_ok-plan.ensures) _ c.plan.auto.working

pub returns-clause-balanced : goal.returns-clause-balanced
returns-clause-balanced c =
    let a = c.args in
    plan_filled a.list.n (runs_in a.list) a.d (lent_in a.to.now a.working.now) _ _
    c.in_ok-plan.ensures _ _ _ c.fill_tables-answer.ensures.filled c.clear.ensures

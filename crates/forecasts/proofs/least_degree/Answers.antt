-- The refusal of its plan, or the degree of the planned cuts.
use Rattle.std.proofs.Common.{arith}
use Rattle.std.proofs.lemmas.Result.{err_from_is_err_and}
use Rattle.plans.proofs.Outcomes.{clearable}
use Rattle.forecasts.proofs.Outcomes.{seek_refused, seek_planned, seek_few, seek_found}
use Rattle.forecasts.proofs.least_degree.Goals as goal

pub returns-in_err-plan : goal.returns-in_err-plan
returns-in_err-plan c =
    let p = err_from_is_err_and c.from_residual.result c.from_residual.ensures.1 in
    rw (p.1, p.2) (seek_refused _ _ _ _ _ _ c.in_err-plan.ensures.0 c.in_err-plan.ensures.1)

pub clear-requires : goal.clear-requires
clear-requires c = clearable _ _ _ _ (seek_planned _ _ _ _ _ _ c.in_ok-plan.ensures) _ c.plan.auto.working

pub overflow_add-result : goal.overflow_add-result
overflow_add-result c = omega (arith, seek_few _ _ _ _ _ _ c.in_ok-plan.ensures)

pub overflow_cast-result : goal.overflow_cast-result
overflow_cast-result c = omega (arith, seek_few _ _ _ _ _ _ c.in_ok-plan.ensures)

pub returns : goal.returns
returns c = seek_found _ _ _ _ _ _ c.in_ok-plan.ensures _ c.clear.ensures

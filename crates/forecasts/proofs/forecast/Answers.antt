-- The refusal of its plan, or the size after the planned cuts.
use Rattle.std.proofs.Common.{arith}
use Rattle.std.proofs.lemmas.Result.{err_from_is_err_and}
use Rattle.plans.proofs.Outcomes.{clearable}
use Rattle.plans.proofs.Fitted.{found_planned}
use Rattle.forecasts.proofs.Outcomes.{forecast_refused, forecast_few, forecast_sized}
use Rattle.forecasts.proofs.forecast.Goals as goal

pub returns-in_err-plan : goal.returns-in_err-plan
returns-in_err-plan c =
    let p = err_from_is_err_and c.from_residual.result c.from_residual.ensures.1 in
    rw (p.1, p.2) (forecast_refused _ _ _ _ _ _ c.in_err-plan.ensures.0 c.in_err-plan.ensures.1)

pub clear-requires : goal.clear-requires
clear-requires c = clearable _ _ _ _ (found_planned _ _ _ _ _ _ c.in_ok-plan.ensures) _ c.plan.auto.working

pub overflow_add-result : goal.overflow_add-result
overflow_add-result c = omega (arith, forecast_few _ _ _ _ _ _ c.in_ok-plan.ensures)

pub overflow_cast-result : goal.overflow_cast-result
overflow_cast-result c = omega (arith, forecast_few _ _ _ _ _ _ c.in_ok-plan.ensures)

pub overflow_cast-result-2 : goal.overflow_cast-result-2
overflow_cast-result-2 c = omega (arith, forecast_few _ _ _ _ _ _ c.in_ok-plan.ensures)

pub returns : goal.returns
returns c = forecast_sized _ _ _ _ _ _ c.in_ok-plan.ensures _ c.clear.ensures

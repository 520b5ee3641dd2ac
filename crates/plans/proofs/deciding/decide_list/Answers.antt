-- A list that the check refuses, or tests 7 and 8 of one that it accepts.
use Rattle.std.proofs.Common.{sym, ◌∙◌}
use Rattle.std.proofs.lemmas.Result.{err_from_is_err_and}
use Rattle.runs.proofs.Accepted.{accepted_legal}
use Rattle.plans.proofs.Outcomes.{planned_refused, planned_passed, planned_accepted}
use Rattle.plans.proofs.deciding.decide_list.Goals as goal

pub returns-in_err-check_order : goal.returns-in_err-check_order
returns-in_err-check_order c =
    let p = err_from_is_err_and c.from_residual.result c.from_residual.ensures.1 in
    rw (p.1, p.2)
    (record {
      says = planned_refused _ _ _ _ _ _ c.in_err-check_order.ensures.says;
      ordered = λ e. c.check_order.ensures.ordered (planned_passed _ _ _ _ e).0;
    })

pub decide-requires : goal.decide-requires
decide-requires c = (accepted_legal _ _ (sym c.in_ok-check_order.ensures.says)).1

pub returns : goal.returns
returns c = record {
  says = c.decide.ensures ∙ sym (planned_accepted _ _ _ _ (sym c.in_ok-check_order.ensures.says));
  ordered = λ e. c.check_order.ensures.ordered (sym c.in_ok-check_order.ensures.says);
}

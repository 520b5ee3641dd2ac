-- A refusal by tests 1 to 8, which leaves the working table, or the search for a degree.
use Rattle.std.proofs.Common.{sym, arith}
use Rattle.std.proofs.lemmas.Result.{err_from_is_err_and}
use Rattle.plans.proofs.Outcomes.{planned_list, sought_refused}
use Rattle.plans.proofs.Clearing.{working_kept}
use Rattle.plans.proofs.rooms.plan_in.Goals as goal

pub returns-in_err-decide_list : goal.returns-in_err-decide_list
returns-in_err-decide_list g c =
    let p = err_from_is_err_and c.from_residual.result c.from_residual.ensures.1 in
    let e = sym c.in_err-decide_list.ensures.says in
    rw (p.1, p.2) (sought_refused _ _ _ _ _ _ _ e, sym (working_kept _ _ _ _ _ _ e))

pub seek-requires : goal.seek-requires
seek-requires g c =
    let e = sym c.in_ok-decide_list.ensures.says in
    let few = (planned_list _ _ _ _ e).1 in
    record {
      passed = e;
      ordered = c.decide_list.ensures.ordered e;
      in_order = omega (arith, c.requires.2 few);
      in_spare = omega (arith, c.requires.2 few);
      wide = omega arith;
    }

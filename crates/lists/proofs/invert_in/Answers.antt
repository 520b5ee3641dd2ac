-- Tests 1 to 6 refuse, or what is written after them is all of the call.
use Rattle.std.proofs.Common.{sym, refl}
use Rattle.std.proofs.lemmas.Result.{err_from_is_err_and}
use Rattle.outcomes.specs.Refusal.{says}
use Rattle.runs.proofs.Accepted.{accepted_legal}
use Rattle.runs.proofs.WritesList.{writes_check_refused, writes_checked}
use Rattle.lists.specs.Inverse.{inverse_list_of}
use Rattle.lists.proofs.invert_in.Goals as goal

pub returns-in_err-check_order-clause-listed : goal.returns-in_err-check_order-clause-listed
unfolding inverse_list_of
returns-in_err-check_order-clause-listed g c =
    let p = err_from_is_err_and c.from_residual.result c.from_residual.ensures.1 in
    rw (p.1, p.2) (writes_check_refused _ _ _ _ _ says (λ q. tt) _ _ _ c.in_err-check_order.ensures.says refl)

pub write-requires : goal.write-requires
write-requires g c =
    let o = c.in_ok-check_order.ensures in
    (o.ordered (sym o.says), (accepted_legal _ _ (sym o.says)).1)

pub returns-clause-listed : goal.returns-clause-listed
unfolding inverse_list_of
returns-clause-listed g c = writes_checked _ _ _ _ _ _ _ _ _ _ c.in_ok-check_order.ensures.says c.write.ensures.listed

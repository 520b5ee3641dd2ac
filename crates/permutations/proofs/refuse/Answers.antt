-- The refusal of the check, or 17.
use Rattle.std.proofs.lemmas.Result.{err_from_is_err_and}
use Rattle.permutations.proofs.Outcomes.{none_so, none_large}
use Rattle.permutations.proofs.refuse.Goals as goal

pub returns-in_err-check : goal.returns-in_err-check
returns-in_err-check c =
    let p = err_from_is_err_and c.from_residual.result c.from_residual.ensures.1 in
    rw (p.1, p.2) (none_so _ _ _ c.in_err-check.ensures)

pub returns : goal.returns
returns c = none_large _ _ c.in_ok-check.ensures

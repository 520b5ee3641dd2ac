-- A list that `check` refuses, or the outcome of an accepted one.
use Rattle.std.proofs.Common.{refl}
use Rattle.std.proofs.lemmas.Result.{err_from_is_err_and}
use Rattle.outcomes.specs.Refusal.{says}
use Rattle.runs.proofs.WritesList.{writes_check_refused, writes_checked}
use Rattle.runs.specs.Runs.{count_of}
use Rattle.folds.specs.Lent.{fold_of}
use Rattle.folds.proofs.Outcomes.{accepted_foldable}
use Rattle.folds.proofs.fold.Goals as goal

pub returns-in_err-check-clause-folded : goal.returns-in_err-check-clause-folded
unfolding fold_of
returns-in_err-check-clause-folded c =
    let p = err_from_is_err_and c.from_residual.result c.from_residual.ensures.1 in
    rw (p.1, p.2) (writes_check_refused _ _ _ _ _ says count_of _ _ _ c.in_err-check.ensures refl)

pub fold_accepted-requires : goal.fold_accepted-requires
fold_accepted-requires c = accepted_foldable _ _ c.in_ok-check.ensures

pub returns-clause-folded : goal.returns-clause-folded
unfolding fold_of
returns-clause-folded c = writes_checked _ _ _ _ _ says count_of _ _ _ c.in_ok-check.ensures c.fold_accepted.ensures.written

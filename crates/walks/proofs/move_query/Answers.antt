-- The tests before 12, and what is left of a move where they pass.
use Rattle.std.proofs.Common.{sym, ◌∙◌}
use Rattle.std.proofs.lemmas.Result.{err_from_is_err_and}
use Rattle.walks.proofs.Steps.{tests_passed, tests_refused, move_refused, move_located}
use Rattle.walks.proofs.move_query.Goals as goal

pub returns-in_err-locate : goal.returns-in_err-locate
returns-in_err-locate c =
    let p = err_from_is_err_and c.from_residual.result c.from_residual.ensures.1 in
    rw (p.1, p.2) (move_refused _ _ _ _ _ _ (tests_refused _ _ _ _ _ _ c.in_err-locate.ensures))

pub advance-requires : goal.advance-requires
advance-requires c = (tests_passed _ _ _ _ c.in_ok-locate.ensures).stands.at

pub returns : goal.returns
returns c = c.advance.ensures ∙ sym (move_located _ _ _ _ (tests_passed _ _ _ _ c.in_ok-locate.ensures))

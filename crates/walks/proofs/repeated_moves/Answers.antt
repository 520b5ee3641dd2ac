-- The tests before 12 once, and the moves where they pass.
use Rattle.std.proofs.Common.{arith}
use Rattle.std.proofs.lemmas.Result.{err_from_is_err_and}
use Rattle.walks.proofs.Moves.{moves_refused}
use Rattle.walks.proofs.Steps.{tests_passed, tests_refused}
use Rattle.walks.proofs.repeated_moves.Goals as goal

pub returns-in_err-locate : goal.returns-in_err-locate
returns-in_err-locate c =
    let p = err_from_is_err_and c.from_residual.result c.from_residual.ensures.1 in
    rw (p.1, p.2) (moves_refused _ _ 0 _ _ _ _ _ (omega arith) (tests_refused _ _ _ _ _ _ c.in_err-locate.ensures))

pub moves_from-requires : goal.moves_from-requires
moves_from-requires c = tests_passed _ _ _ _ c.in_ok-locate.ensures

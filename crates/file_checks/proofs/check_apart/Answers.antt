-- The tests of the list that was read, and then the degree's, are the body's (`body_is`).
use Rattle.std.proofs.Common.{◌∙◌, arith}
use Rattle.std.proofs.lemmas.Result.{err_from_is_err_and}
use Rattle.runs.specs.Check.{max_runs}
use Rattle.files.proofs.Bodies.{listed_refused, listed_checked, body_is}
use Rattle.file_checks.proofs.check_apart.Goals as goal

pub returns-in_err-check : goal.returns-in_err-check
returns-in_err-check g c =
    let p = err_from_is_err_and c.from_residual.result c.from_residual.ensures.1 in
    rw (p.1, p.2)
    (listed_refused c.args.header _ _ _ c.in_err-check.ensures
    ∙ body_is max_runs _ c.args.header c.requires.0 (omega arith) _ c.read_list.ensures)

pub returns : goal.returns
returns g c =
    c.check_degree.ensures
    ∙ listed_checked c.args.header _ c.in_ok-check.ensures
    ∙ body_is max_runs _ c.args.header c.requires.0 (omega arith) _ c.read_list.ensures

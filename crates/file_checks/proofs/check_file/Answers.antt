-- The header's tests, and then the body's.
use Rattle.std.proofs.Common.{◌∙◌}
use Rattle.std.proofs.lemmas.Result.{err_from_is_err_and}
use Rattle.files.proofs.Heading.{heading_laid}
use Rattle.files.proofs.Bodies.{file_refused, file_read}
use Rattle.file_checks.proofs.check_file.Goals as goal

pub returns-in_err-header : goal.returns-in_err-header
returns-in_err-header c =
    let p = err_from_is_err_and c.from_residual.result c.from_residual.ensures.1 in
    rw (p.1, p.2) (file_refused _ _ _ _ c.in_err-header.ensures)

pub check_body-requires : goal.check_body-requires
check_body-requires c = heading_laid _ _ _ c.in_ok-header.ensures

pub returns : goal.returns
returns c = c.check_body.ensures ∙ file_read _ _ _ c.in_ok-header.ensures

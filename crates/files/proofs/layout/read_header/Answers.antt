-- A header too short, and then the tests of its numbers.
use Rattle.std.proofs.Common.{arith}
use Rattle.std.proofs.lemmas.Result.{err_from_is_err_and}
use Rattle.files.proofs.Heading.{heading_short, heading_refused, heading_read}
use Rattle.files.proofs.layout.read_header.Goals as goal

pub returns-then-file-lt20 : goal.returns-then-file-lt20
returns-then-file-lt20 c = heading_short _ _ c.if-file-lt20.true

pub returns-in_err-check_numbers : goal.returns-in_err-check_numbers
returns-in_err-check_numbers c =
    let p = err_from_is_err_and c.from_residual.result c.from_residual.ensures.1 in
    rw (p.1, p.2) (heading_refused _ _ (omega arith) _ c.word.ensures _ c.word-2.ensures _ _ c.in_err-check_numbers.ensures)

pub returns : goal.returns
returns c =
    heading_read _ _ (omega arith) _ c.word.ensures _ c.word-2.ensures c.in_ok-check_numbers.ensures _ c.word-3.ensures

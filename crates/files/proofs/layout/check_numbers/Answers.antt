-- One law for each way to return.
use Rattle.std.proofs.Common.{◌∙◌}
use Rattle.files.proofs.Heading.{numbers_no_places, numbers_no_runs, numbers_many, numbers_few}
use Rattle.files.proofs.layout.check_numbers.Goals as goal
use Rattle.files.proofs.layout.check_numbers.Goals.{then-header-eq0-via-then-header-eq0, then-header-eq0-via-else-header-eq0+then-header-eq0-2}

pub returns-then-header-eq0 : goal.returns-then-header-eq0
returns-then-header-eq0 c =
    elim c.then-header-eq0.branch [
      | then-header-eq0-via-then-header-eq0 w ↦ numbers_no_places _ _ _ _ w.if-header-eq0.true
      | then-header-eq0-via-else-header-eq0+then-header-eq0-2 w ↦ numbers_no_runs _ _ _ _ w.if-header-eq0.false w.if-header-eq0-2.true
    ]

pub returns-then-most-header : goal.returns-then-most-header
returns-then-most-header c = numbers_many _ _ _ _ c.if-header-eq0.false c.if-header-eq0-2.false c.if-most-header.true

pub returns : goal.returns
returns c =
    c.check_layout.ensures ∙ numbers_few _ _ _ _ c.if-header-eq0.false c.if-header-eq0-2.false c.if-most-header.false

-- By what two skips tell (proofs/Looking).
use Rattle.cuts.proofs.Looking.{look_light}
use Rattle.cuts.proofs.marks.look_at_both.Goals as goal

pub returns-then-last-mark : goal.returns-then-last-mark
returns-then-last-mark c =
    look_light _ _ _ _ _ c.requires.known _ _ _ c.requires.some c.skip-middle.ensures c.skip-last.ensures c.if-last-mark.true

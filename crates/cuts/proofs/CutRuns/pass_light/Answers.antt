-- Each turn passes one light piece (proofs/Light).
use Rattle.cuts.proofs.Light.{light_lookable, light_on}
use Rattle.cuts.proofs.CutRuns.pass_light.Goals as goal

pub look-looked-requires : goal.look-looked-requires
look-looked-requires c =
    rw c.entries-entries.ensures
    (light_lookable _ _ _ _ _ _ c.requires.0.ranked c.requires.0.starts _ _ c.loop-at.invariant c.loop-at-test.true _ c.entry_or-to.ensures
    c.requires.4 c.requires.5)

pub loop-at-preserved : goal.loop-at-preserved
loop-at-preserved c =
    light_on _ _ _ _ _ _ c.requires.0.ranked c.requires.0.starts _ _ c.loop-at.invariant c.loop-at-test.true _ c.entry_or-to.ensures _
    (rw c.entries-entries.ensures at c.look-looked.ensures) c.if-looked.false

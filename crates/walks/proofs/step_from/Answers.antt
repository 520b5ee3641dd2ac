-- The holder that test 12 has let pass is where the walk begins, and the interval reached does not start above the place.
use Rattle.std.proofs.Common.{refl, ◌∙◌}
use Rattle.tables.proofs.Passing.{held_is}
use Rattle.walks.proofs.Steps.{step_index, step_low, step_by}
use Rattle.walks.proofs.step_from.Goals as goal

pub walk_from-walked-requires : goal.walk_from-walked-requires
walk_from-walked-requires c = ((held_is _ _ c.requires.held).0, c.requires.few)

pub stand-requires : goal.stand-requires
stand-requires c =
    let e = c.walk_from-walked.ensures in
    (step_index _ _ _ _ c.requires e, step_low _ _ _ _ c.requires e)

pub returns : goal.returns
returns c = c.stand.ensures ∙ step_by _ _ _ _ _ refl c.walk_from-walked.ensures

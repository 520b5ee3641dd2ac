-- The interval found on from x is the one that find gives, and a step counts no more starts than there are.
use Rattle.tables.specs.Tables.{links_in}
use Rattle.questions.proofs.Turning.{placed_move, count_fits, filled_by}
use Rattle.questions.proofs.filling.fill.Goals as goal

pub overflow_cast-result : goal.overflow_cast-result
overflow_cast-result c =
    let k = links_in c.args.table in
    let m = placed_move k _ _ c.requires _ c.reach_from-interval.ensures in
    record { fits = count_fits k _ _ _ c.step_from-step.ensures m }

pub returns : goal.returns
returns c = filled_by (links_in c.args.table) c.args.q _ c.requires _ c.reach_from-interval.ensures _ c.step_from-step.ensures

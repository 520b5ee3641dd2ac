use Rattle.std.proofs.Common.{◌∙◌, arith}
use Rattle.outcomes.proofs.Searching.{lowest_by}
use Rattle.runs.proofs.Ranking.{ordered_room, entry_is, entry_below}
use Rattle.runs.proofs.Sweeping.{swept_turn, swept_end, later, lowered, kept}
use Rattle.runs.proofs.RunList.lowest_overlap.Goals as goal
use Rattle.runs.proofs.RunList.lowest_overlap.Goals.{then-meets_another, else-meets_another}

pub bounds-order-t : goal.bounds-order-t
bounds-order-t c = let o = ordered_room _ _ c.requires.1 in omega arith

pub image_end-end-requires : goal.image_end-end-requires
image_end-end-requires c =
    let b = entry_below _ _ c.requires.1 c.loop-t.t c.loop-t-test.true in
    (omega (arith, c.requires.0.paired), c.requires.0)

pub loop-t-preserved : goal.loop-t-preserved
loop-t-preserved c =
    let l = c.loop-t in
    swept_turn _ _ c.requires.0 _ _ _ l.invariant c.loop-t-test.true _ _ _ _ c.meets_another.result
    (entry_is _ _ c.requires.1 l.t c.loop-t-test.true) c.image_end-end.ensures c.meets_another.ensures
    (later _ _ _ c.max-reached.ensures)
    (elim c.if-meets_another.branch [
      | then-meets_another w ↦ lowered _ _ _ _ _ w.if-meets_another.true w.min-lowest.ensures w.lowest-is
      | else-meets_another w ↦ kept _ _ _ _ w.if-meets_another.false w.lowest-is
    ])

pub returns : goal.returns
returns c = c.then_some.ensures ∙ lowest_by _ _ _ (swept_end _ _ c.requires.0 _ _ _ c.loop-t.invariant c.loop-t-test.false)

use Rattle.std.proofs.Common.{sym, ◌∙◌, arith}
use Rattle.runs.specs.Runs.{runs_in}
use Rattle.runs.proofs.Ranking.{ordered_room, entry_below, entry_image}
use Rattle.bounds.proofs.Passing.{from_held}
use Rattle.bounds.proofs.image_from.Goals as goal

pub bounds-order-j : goal.bounds-order-j
bounds-order-j c = let o = ordered_room _ _ c.requires in omega arith

pub bounds-list-order : goal.bounds-list-order
bounds-list-order c = entry_below _ _ c.requires c.args.j c.if-j-list.true

pub returns-then-j-list : goal.returns-then-j-list
returns-then-j-list c =
    entry_image _ _ c.requires c.args.j c.if-j-list.true
    ∙ sym (from_held c.args.list.n (runs_in c.args.list) c.requires.paired c.args.j c.if-j-list.true)

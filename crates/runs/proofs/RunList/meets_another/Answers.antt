-- By cases, in the order of the two tests.
use Rattle.std.proofs.Common.{ℕ, ◌+◌, sym, ap, ◌∙◌, arith, ltb}
use Rattle.runs.proofs.Ranking.{ordered_room, entry_below, entry_image, entry_next}
use Rattle.runs.proofs.Sweeping.{meets_before, meets_none, meets_next}
use Rattle.runs.proofs.RunList.meets_another.Goals as goal

pub bounds-order-t : goal.bounds-order-t
bounds-order-t c = let o = ordered_room _ _ c.requires.1 in omega arith

pub bounds-self-x : goal.bounds-self-x
bounds-self-x c = entry_below _ _ c.requires.1 c.args.t c.requires.0

pub returns-then-from-reached : goal.returns-then-from-reached
returns-then-from-reached c =
    let e = entry_image _ _ c.requires.1 c.args.t c.requires.0 in
    sym (meets_before _ _ _ _ (omega arith))

pub returns-then-self-t : goal.returns-then-self-t
returns-then-self-t c =
    let e = entry_image _ _ c.requires.1 c.args.t c.requires.0 in
    sym (meets_none _ _ _ _ (omega arith) (omega arith))

pub bounds-order-t-2 : goal.bounds-order-t-2
bounds-order-t-2 c = let o = ordered_room _ _ c.requires.1 in omega arith

pub bounds-self-y : goal.bounds-self-y
bounds-self-y c = entry_below _ _ c.requires.1 (c.args.t + 1) (omega arith)

pub returns : goal.returns
returns c =
    let e = entry_image _ _ c.requires.1 c.args.t c.requires.0 in
    let f = entry_next _ _ c.requires.1 c.args.t (omega arith) in
    sym (meets_next _ _ _ _ (omega arith) (omega arith) ∙ ap (λ (v : ℕ). ltb v c.args.end) (sym (c.from-2.ensures ∙ f)))

-- The run of the front's rank has the front, and no cut ahead of it (proofs/Ahead).
use Rattle.std.proofs.Common.{ℕ, ◌+◌, ◌-◌, get_or, ap, arith}
use Rattle.runs.specs.Runs.{runs_in, start_of}
use Rattle.cuts.proofs.Cutlist.{begins_below}
use Rattle.cuts.proofs.Ahead.{front_rank, front_sent, front_piece}
use Rattle.cuts.proofs.CutRuns.front_piece.Goals as goal

pub bounds-self-rank : goal.bounds-self-rank
bounds-self-rank c =
    let b = begins_below _ _ _ c.requires.0.ranked.legal c.requires.0.starts _ c.requires.2 in
    let a = front_rank _ _ _ _ c.requires.0.ranked _ c.requires.0.starts _ c.requires.1 b in
    omega (arith, a.below, a.in_order)

pub bounds-self-x : goal.bounds-self-x
bounds-self-x c =
    let b = begins_below _ _ _ c.requires.0.ranked.legal c.requires.0.starts _ c.requires.2 in
    (front_rank _ _ _ _ c.requires.0.ranked _ c.requires.0.starts _ c.requires.1 b).known

pub bounds-self-rank-2 : goal.bounds-self-rank-2
bounds-self-rank-2 c =
    let b = begins_below _ _ _ c.requires.0.ranked.legal c.requires.0.starts _ c.requires.2 in
    let a = front_rank _ _ _ _ c.requires.0.ranked _ c.requires.0.starts _ c.requires.1 b in
    omega (arith, a.below, a.in_ranked)

pub overflow_add-result : goal.overflow_add-result
overflow_add-result c =
    let l = c.args.self in
    let b = begins_below _ _ _ c.requires.0.ranked.legal c.requires.0.starts _ c.requires.2 in
    let a = front_rank _ _ _ _ c.requires.0.ranked _ c.requires.0.starts _ c.requires.1 b in
    let s = front_sent _ _ _ _ c.requires.0.ranked _ c.requires.0.starts _ c.requires.1 b in
    let e = ap (λ (i : ℕ). start_of (runs_in l.list) (get_or l.order.now c.args.front.rank 0) + (c.args.front.q - i)) a.image_is in
    omega (arith, e, s.below)

pub returns : goal.returns
returns c =
    let l = c.args.self in
    let b = begins_below _ _ _ c.requires.0.ranked.legal c.requires.0.starts _ c.requires.2 in
    let a = front_rank _ _ _ _ c.requires.0.ranked _ c.requires.0.starts _ c.requires.1 b in
    let e = ap (λ (i : ℕ). start_of (runs_in l.list) (get_or l.order.now c.args.front.rank 0) + (c.args.front.q - i)) a.image_is in
    front_piece _ _ _ _ c.requires.0.ranked _ c.requires.0.starts _ c.requires.1 b c.requires.2 _ _ e c.entry_or.ensures

-- The run of the place's rank sends there what lies as far above its start.
use Rattle.std.proofs.Common.{arith}
use Rattle.cuts.proofs.Cutlist.{ranking, ranked_run, sent_to}
use Rattle.cuts.proofs.CutRuns.origin_of.Goals as goal

pub run_at_rank-x-requires : goal.run_at_rank-x-requires
run_at_rank-x-requires c = ranking _ _ _ _ c.requires.0.ranked _ c.requires.1 (omega arith)

pub offset_bounds-self-x : goal.offset_bounds-self-x
offset_bounds-self-x c =
    let f = ranked_run _ _ _ _ c.requires.0.ranked _ c.requires.1 _ c.run_at_rank-x.ensures in omega (arith, f.known)

pub bounds-self-x : goal.bounds-self-x
bounds-self-x c = (ranked_run _ _ _ _ c.requires.0.ranked _ c.requires.1 _ c.run_at_rank-x.ensures).known

pub offset_bounds-self-x-2 : goal.offset_bounds-self-x-2
offset_bounds-self-x-2 c =
    let f = ranked_run _ _ _ _ c.requires.0.ranked _ c.requires.1 _ c.run_at_rank-x.ensures in omega (arith, f.known)

pub bounds-self-x-2 : goal.bounds-self-x-2
bounds-self-x-2 c =
    let f = ranked_run _ _ _ _ c.requires.0.ranked _ c.requires.1 _ c.run_at_rank-x.ensures in
    omega (arith, f.known, c.requires.0.ranked.legal.paired)

pub overflow_sub-result : goal.overflow_sub-result
overflow_sub-result c = (ranked_run _ _ _ _ c.requires.0.ranked _ c.requires.1 _ c.run_at_rank-x.ensures).from

pub overflow_add-result : goal.overflow_add-result
overflow_add-result c =
    let f = ranked_run _ _ _ _ c.requires.0.ranked _ c.requires.1 _ c.run_at_rank-x.ensures in
    let s = sent_to _ _ _ _ c.requires.0.ranked _ c.requires.1 _ f in
    omega (arith, s.below)

pub returns : goal.returns
returns c =
    sent_to _ _ _ _ c.requires.0.ranked _ c.requires.1 _
    (ranked_run _ _ _ _ c.requires.0.ranked _ c.requires.1 _ c.run_at_rank-x.ensures)

-- Each turn writes the runs up to a cut, and the cut (proofs/Writing).
use Rattle.std.proofs.Common.{◌≡◌, ℕ, length, subst, arith}
use Rattle.runs.specs.Runs.{runs_in}
use Rattle.merging.proofs.Merged.{merged_length}
use Rattle.balance.proofs.Writing.{Writing, writing_start, writing_within, writing_kept, writing_up_to, has_cut, writing_cut, writing_end}
use Rattle.balance.proofs.fill.write_list.Goals as goal

pub loop-c-init : goal.loop-c-init
loop-c-init c =
    let e = merged_length c.args.list.starts.now c.args.cuts.now in
    writing_start _ _ _ _ _ c.requires.0 c.requires.1 (omega arith) (omega arith)

pub overflow_add-x : goal.overflow_add-x
overflow_add-x c =
    let w = writing_within _ _ _ _ _ c.requires.0 c.requires.1 _ _ _ _ c.loop-c.invariant in
    omega arith

pub copy_up_to-x-requires : goal.copy_up_to-x-requires
copy_up_to-x-requires c =
    let w = writing_within _ _ _ _ _ c.requires.0 c.requires.1 _ _ _ _ c.loop-c.invariant in
    let k = writing_kept _ _ _ _ _ c.requires.0 c.requires.1 _ _ _ _ c.loop-c.invariant in
    (c.requires.0.paired, w.0, omega arith, omega arith)

pub bounds-to_starts-x : goal.bounds-to_starts-x
bounds-to_starts-x c =
    let e = c.copy_up_to-x.ensures in
    let p = writing_up_to _ _ _ _ _ c.requires.0 c.requires.1 _ _ _ _ c.loop-c.invariant c.loop-c-test.true _ e.0 _ _ e.1 e.2 in
    let w = writing_within _ _ _ _ _ c.requires.0 c.requires.1 _ _ _ _ p.1 in
    let k = writing_kept _ _ _ _ _ c.requires.0 c.requires.1 _ _ _ _ p.1 in
    omega arith

pub overflow_sub-x : goal.overflow_sub-x
overflow_sub-x c =
    let e = c.copy_up_to-x.ensures in
    let p = writing_up_to _ _ _ _ _ c.requires.0 c.requires.1 _ _ _ _ c.loop-c.invariant c.loop-c-test.true _ e.0 _ _ e.1 e.2 in
    omega (arith, (has_cut _ _ _ _ _ c.requires.0 c.requires.1 _ _ _ _ p.1 c.loop-c-test.true p.0).0)

pub image_of-requires : goal.image_of-requires
image_of-requires c =
    let e = c.copy_up_to-x.ensures in
    let p = writing_up_to _ _ _ _ _ c.requires.0 c.requires.1 _ _ _ _ c.loop-c.invariant c.loop-c-test.true _ e.0 _ _ e.1 e.2 in
    (c.requires.0, (has_cut _ _ _ _ _ c.requires.0 c.requires.1 _ _ _ _ p.1 c.loop-c-test.true p.0).1)

pub bounds-to_images-x : goal.bounds-to_images-x
bounds-to_images-x c =
    let e = c.copy_up_to-x.ensures in
    let p = writing_up_to _ _ _ _ _ c.requires.0 c.requires.1 _ _ _ _ c.loop-c.invariant c.loop-c-test.true _ e.0 _ _ e.1 e.2 in
    let w = writing_within _ _ _ _ _ c.requires.0 c.requires.1 _ _ _ _ p.1 in
    let k = writing_kept _ _ _ _ _ c.requires.0 c.requires.1 _ _ _ _ p.1 in
    omega arith

pub loop-c-preserved : goal.loop-c-preserved
loop-c-preserved c =
    let e = c.copy_up_to-x.ensures in
    let p = writing_up_to _ _ _ _ _ c.requires.0 c.requires.1 _ _ _ _ c.loop-c.invariant c.loop-c-test.true _ e.0 _ _ e.1 e.2 in
    writing_cut _ _ _ _ _ c.requires.0 c.requires.1 _ _ _ _ p.1 c.loop-c-test.true p.0 _ c.image_of.ensures

pub copy_rest-requires : goal.copy_rest-requires
copy_rest-requires c =
    let w = writing_within _ _ _ _ _ c.requires.0 c.requires.1 _ _ _ _ c.loop-c.invariant in
    let k = writing_kept _ _ _ _ _ c.requires.0 c.requires.1 _ _ _ _ c.loop-c.invariant in
    (w.0, omega arith)

pub copy_rest-requires-2 : goal.copy_rest-requires-2
copy_rest-requires-2 c =
    let w = writing_within _ _ _ _ _ c.requires.0 c.requires.1 _ _ _ _ c.loop-c.invariant in
    let k = writing_kept _ _ _ _ _ c.requires.0 c.requires.1 _ _ _ _ c.loop-c.invariant in
    let e = c.requires.0.paired in
    (omega arith, omega arith)

pub returns : goal.returns
returns c =
    let w = writing_within _ _ _ _ _ c.requires.0 c.requires.1 _ _ _ _ c.loop-c.invariant in
    let q : c.loop-c.c ≡ length c.args.cuts.now = omega arith in
    let v = subst (λ (k : ℕ). Writing c.args.list.n (runs_in c.args.list) c.args.cuts.now c.args.to_starts.now c.args.to_images.now
    c.loop-c.to_starts c.loop-c.to_images c.loop-c.x k) q c.loop-c.invariant in
    writing_end _ _ _ _ _ c.requires.0 c.requires.1 _ _ _ _ v (omega arith) _ _ c.copy_rest.ensures c.copy_rest-2.ensures

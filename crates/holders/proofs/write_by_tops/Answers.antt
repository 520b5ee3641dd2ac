use Rattle.std.proofs.Common.{ℕ, ◌≡◌, ◌+◌, ◌<◌, length, get_or, sym, subst, ◌∙◌, arith}
use Rattle.std.proofs.Math.ListN.{length-map}
use Rattle.order.proofs.Filling.{filling_next}
use Rattle.order.proofs.Laws.{count_le_length, get_d_map}
use Rattle.runs.specs.Runs.{runs_in, run_at}
use Rattle.runs.proofs.Legality.{image_below}
use Rattle.holders.specs.Buckets.{bucket_of}
use Rattle.holders.specs.Parts.{NotBelow}
use Rattle.holders.proofs.Holding.{runs_below, holder_counted, tops_above}
use Rattle.holders.proofs.write_by_tops.Goals as goal
use Rattle.holders.proofs.write_by_tops.Goals.{In-loop-x}

-- the bucket of a turn's image has an entry
bucketed : (c : In-loop-x) → bucket_of c.args.scale (get_or c.args.list.images.now c.loop-x.x 0) < length c.args.tops.now
bucketed c =
    let a = c.args in
    c.requires.1.scaled.inside _ (image_below a.list.n (runs_in a.list) c.requires.0 c.loop-x.x (omega (arith, c.requires.0.paired)))

pub bucket_of-requires : goal.bucket_of-requires
bucket_of-requires c = omega (arith, bucketed (goal.at.bucket_of-requires c).In-loop-x, c.requires.1.scaled.few)

pub offset_bounds-tops-bucket_of : goal.offset_bounds-tops-bucket_of
offset_bounds-tops-bucket_of c =
    omega (arith, c.bucket_of.ensures, bucketed (goal.at.offset_bounds-tops-bucket_of c).In-loop-x, c.requires.1.scaled.few)

pub bounds-tops-bucket_of : goal.bounds-tops-bucket_of
bounds-tops-bucket_of c = omega (arith, c.bucket_of.ensures, bucketed (goal.at.bounds-tops-bucket_of c).In-loop-x)

pub holder_up_to-requires : goal.holder_up_to-requires
holder_up_to-requires c =
    let a = c.args in
    let x = c.loop-x.x in
    let within : x < length a.list.starts.now = omega (arith, c.requires.0.paired) in (
      subst (λ (u : ℕ). NotBelow a.list.starts.now (get_or a.list.images.now x 0) (get_or a.tops.now u 0)) (sym c.bucket_of.ensures)
          (tops_above a.list.n (runs_in a.list) c.requires.0 _ a.tops.now c.requires.1 x within),
      omega (arith, image_below a.list.n (runs_in a.list) c.requires.0 x within),
    )

pub overflow_cast-to : goal.overflow_cast-to
overflow_cast-to c =
    let a = c.args in
    omega (
      arith,
      c.holder_up_to.ensures,
      count_le_length (get_or a.list.images.now c.loop-x.x 0 + 1) a.list.starts.now,
      runs_below a.list.n (runs_in a.list) c.requires.0,
    )

pub loop-x-preserved : goal.loop-x-preserved
loop-x-preserved c =
    let a = c.args in
    let holder = run_at a.list.n (runs_in a.list) in
    let l = c.loop-x in
    let found : c.holder_up_to.result ≡ holder (get_or a.list.images.now l.x 0) =
    omega (arith, c.holder_up_to.ensures, holder_counted a.list.n (runs_in a.list) c.requires.0 l.x (omega (arith, c.requires.0.paired))) in
    filling_next _ _ _ _ l.invariant (omega (arith, length-map a.list.images.now holder)) _
    (found ∙ sym (get_d_map holder a.list.images.now l.x 0 (omega arith)))

use Rattle.std.proofs.Common.{◌≡◌, ℕ, length, List, get_or, take, ap, ◌∙◌, arith}
use Rattle.std.proofs.Math.Seq.{get_or-take}
use Rattle.order.specs.Order.{key_of, order_of}
use Rattle.order.proofs.Laws.{order_below}
use Rattle.runs.specs.Runs.{Runs}
use Rattle.runs.specs.Parts.{Ordered}
use Rattle.cuts.proofs.find_cuts.Goals as goal

-- `order` begins with the order by image
module _ (r : Runs) (order : List ℕ) (o : Ordered r order) where
  ordered : take (length r.images) order ≡ order_of r.images
  ordered = ap (λ (k : ℕ). take k order) o.paired ∙ o.sorted

pub gather-requires : goal.gather-requires
gather-requires c =
    let i = c.args.list.images.now in
    let q = c.requires in
    record {
      room = omega (arith, q.ordered.paired);
      indexes = omega (arith, q.ordered.paired);
      below = λ t h. omega (
        arith,
        get_or-take (length i) c.args.order.now t 0 h,
        ap (λ (l : List ℕ). get_or l t 0) (ordered _ _ q.ordered),
        order_below (key_of i) (length i) t h,
      );
    }

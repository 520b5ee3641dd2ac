-- The order of the runs by image: each run has one rank, and images rise with it. And the table that holds it.
use Prim.Native.Nat.{ℕ, suc, ◌+◌, ◌≤◌, ◌<◌}
use mathlib.Core.Path.{◌≡◌, sym, ap, ◌∙◌}
use mathlib.Core.List.{List, ◌++◌}
use native.Mathlib.Numerals.{add-one}
use native.Mathlib.Omega.{arith}
use lib.ListN.{length, get_or, take, length-take}
use lib.Seq.{take_at, get_or-take}
use Rattle.order.specs.Order.{key_of, order_of}
use Rattle.order.proofs.Laws.{order_length, order_below, order_keys, order_occurs, order_injective}
use Rattle.runs.specs.Runs.{Runs, count_of, image_of}
use Rattle.runs.specs.Parts.{ranked, Ordered}

-- the order by image, over all runs
module _ (r : Runs) (p : length r.images ≡ count_of r) where
  pub ranked_below : (t : ℕ) → t < count_of r → ranked r t < count_of r
  ranked_below t h = omega (arith, p, order_below (key_of r.images) (length r.images) t (omega arith))

  pub ranked_rises : (s t : ℕ) → s ≤ t → t < count_of r → image_of r (ranked r s) ≤ image_of r (ranked r t)
  ranked_rises s t h l = order_keys (key_of r.images) (length r.images) s t h (omega arith)

  pub ranked_occurs : (x : ℕ) → x < count_of r → (t : ℕ) × (t < count_of r) × (ranked r t ≡ x)
  ranked_occurs x h =
      let o = order_occurs (key_of r.images) (length r.images) x (omega arith) in
      (o.0, omega (arith, o.1), o.2)

  pub ranked_one : (s t : ℕ) → s < count_of r → t < count_of r → ranked r s ≡ ranked r t → s ≡ t
  ranked_one s t h l e = order_injective (key_of r.images) (length r.images) s t (omega arith) (omega arith) e

-- what `sort_by_key` leaves
pub ordered : (r : Runs) (order rest : List ℕ) → length r.images ≡ count_of r → order ≡ order_of r.images ++ rest
    → Ordered r order
ordered r order rest p e = record {
  paired = p;
  sorted = ap (take (count_of r)) e ∙ take_at (order_of r.images) rest (count_of r) (order_length (key_of r.images) (length r.images) ∙ p);
}

-- the table of the order: as many entries as runs, and at t the run of that rank
module _ (r : Runs) (order : List ℕ) (o : Ordered r order) where
  pub ordered_room : count_of r ≤ length order
  ordered_room =
      omega (
        arith,
        length-take (count_of r) order,
        ap length o.sorted,
        order_length (key_of r.images) (length r.images),
        o.paired,
      )

  module _ (t : ℕ) (h : t < count_of r) where
    pub entry_is : get_or order t 0 ≡ ranked r t
    entry_is = sym (get_or-take (count_of r) order t 0 h) ∙ ap (λ (l : List ℕ). get_or l t 0) o.sorted

    pub entry_below : get_or order t 0 < length r.images
    entry_below = omega (arith, o.paired, entry_is, ranked_below r o.paired t h)

    pub entry_image : image_of r (get_or order t 0) ≡ image_of r (ranked r t)
    entry_image = ap (image_of r) entry_is

  pub entry_next : (t : ℕ) → t + 1 < count_of r → image_of r (get_or order (t + 1) 0) ≡ image_of r (ranked r (suc t))
  entry_next t = rw add-one (entry_image (suc t))

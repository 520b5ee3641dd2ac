-- The starts passed along the images in rising order: those below where the next image begins, so that the starts passed
-- for a run are its weight; and the totals of the degrees after the runs passed.
use Prim.Native.Nat.{ℕ, suc, ◌+◌, ◌-◌, ◌≤◌, ◌<◌}
use mathlib.Core.Path.{◌≡◌, sym, ap, ◌∙◌}
use mathlib.Core.Logic.{◌⊎◌, inl, inr}
use mathlib.Core.List.{List, [], ◌∷◌, map}
use native.Mathlib.Nat.{div-le_self}
use native.Mathlib.Numerals.{add-one}
use native.Mathlib.Omega.{arith}
use lib.ListN.{length, get_or, take, drop, length-map, get_or-eq_default}
use lib.Seq.{take-suc, take_all}
use lib.Dec.{leb}
use Rattle.order.specs.Lists.{leading, count_below}
use Rattle.order.specs.Order.{key_of, order_of}
use Rattle.order.proofs.Laws.{lt_or_le, all_true, get_d_map, sum_append, count_none, count_le_length, order_length}
use Rattle.runs.specs.Legal.{Legal}
use Rattle.runs.specs.Parts.{ranked}
use Rattle.runs.specs.Runs.{Runs, count_of, image_of, image_end}
use Rattle.runs.specs.Weight.{weight}
use Rattle.runs.proofs.Legality.{homes, image_some}
use Rattle.runs.proofs.Ranking.{ranked_below}
use Rattle.runs.proofs.Sums.{count_inside}
use Rattle.runs.proofs.Tiling.{legal_tiled}
use Rattle.runs.proofs.Walks.{leading_drop, up_to_end, weight_is}
use Rattle.cuts.specs.Certain.{certain_cuts}
use Rattle.bounds.specs.Parts.{PerDegree, certain_of, image_from, Added}

-- the runs before j in the order by image are passed
pub record Passed (n : ℕ) (r : Runs) (totals : List ℕ) (passed j : ℕ) : Type 0 where
  pub passed_is : passed ≡ count_below (image_from n r j) r.starts
  pub summed : PerDegree (certain_of n r (take j (order_of r.images))) totals
  pub small : (i : ℕ) → i < 63 → get_or totals i 0 ≤ passed

-- where the image at a rank begins
module _ (n : ℕ) (r : Runs) (p : length r.images ≡ count_of r) where
  in_order : length (order_of r.images) ≡ count_of r
  in_order = order_length (key_of r.images) (length r.images) ∙ p

  pub from_held : (j : ℕ) → j < count_of r → image_from n r j ≡ image_of r (ranked r j)
  from_held j h = get_d_map (image_of r) (order_of r.images) j n (omega (arith, in_order))

  pub from_end : (j : ℕ) → count_of r ≤ j → image_from n r j ≡ n
  from_end j h =
      get_or-eq_default (map (image_of r) (order_of r.images)) n
      (omega (arith, length-map (order_of r.images) (image_of r), in_order))

module _ (n : ℕ) (r : Runs) (c : Legal n r) where
  -- an image ends where the next begins
  from_next : (j : ℕ) → j < count_of r → image_from n r (suc j) ≡ image_end n r (ranked r j)
  from_next j h = go (lt_or_le (suc j) (count_of r))
    where
      go : (suc j < count_of r) ⊎ (count_of r ≤ suc j) → image_from n r (suc j) ≡ image_end n r (ranked r j)
      go (inl l) = from_held n r c.paired (suc j) l ∙ (legal_tiled n r c).next j l
      go (inr l) = from_end n r c.paired (suc j) l ∙ sym ((legal_tiled n r c).last j (omega arith))

  pub from_some : (j : ℕ) → j < count_of r → 0 < image_from n r (j + 1)
  from_some j h =
      let x = ranked_below r c.paired j h in
      rw (add-one j) (omega (arith, from_next j h, image_some n r c (ranked r j) x))

  -- the starts under the image at j
  from_weight : (j : ℕ) → j < count_of r
      → count_below (image_from n r j) r.starts + weight n r (ranked r j) ≡ count_below (image_from n r (suc j)) r.starts
  from_weight j h = rw (from_held n r c.paired j h, from_next j h)
      (omega (
        arith,
        weight_is n r (ranked r j),
        count_inside (image_of r (ranked r j)) (image_end n r (ranked r j)) r.starts (omega arith),
      ))

  pub passed_none : (totals : List ℕ) → PerDegree (λ d. 0) totals → Passed n r totals 0 0
  passed_none totals z = record {
    passed_is =
        let e = from_held n r c.paired 0 c.some ∙ (legal_tiled n r c).from in
        let z = all_true (λ y. 0 ≤ y) r.starts (λ y. omega arith) in
        sym (ap (λ (t : ℕ). count_below t r.starts) e ∙ count_none 0 r.starts z);
    summed = λ i h. z i h;
    small = λ i h. omega (arith, z i h);
  }

  module _ (totals : List ℕ) (passed j : ℕ) (p : Passed n r totals passed j) where
    pub passed_few : passed ≤ count_of r
    passed_few = omega (arith, p.passed_is, count_le_length (image_from n r j) r.starts)

    module _ (h : j < count_of r) (end to : ℕ) (e : end ≡ image_from n r (j + 1))
        (t : to ≡ passed + leading (λ s. leb s (end - 1)) (drop passed r.starts))
      where
        -- the starts passed after this run
        to_is : to ≡ count_below (image_from n r (suc j)) r.starts
        to_is =
            let f : end ≡ image_from n r (suc j) = e ∙ ap (image_from n r) (add-one j) in
            let b : passed ≤ count_below end r.starts = rw f (omega (arith, p.passed_is, from_weight j h)) in
            let l = rw (up_to_end end (omega (arith, from_some j h))) at t in
            omega (arith, leading_drop r.starts end passed (homes n r c).up b, ap (λ (u : ℕ). count_below u r.starts) f)

        weighed : to - passed ≡ weight n r (ranked r j)
        weighed = omega (arith, to_is, p.passed_is, from_weight j h)

        pub passed_next : (totals' : List ℕ) → Added (to - passed) totals totals' → Passed n r totals' to (j + 1)
        passed_next totals' a = record {
          passed_is = rw (add-one j) to_is;
          summed = λ i l. rw (add-one j, take-suc (order_of r.images) j 0 (omega (arith, in_order n r c.paired)))
              (omega (
                arith,
                a i l,
                p.summed i l,
                ap (certain_cuts (i + 2)) weighed,
                sum_append (λ x. certain_cuts (i + 2) (weight n r x)) (take j (order_of r.images)) (ranked r j ∷ []),
              ));
          small = λ i l. omega (arith, a i l, p.small i l, div-le_self (to - passed) (i + 2), t);
        }

    pub passed_all : count_of r ≤ j → PerDegree (certain_of n r (order_of r.images)) totals
    passed_all h i l =
        let e = take_all j (order_of r.images) (omega (arith, in_order n r c.paired)) in
        p.summed i l ∙ ap (λ (o : List ℕ). certain_of n r o (i + 2)) e

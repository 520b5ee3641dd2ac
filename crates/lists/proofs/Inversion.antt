-- The inverse list of a legal list is legal, its function is the inverse function, and its inverse is the list again:
-- by the tiling, the images in rising order are the runs of the inverse.
use Prim.Native.Nat.{ℕ, zero, suc, ◌+◌, ◌-◌, ◌≤◌, ◌<◌}
use mathlib.Core.Path.{◌≡◌, sym, ap, ◌∙◌}
use mathlib.Core.Logic.{◌⊎◌, inl, inr}
use native.Mathlib.Omega.{arith}
use lib.ListN.{length, length-map}
use lib.Seq.{ext_get_or}
use Rattle.order.specs.Order.{key_of, order_of}
use Rattle.order.proofs.Laws.{lt_or_le, length_sort, length_up, order_length, pairwise_at, get_d_map}
use Rattle.outcomes.specs.Outcome.{done}
use Rattle.runs.specs.Runs.{Runs, runs, count_of, start_of, image_of, end_of, image_end, carry, map_of}
use Rattle.runs.specs.Legal.{Legal}
use Rattle.runs.specs.Parts.{ranked}
use Rattle.runs.specs.Check.{check_of}
use Rattle.lists.specs.Inverse.{inverse_runs}
use Rattle.runs.proofs.Legality.{homes, home, home_one, map_at, end_next, end_last, image_some}
use Rattle.runs.proofs.Ranking.{ranked_below, ranked_rises, ranked_occurs, ranked_one}
use Rattle.runs.proofs.Accepted.{accepted_legal, legal_accepted}
use Rattle.runs.proofs.Bijection.{map_onto}
use Rattle.runs.proofs.Tiling.{legal_tiled}

-- the inverse list, run by run
module _ (r : Runs) (p : length r.images ≡ count_of r) where
  pub inverse_count : count_of (inverse_runs r) ≡ count_of r
  unfolding inverse_runs
  inverse_count = simp (length-map, length_sort, length_up) (omega arith)

  pub inverse_paired : length (inverse_runs r).images ≡ count_of (inverse_runs r)
  unfolding inverse_runs
  inverse_paired = simp length-map

  pub inverse_start : (t : ℕ) → t < count_of r → start_of (inverse_runs r) t ≡ image_of r (ranked r t)
  unfolding inverse_runs
  inverse_start t h =
      get_d_map (image_of r) (order_of r.images) t 0
      (omega (arith, order_length (key_of r.images) (length r.images)))

  pub inverse_image : (t : ℕ) → t < count_of r → image_of (inverse_runs r) t ≡ start_of r (ranked r t)
  unfolding inverse_runs
  inverse_image t h =
      get_d_map (start_of r) (order_of r.images) t 0
      (omega (arith, order_length (key_of r.images) (length r.images)))

module _ (n : ℕ) (r : Runs) (c : Legal n r) where
  count : count_of (inverse_runs r) ≡ count_of r
  count = inverse_count r c.paired

  -- a run of the inverse ends where the image does
  inverse_end : (t : ℕ) → t < count_of r → end_of n (inverse_runs r) t ≡ image_end n r (ranked r t)
  inverse_end t h = go (lt_or_le (suc t) (count_of r))
    where
      go : (suc t < count_of r) ⊎ (count_of r ≤ suc t) → end_of n (inverse_runs r) t ≡ image_end n r (ranked r t)
      go (inl l) =
          end_next n (inverse_runs r) t (omega (arith, count)) ∙ inverse_start r c.paired (suc t) l
          ∙ (legal_tiled n r c).next t l
      go (inr l) = end_last n (inverse_runs r) t (omega (arith, count)) ∙ sym ((legal_tiled n r c).last t (omega arith))

  -- and its image where the run does
  inverse_image_end : (t : ℕ) → t < count_of r → image_end n (inverse_runs r) t ≡ end_of n r (ranked r t)
  inverse_image_end t h =
      omega (
        arith,
        inverse_image r c.paired t h,
        inverse_start r c.paired t h,
        inverse_end t h,
        (homes n r c).lasting (ranked r t) (ranked_below r c.paired t h),
      )

  pub inverse_legal : Legal n (inverse_runs r)
  inverse_legal = record {
    some = omega (arith, count, c.some);
    paired = inverse_paired r c.paired;
    first = inverse_start r c.paired 0 c.some ∙ (legal_tiled n r c).from;
    below = λ t h. below t (omega (arith, count));
    rising = λ t h. rising t (omega (arith, count));
    within = λ t h. within t (omega (arith, count));
    apart = λ s t p h l. apart s t p (omega (arith, count)) (omega (arith, count));
  }
    where
      below : (t : ℕ) → t < count_of r → start_of (inverse_runs r) t < n
      below t h =
          let x = ranked_below r c.paired t h in
          omega (arith, inverse_start r c.paired t h, image_some n r c (ranked r t) x, c.within (ranked r t) x)

      rising : (t : ℕ) → suc t < count_of r → start_of (inverse_runs r) t < start_of (inverse_runs r) (suc t)
      rising t h =
          omega (
            arith,
            inverse_start r c.paired t (omega arith),
            inverse_start r c.paired (suc t) h,
            (legal_tiled n r c).next t h,
            image_some n r c (ranked r t) (ranked_below r c.paired t (omega arith)),
          )

      within : (t : ℕ) → t < count_of r → image_end n (inverse_runs r) t ≤ n
      within t h =
          omega (arith, inverse_image_end t h, (homes n r c).ending (ranked r t) (ranked_below r c.paired t h))

      apart : (s t p : ℕ) → s < count_of r → t < count_of r → image_of (inverse_runs r) s ≤ p
          → p < image_end n (inverse_runs r) s
          → image_of (inverse_runs r) t ≤ p → p < image_end n (inverse_runs r) t → s ≡ t
      apart s t p h l a b d e =
          ranked_one r c.paired s t h l
          (home_one n r (homes n r c) (ranked r s) (ranked r t) p (ranked_below r c.paired s h) (ranked_below r c.paired t l)
          (omega (arith, inverse_image r c.paired s h)) (omega (arith, inverse_image_end s h))
          (omega (arith, inverse_image r c.paired t l)) (omega (arith, inverse_image_end t l)))

  -- the inverse list's function is the inverse function
  pub inverse_after : (p : ℕ) → p < n → map_of n (inverse_runs r) (map_of n r p) ≡ p
  inverse_after p h =
      let x = home n r (homes n r c) p h in
      let t = ranked_occurs r c.paired x.0 x.1 in
      let q = map_of n r p in
      let e : q ≡ carry r x.0 p = map_at n r (homes n r c) x.0 p x.1 x.2 x.3 in
      let i = ap (image_of r) t.2 in
      let j = ap (image_end n r) t.2 in
      let s = inverse_start r c.paired t.0 t.1 in
      omega (
        arith,
        x.2,
        ap (start_of r) t.2,
        inverse_image r c.paired t.0 t.1,
        map_at n (inverse_runs r) (homes n (inverse_runs r) inverse_legal) t.0 q (omega (arith, t.1, count))
            (omega arith) (omega (arith, inverse_end t.0 t.1, x.2, x.3)),
      )

  pub inverse_before : (q : ℕ) → q < n → map_of n r (map_of n (inverse_runs r) q) ≡ q
  inverse_before q h =
      let p = map_onto n r c q h in
      ap (λ (u : ℕ). map_of n r (map_of n (inverse_runs r) u)) (sym p.2) ∙ ap (map_of n r) (inverse_after p.0 p.1)
      ∙ p.2

-- a function that rises from index to index and stays below k is the identity below k
module _ (f : ℕ → ℕ) (k : ℕ) (up : (t : ℕ) → suc t < k → f t < f (suc t)) (below : (t : ℕ) → t < k → f t < k) where
  climbs : (d s t : ℕ) → s + d ≡ t → t < k → f s + d ≤ f t
  climbs zero s t e h = let q : s ≡ t = omega arith in omega (arith, ap f q)
  climbs (suc d) s t e h = omega (arith, up s (omega arith), climbs d (suc s) t (omega arith) h)

  rising_identity : (t : ℕ) → t < k → f t ≡ t
  rising_identity t h =
      omega (
        arith,
        climbs t 0 t (omega arith) h,
        climbs (k - suc t) t (k - 1) (omega arith) (omega arith),
        below (k - 1) (omega arith),
      )

-- the place in the order of the list by image of the run at t in the order of the inverse by image
abbrev rank_twice : Runs → ℕ → ℕ
rank_twice r t = ranked r (ranked (inverse_runs r) t)

module _ (n : ℕ) (r : Runs) (c : Legal n r) where
  rank_below : (t : ℕ) → t < count_of r → ranked (inverse_runs r) t < count_of r
  rank_below t h =
      omega (
        arith,
        inverse_count r c.paired,
        ranked_below (inverse_runs r) (inverse_paired r c.paired) t (omega (
          arith,
          inverse_count r c.paired,
        )),
      )

  twice_below : (t : ℕ) → t < count_of r → rank_twice r t < count_of r
  twice_below t h = ranked_below r c.paired (ranked (inverse_runs r) t) (rank_below t h)

  -- starts rise in the order of the inverse by image, so the runs do
  twice_rises : (t : ℕ) → suc t < count_of r → rank_twice r t < rank_twice r (suc t)
  twice_rises t h =
      go (lt_or_le (rank_twice r t) (rank_twice r (suc t))) (lt_or_le (rank_twice r (suc t)) (rank_twice r t))
    where
      l : suc t < count_of (inverse_runs r)
      l = omega (arith, inverse_count r c.paired)

      starts : start_of r (rank_twice r t) ≤ start_of r (rank_twice r (suc t))
      starts =
          omega (
            arith,
            ranked_rises (inverse_runs r) (inverse_paired r c.paired) t (suc t) (omega arith) l,
            inverse_image r c.paired (ranked (inverse_runs r) t) (rank_below t (omega arith)),
            inverse_image r c.paired (ranked (inverse_runs r) (suc t)) (rank_below (suc t) h),
          )

      go : (rank_twice r t < rank_twice r (suc t)) ⊎ (rank_twice r (suc t) ≤ rank_twice r t)
          → (rank_twice r (suc t) < rank_twice r t) ⊎ (rank_twice r t ≤ rank_twice r (suc t))
          → rank_twice r t < rank_twice r (suc t)
      go (inl a) b = a
      go (inr a) (inl b) =
          absurd
          (omega (
            arith,
            starts,
            pairwise_at ◌<◌ r.starts (homes n r c).up (rank_twice r (suc t)) (rank_twice r t) b (twice_below t (omega arith)),
          ))
      go (inr a) (inr b) =
          let e = ranked_one r c.paired (ranked (inverse_runs r) t) (ranked (inverse_runs r) (suc t)) (rank_below t (omega arith)) (rank_below (suc t) h) (omega arith) in
          absurd
          (omega (arith, ranked_one (inverse_runs r) (inverse_paired r c.paired) t (suc t) (omega (arith, l)) l e))

  -- the two orders take each other back
  rank_back : (t : ℕ) → t < count_of r → rank_twice r t ≡ t
  rank_back = rising_identity (rank_twice r) (count_of r) twice_rises twice_below

  pub inverse_twice : inverse_runs (inverse_runs r) ≡ r
  inverse_twice = λ i. runs (starts i) (images i)
    where
      p : length (inverse_runs r).images ≡ count_of (inverse_runs r)
      p = inverse_paired r c.paired

      count_twice : count_of (inverse_runs (inverse_runs r)) ≡ count_of r
      count_twice = inverse_count (inverse_runs r) p ∙ inverse_count r c.paired

      starts : (inverse_runs (inverse_runs r)).starts ≡ r.starts
      starts = ext_get_or 0 _ _ count_twice (λ t h. start t (omega (arith, count_twice)))
        where
          start : (t : ℕ) → t < count_of r → start_of (inverse_runs (inverse_runs r)) t ≡ start_of r t
          start t h =
              inverse_start (inverse_runs r) p t (omega (arith, inverse_count r c.paired))
              ∙ inverse_image r c.paired (ranked (inverse_runs r) t) (rank_below t h) ∙ ap (start_of r) (rank_back t h)

      images : (inverse_runs (inverse_runs r)).images ≡ r.images
      images =
          ext_get_or 0 _ _ (inverse_paired (inverse_runs r) p ∙ count_twice ∙ sym c.paired)
          (λ t h. image t (omega (arith, inverse_paired (inverse_runs r) p, count_twice)))
        where
          image : (t : ℕ) → t < count_of r → image_of (inverse_runs (inverse_runs r)) t ≡ image_of r t
          image t h =
              inverse_image (inverse_runs r) p t (omega (arith, inverse_count r c.paired))
              ∙ inverse_start r c.paired (ranked (inverse_runs r) t) (rank_below t h) ∙ ap (image_of r) (rank_back t h)

-- the inverse list of an accepted list is accepted
pub inverse_accepted : (n : ℕ) (r : Runs) → check_of n r ≡ done tt → check_of n (inverse_runs r) ≡ done tt
inverse_accepted n r e =
    let a = accepted_legal n r e in
    legal_accepted n (inverse_runs r) (inverse_legal n r a.0) (omega (arith, a.1, inverse_count r a.0.paired))

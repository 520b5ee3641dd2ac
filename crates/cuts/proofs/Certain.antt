-- The balanced list has at least as many intervals as there are runs and certain cuts: a cut leaves that sum as it is, or
-- higher, and in the balanced list no cut is certain.
use Prim.Native.Nat.{ℕ, suc, ◌+◌, ◌-◌, ◌*◌, ◌/◌, ◌≤◌, ◌<◌}
use mathlib.Core.Path.{◌≡◌, ◌∙◌}
use native.Mathlib.Nat.{div-mul-le_self, div-eq-sub-div, div-lt_iff_lt-mul, le-div_iff_mul-le}
use native.Mathlib.Omega.{arith}
use lib.ListN.{get_or}
use Rattle.runs.proofs.Sums.{sum_to, sum_term, sum_same, sum_zero, sum_grow}
use Rattle.runs.specs.Legal.{Legal}
use Rattle.runs.specs.Runs.{Runs, count_of}
use Rattle.runs.specs.Weight.{under, weight}
use Rattle.cuts.specs.Balance.{cut_at, balanced}
use Rattle.cuts.specs.Certain.{certain_cuts}
use Rattle.cuts.proofs.Cut.{cut_count}
use Rattle.cuts.proofs.Weights.{weight_cut, kept_left, kept_right, cut_at_kept}
use Rattle.cuts.proofs.Balancing.{Light, cutting_done, cutting_ind, balanced_light}

module _ (d : ℕ) (some : 0 < d) where
  pub certain_none : (w : ℕ) → w < 2 * d → certain_cuts d w ≡ 0
  certain_none w h = omega (arith, (div-lt_iff_lt-mul {k = d} {x = w} {y = 2} some).1 h)

  pub none_certain : (w : ℕ) → certain_cuts d w ≡ 0 → w < 2 * d
  none_certain w h = (div-lt_iff_lt-mul {k = d} {x = w} {y = 2} some).0 (omega arith)

  certain_mono : (v w : ℕ) → v ≤ w → certain_cuts d v ≤ certain_cuts d w
  certain_mono v w h =
      omega (arith, (le-div_iff_mul-le {k = d} {x = v / d} {y = w} some).1 (omega (arith, div-mul-le_self v d)))

  -- a cut that takes d starts off makes at most one certain cut fewer
  certain_less : (v w : ℕ) → d ≤ w → w ≤ v + d → certain_cuts d w ≤ certain_cuts d v + 1
  certain_less v w h l =
      omega (arith, div-eq-sub-div {m = d} {n = w} some h, certain_mono (w - d) v (omega arith))

-- the certain cuts of all runs
abbrev certain : ℕ → ℕ → Runs → ℕ
certain d n r = sum_to (count_of r) (λ x. certain_cuts d (weight n r x))

module _ (d n : ℕ) (many : 2 ≤ d) where
  certain_light : (r : Runs) → Light d n r → certain d n r ≡ 0
  certain_light r l =
      sum_same (count_of r) (λ x. certain_cuts d (weight n r x)) (λ x. 0) (λ x h. certain_none d (omega arith) (weight n r x) (l x h))
      ∙ sum_zero (count_of r)

  certain_cut : (r : Runs) → Legal n r → (x : ℕ) → x < count_of r → 2 * d ≤ weight n r x
      → certain d n r ≤ certain d n (cut_at d n r x) + 1
  certain_cut r c x hx h =
      let s = get_or (under n r x) d 0 in
      let k = cut_at_kept d n r c x hx (omega arith) (omega arith) in
      let q = cut_at d n r x in
      rw (cut_count n r c.paired x s hx)
      (omega (
        arith,
        sum_grow 0 1 x (count_of r) (λ y. certain_cuts d (weight n r y)) (λ y. certain_cuts d (weight n q y)) hx
            (λ y l. certain_mono d (omega arith) (weight n r y) (weight n q y)
            (omega (arith, weight_cut n r x s y, kept_left n r c.paired x s hx y l)))
            (omega (
              arith,
              certain_less d (omega arith) (weight n q (suc x)) (weight n r x) (omega arith)
                  (omega (arith, weight_cut n r x s (suc x))),
            ))
            (λ y l m. certain_mono d (omega arith) (weight n r y) (weight n q (suc y))
            (omega (arith, weight_cut n r x s (suc y), kept_right n r c.paired x s hx y l))),
      ))

pub balanced_least : (d n : ℕ) → 2 ≤ d → (r : Runs) → Legal n r
    → count_of r + sum_to (count_of r) (λ x. certain_cuts d (weight n r x)) ≤ count_of (balanced d n r)
unfolding balanced
balanced_least d n many r c = omega (
  arith,
  certain_light d n many (balanced d n r) (balanced_light d n many r c),
  cutting_ind d n many (λ f r q. count_of r + certain d n r ≤ count_of q + certain d n q) (λ f r c l. omega arith)
      (λ r x c h w. omega arith)
      (λ f r q x c h w i. omega (
        arith,
        i,
        certain_cut d n many r c x h w,
        cut_count n r c.paired x (get_or (under n r x) d 0) h,
      ))
      (count_of r) r c,
)

-- where no cut is certain none is made
pub balanced_uncut : (d n : ℕ) → 2 ≤ d → (r : Runs) → sum_to (count_of r) (λ x. certain_cuts d (weight n r x)) ≡ 0
    → balanced d n r ≡ r
unfolding balanced
balanced_uncut d n many r e = cutting_done (count_of r) d n r (λ x h. none_certain d (omega arith) (weight n r x)
    (omega (arith, sum_term (count_of r) (λ y. certain_cuts d (weight n r y)) x h)))

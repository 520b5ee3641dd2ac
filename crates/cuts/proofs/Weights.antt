-- Weights, and what a cut does to them: it adds one start, so no weight falls and only one rises.
use Prim.Native.Nat.{ℕ, suc, ◌+◌, ◌-◌, ◌*◌, ◌≤◌, ◌<◌}
use mathlib.Core.Path.{◌≡◌, sym, ◌∙◌}
use mathlib.Core.Logic.{◌⊎◌, inl, inr}
use native.Mathlib.Omega.{arith}
use lib.ListN.{length, get_or}
use lib.Dec.{leb}
use borrow.Author.Tests.{le-leb}
use Rattle.order.specs.Lists.{bit, count, count_below}
use Rattle.order.proofs.Laws.{lt_or_le, bit_le, count_mono}
use Rattle.runs.proofs.Sums.{sum_to, sum_mono, sum_same, sum_times, sum_grow, bit_leb, times_bit, tally, inside, count_insert, counts_once, count_inside, keep_cut}
use Rattle.runs.specs.Legal.{Legal}
use Rattle.runs.specs.Runs.{Runs, count_of, start_of, image_of, end_of, image_end, carry_back}
use Rattle.runs.specs.Weight.{under, weight}
use Rattle.runs.proofs.Walks.{weight_is}
use Rattle.cuts.specs.Balance.{cut, cut_at}
use Rattle.runs.proofs.Legality.{homes, lands, landed}
use Rattle.cuts.proofs.Cut.{Is, cut_count, cut_left, cut_first, cut_second, cut_right}

pub weights_sum : (n : ℕ) (r : Runs) → Legal n r → sum_to (count_of r) (weight n r) ≡ count_of r
weights_sum n r c = sum_same (count_of r) (weight n r) (λ x. count (inside (image_of r x) (image_end n r x)) r.starts)
    (λ x h. weight_is n r x)
    ∙ counts_once (count_of r) (λ x. inside (image_of r x) (image_end n r x)) r.starts
    (λ j h. landed n r c (get_or r.starts j 0) (c.below j h))

-- how many intervals have weight d or more
abbrev pub ample : ℕ → ℕ → Runs → ℕ
ample d n r = tally (count_of r) (λ x. leb d (weight n r x))

pub ample_bound : (d n : ℕ) (r : Runs) → Legal n r → d * ample d n r ≤ count_of r
ample_bound d n r c = omega (
  arith,
  sum_times (count_of r) d (λ x. bit (leb d (weight n r x))),
  sum_mono (count_of r) (λ x. d * bit (leb d (weight n r x))) (weight n r) (λ x h. times_bit d (weight n r x)),
  weights_sum n r c,
)

-- the place of a cut
module _ (d n : ℕ) (r : Runs) (c : Legal n r) (x : ℕ) (some : 0 < d) (h : d < weight n r x) where
  pub place : (image_of r x < get_or (under n r x) d 0) × (get_or (under n r x) d 0 < image_end n r x)
      × (count_below (get_or (under n r x) d 0) r.starts ≡ count_below (image_of r x) r.starts + d)
  place = go (lt_or_le (image_of r x) (get_or (under n r x) d 0))
      (keep_cut (image_of r x) (image_end n r x) r.starts d (omega arith) (homes n r c).up
      (omega (arith, weight_is n r x)))
    where
      go : (image_of r x < get_or (under n r x) d 0) ⊎ (get_or (under n r x) d 0 ≤ image_of r x)
          → (image_of r x ≤ get_or (under n r x) d 0) × (get_or (under n r x) d 0 < image_end n r x)
          × (count_below (get_or (under n r x) d 0) r.starts ≡ count_below (image_of r x) r.starts + d)
          → (image_of r x < get_or (under n r x) d 0) × (get_or (under n r x) d 0 < image_end n r x)
          × (count_below (get_or (under n r x) d 0) r.starts ≡ count_below (image_of r x) r.starts + d)
      go (inl l) k = (l, k.1, k.2)
      go (inr l) k = absurd (omega (arith, count_mono (get_or (under n r x) d 0) (image_of r x) r.starts l))

-- how many of the old starts lie under interval y of the list after the cut
abbrev pub kept : ℕ → Runs → ℕ → ℕ → ℕ → ℕ
kept n r x s y = count (inside (image_of (cut r x s) y) (image_end n (cut r x s) y)) r.starts

-- a cut adds one start: no weight falls, and only that of the interval under which it lands rises
pub weight_cut : (n : ℕ) (r : Runs) (x s y : ℕ)
    → weight n (cut r x s) y ≡ bit (lands n (cut r x s) (carry_back r x s) y) + kept n r x s y
weight_cut n r x s y = weight_is n (cut r x s) y
    ∙ count_insert (inside (image_of (cut r x s) y) (image_end n (cut r x s) y)) (suc x) (carry_back r x s) r.starts

kept_is : (n : ℕ) (r : Runs) (x s y a i e : ℕ) → Is n (cut r x s) y a i e
    → kept n r x s y ≡ count (inside i (i + (e - a))) r.starts
kept_is n r x s y a i e h = rw (h.image_is, h.start_is, h.end_is)

module _ (n : ℕ) (r : Runs) (pair : length r.images ≡ count_of r) (x s : ℕ) (hx : x < count_of r) where
  pub kept_left : (y : ℕ) → y < x → kept n r x s y ≡ weight n r y
  kept_left y l = kept_is n r x s y (start_of r y) (image_of r y) (end_of n r y) (cut_left n r pair x s hx y l)
      ∙ sym (weight_is n r y)

  pub kept_right : (y : ℕ) → x < y → kept n r x s (suc y) ≡ weight n r y
  kept_right y l = kept_is n r x s (suc y) (start_of r y) (image_of r y) (end_of n r y) (cut_right n r pair x s hx y l)
      ∙ sym (weight_is n r y)

  pub kept_first : image_of r x < s → s < image_end n r x
      → kept n r x s x + count_below (image_of r x) r.starts ≡ count_below s r.starts
  kept_first lo hi =
      let e : image_of r x + (carry_back r x s - start_of r x) ≡ s = omega arith in
      rw (kept_is n r x s x (start_of r x) (image_of r x) (carry_back r x s) (cut_first n r pair x s hx), e)
      (count_inside (image_of r x) s r.starts (omega arith))

  pub kept_second : image_of r x < s → s < image_end n r x
      → kept n r x s (suc x) + count_below s r.starts ≡ count_below (image_end n r x) r.starts
  kept_second lo hi =
      let e : s + (end_of n r x - carry_back r x s) ≡ image_end n r x = omega arith in
      rw (kept_is n r x s (suc x) (carry_back r x s) s (end_of n r x) (cut_second n r pair x s hx), e)
      (count_inside s (image_end n r x) r.starts (omega arith))

-- the cut at the (d + 1)th start under the image
module _ (d n : ℕ) (r : Runs) (c : Legal n r) (x : ℕ) (hx : x < count_of r) (some : 0 < d) (h : d < weight n r x) where
  pub cut_at_kept : (kept n r x (get_or (under n r x) d 0) x ≡ d)
      × (kept n r x (get_or (under n r x) d 0) (suc x) + d ≡ weight n r x)
  cut_at_kept =
      let p = place d n r c x some h in
      let s = get_or (under n r x) d 0 in
      let f = kept_first n r c.paired x s hx p.0 p.1 in
      let g = kept_second n r c.paired x s hx p.0 p.1 in
      let w = count_inside (image_of r x) (image_end n r x) r.starts (omega arith) in
      (omega arith, omega (arith, weight_is n r x))

-- a cut of a heavy interval makes one more interval of weight d or more
module _ (d n : ℕ) (r : Runs) (c : Legal n r) (x : ℕ) (hx : x < count_of r) (some : 0 < d) (h : 2 * d ≤ weight n r x)
  where
    pub ample_grows : suc (ample d n r) ≤ ample d n (cut_at d n r x)
    ample_grows =
        let s = get_or (under n r x) d 0 in
        let k = cut_at_kept d n r c x hx some (omega arith) in
        let q = cut_at d n r x in
        rw (cut_count n r c.paired x s hx)
        (omega (
          arith,
          sum_grow 1 0 x (count_of r) (λ y. bit (leb d (weight n r y))) (λ y. bit (leb d (weight n q y))) hx
              (λ y l. bit_leb d (weight n r y) d (weight n q y)
              (λ e. omega (arith, weight_cut n r x s y, kept_left n r c.paired x s hx y l)))
              (rw (
                le-leb d (weight n q x) (omega (arith, weight_cut n r x s x)),
                le-leb d (weight n q (suc x)) (omega (arith, weight_cut n r x s (suc x))),
              )
              (omega (arith, bit_le (leb d (weight n r x)))))
              (λ y l m. bit_leb d (weight n r y) d (weight n q (suc y))
              (λ e. omega (arith, weight_cut n r x s (suc y), kept_right n r c.paired x s hx y l))),
        ))

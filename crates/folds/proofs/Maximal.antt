-- The list of a function's maximal runs: it has that function, its neighbours do not follow on, and no legal list with that function
-- has fewer runs, nor another one as few. It depends on the values below n alone.
use Prim.Native.Nat.{ℕ, zero, suc, ◌+◌, ◌-◌, ◌≤◌, ◌<◌}
use mathlib.Core.Path.{◌≡◌, refl, sym, ap, ◌∙◌}
use mathlib.Core.Bool.{Bool, true, false, true≢false, not, ◌||◌}
use mathlib.Core.Logic.{◌≢◌}
use mathlib.Core.List.{map}
use native.Mathlib.Omega.{arith}
use lib.ListN.{length, get_or, length-map}
use lib.Seq.{ext_get_or}
use lib.Dec.{eqb}
use Rattle.order.specs.Lists.{All, up_from, up_to}
use Rattle.order.proofs.Laws.{all_at, at_all, all_true, all_map, pairwise_at, strict_up, up_below, length_up, get_d_map}
use Rattle.outcomes.specs.Search.{keep}
use Rattle.runs.specs.Legal.{Legal}
use Rattle.runs.specs.Runs.{Runs, runs, count_of, start_of, image_of, end_of, image_end, map_of}
use Rattle.runs.proofs.Legality.{Parted, parted, homes, home_one, map_at, strict_steps, end_next}
use Rattle.folds.specs.Fold.{breaks, breakpoints, maximal_runs}
use Rattle.folds.proofs.Keeping.{all_keep, pairwise_keep, keep_true, keep_few, keep_full, kept_below, keep_first, keep_same, map_same, keep_all}
use Rattle.folds.proofs.Tracing.{Traces, breaks_first, follows_on, no_break, legal_traces, traced_map, traced_legal, break_start}

breaks_low : (n : ℕ) (f : ℕ → ℕ) → All (λ p. p < n) (breakpoints n f)
breaks_low n f = all_keep (breaks f) (λ p. p < n) (up_to n) (up_below n)

-- there are no more runs than places
pub maximal_few : (n : ℕ) (f : ℕ → ℕ) → count_of (maximal_runs n f) ≤ n
unfolding maximal_runs
maximal_few n f = omega (arith, keep_few (breaks f) (up_to n), length_up 0 n)

-- a list that traces the function has all these starts, in this order
pub traced_breaks : (n : ℕ) (f : ℕ → ℕ) (q : Runs) → Traces n f q → keep (breaks f) q.starts ≡ breakpoints n f
traced_breaks n f q c = keep_all (breaks f) n 0 q.starts record {
  low = all_true (λ s. 0 ≤ s) q.starts (λ s. omega arith);
  high = at_all (λ s. s < 0 + n) q.starts (λ x h. omega (arith, c.below x h));
  up = strict_steps q.starts c.rising;
  has = λ p a b e. break_start n f q c p (omega arith) e;
}

-- and so no fewer runs
pub maximal_fewest : (n : ℕ) (f : ℕ → ℕ) (q : Runs) → Traces n f q → count_of (maximal_runs n f) ≤ count_of q
unfolding maximal_runs
maximal_fewest n f q c = omega (arith, keep_few (breaks f) q.starts, ap length (traced_breaks n f q c))

-- functions that agree below n have the same
module _ (n : ℕ) (f g : ℕ → ℕ) (agree : (p : ℕ) → p < n → f p ≡ g p) where
  breaks_alike : (p : ℕ) → p < n → breaks f p ≡ breaks g p
  unfolding breaks
  breaks_alike p h = let e = agree p h in let d = agree (p - 1) (omega arith) in
      λ i. eqb p 0 || not (eqb (e i) (suc (d i)))

  pub maximal_alike : maximal_runs n f ≡ maximal_runs n g
  unfolding maximal_runs
  maximal_alike =
      let e : breakpoints n f ≡ breakpoints n g = keep_same (breaks f) (breaks g) (up_to n)
      (all_map (λ p. p < n) (λ p. breaks f p ≡ breaks g p) (up_to n) breaks_alike (up_below n)) in
      let d : map f (breakpoints n f) ≡ map g (breakpoints n g) = map_same f g (breakpoints n f)
      (all_map (λ p. p < n) (λ p. f p ≡ g p) (breakpoints n f) agree (breaks_low n f)) ∙ ap (map g) e in
      λ i. runs (e i) (d i)

-- the breaks begin with place 0
breaks_start : (n : ℕ) (f : ℕ → ℕ) → 0 < n → (0 < length (breakpoints n f)) × (get_or (breakpoints n f) 0 0 ≡ 0)
breaks_start zero f h = absurd (omega arith)
breaks_start (suc m) f h = rw (keep_first (breaks f) 0 (up_from 1 m) (breaks_first f)) (omega arith, refl)

module _ (n : ℕ) (f : ℕ → ℕ) (some : 0 < n) where
  maximal_below : (x : ℕ) → x < count_of (maximal_runs n f) → start_of (maximal_runs n f) x < n
  unfolding maximal_runs
  maximal_below = all_at (λ p. p < n) (breakpoints n f) (breaks_low n f)

  maximal_rising : (x : ℕ) → suc x < count_of (maximal_runs n f) → start_of (maximal_runs n f) x < start_of (maximal_runs n f) (suc x)
  unfolding maximal_runs
  maximal_rising x =
      pairwise_at ◌<◌ (breakpoints n f) (pairwise_keep (breaks f) ◌<◌ (up_to n) (strict_up 0 n)) x (suc x) (omega arith)

  maximal_parted : Parted n (maximal_runs n f)
  unfolding maximal_runs
  maximal_parted = parted n (maximal_runs n f) (breaks_start n f some).0 (breaks_start n f some).1 maximal_rising maximal_below

  -- its starts are the breaks
  maximal_breaks : (x : ℕ) → x < count_of (maximal_runs n f) → breaks f (start_of (maximal_runs n f) x) ≡ true
  unfolding maximal_runs
  maximal_breaks = all_at (λ p. breaks f p ≡ true) (breakpoints n f) (keep_true (breaks f) (up_to n))

  maximal_start : (p : ℕ) → p < n → breaks f p ≡ true → (x : ℕ) × (x < count_of (maximal_runs n f)) × (start_of (maximal_runs n f) x ≡ p)
  unfolding maximal_runs
  maximal_start p h e = let y = kept_below (breaks f) n p h e in (_, y.0, y.1)

  maximal_image : (x : ℕ) → x < count_of (maximal_runs n f) → image_of (maximal_runs n f) x ≡ f (start_of (maximal_runs n f) x)
  unfolding maximal_runs
  maximal_image x h = get_d_map f (breakpoints n f) x 0 h

  maximal_paired : length (maximal_runs n f).images ≡ count_of (maximal_runs n f)
  unfolding maximal_runs
  maximal_paired = length-map (breakpoints n f) f

  -- within a run the function follows on
  between : (x p : ℕ) → x < count_of (maximal_runs n f) → start_of (maximal_runs n f) x < p → p < end_of n (maximal_runs n f) x
      → f p ≡ suc (f (p - 1))
  between x p h a b = go (breaks f p) refl
    where
      go : (t : Bool) → breaks f p ≡ t → f p ≡ suc (f (p - 1))
      go true e =
          let y = maximal_start p (omega (arith, maximal_parted.ending x h)) e in
          let same : x ≡ y.0 = home_one n (maximal_runs n f) maximal_parted x y.0 p h y.1 (omega arith) b
          (omega (arith, y.2)) (omega (arith, y.2, maximal_parted.lasting y.0 y.1)) in
          absurd (omega (arith, ap (start_of (maximal_runs n f)) same, y.2))
      go false e = no_break f p e

  along : (d x : ℕ) → x < count_of (maximal_runs n f) → start_of (maximal_runs n f) x + d < end_of n (maximal_runs n f) x
      → f (start_of (maximal_runs n f) x + d) ≡ f (start_of (maximal_runs n f) x) + d
  along zero x h l =
      let e : start_of (maximal_runs n f) x + 0 ≡ start_of (maximal_runs n f) x = omega arith in omega (arith, ap f e)
  along (suc d) x h l =
      let e : start_of (maximal_runs n f) x + suc d - 1 ≡ start_of (maximal_runs n f) x + d = omega arith in
      omega (
        arith,
        between x (start_of (maximal_runs n f) x + suc d) h (omega arith) l,
        ap f e,
        along d x h (omega arith),
      )

  maximal_traces : Traces n f (maximal_runs n f)
  maximal_traces = record {
    some = maximal_parted.some;
    paired = maximal_paired;
    first = maximal_parted.first;
    below = maximal_below;
    rising = maximal_rising;
    traced = λ x p h a b.
        let e : start_of (maximal_runs n f) x + (p - start_of (maximal_runs n f) x) ≡ p = omega arith in
        omega (arith, ap f e, along (p - start_of (maximal_runs n f) x) x h (omega arith), maximal_image x h);
  }

  pub maximal_map : (p : ℕ) → p < n → map_of n (maximal_runs n f) p ≡ f p
  maximal_map = traced_map n f (maximal_runs n f) maximal_traces

  -- that of a permutation is legal
  pub maximal_legal : ((p : ℕ) → p < n → f p < n) → ((p p' : ℕ) → p < n → p' < n → f p ≡ f p' → p ≡ p') → Legal n (maximal_runs n f)
  maximal_legal = traced_legal n f (maximal_runs n f) maximal_traces

  -- neighbours do not follow on: a start but the first is a break
  pub maximal_apart : (x : ℕ) → suc x < count_of (maximal_runs n f) → image_of (maximal_runs n f) (suc x) ≢ image_end n (maximal_runs n f) x
  maximal_apart x h e =
      let p = start_of (maximal_runs n f) (suc x) in
      let up = maximal_rising x h in
      let end = end_next n (maximal_runs n f) x h in
      let before = maximal_traces.traced x (p - 1) (omega arith) (omega arith) (omega arith) in
      true≢false (sym (maximal_breaks (suc x) h) ∙ follows_on f p (omega arith) (omega (arith, maximal_image (suc x) h)))

  -- no legal list with these values has fewer runs
  pub maximal_least : (q : Runs) → Legal n q → ((p : ℕ) → p < n → map_of n q p ≡ f p) → count_of (maximal_runs n f) ≤ count_of q
  maximal_least q c same = omega (
    arith,
    ap count_of (maximal_alike n (map_of n q) f same),
    maximal_fewest n (map_of n q) q (legal_traces n q c),
  )

-- and one with as few is this one
module _ (n : ℕ) (q : Runs) (c : Legal n q) where
  images_are : q.images ≡ map (map_of n q) q.starts
  images_are = ext_get_or 0 q.images (map (map_of n q) q.starts) (c.paired ∙ sym (length-map q.starts (map_of n q)))
      (λ x h. let b : x < count_of q = omega (arith, c.paired) in
      omega (arith, map_at n q (homes n q c) x (start_of q x) b (omega arith) ((homes n q c).lasting x b))
      ∙ sym (get_d_map (map_of n q) q.starts x 0 b))

  pub maximal_only : (f : ℕ → ℕ) → ((p : ℕ) → p < n → map_of n q p ≡ f p) → count_of q ≤ count_of (maximal_runs n f) → q ≡ maximal_runs n f
  unfolding maximal_runs
  maximal_only f same few =
      let g = map_of n q in
      let t = traced_breaks n g q (legal_traces n q c) in
      let s : q.starts ≡ breakpoints n g =
      sym (keep_full (breaks g) q.starts (omega (arith, few, ap length t, ap count_of (maximal_alike n g f same)))) ∙ t in
      (λ i. runs (s i) ((images_are ∙ ap (map g) s) i)) ∙ maximal_alike n g f same

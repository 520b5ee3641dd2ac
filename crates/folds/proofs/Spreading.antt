-- A permutation as a list of one run for each place: its fold is the list of its maximal runs. So code that has the
-- images place by place writes that list by folding.
use Prim.Native.Nat.{ℕ, suc, ◌≤◌, ◌<◌}
use mathlib.Core.Path.{◌≡◌, sym, ap, ◌∙◌}
use mathlib.Core.Logic.{◌⊎◌, inl, inr}
use mathlib.Core.List.{List, map}
use native.Mathlib.Omega.{arith}
use lib.ListN.{length, get_or, length-map}
use Rattle.order.specs.Lists.{up_to}
use Rattle.order.proofs.Laws.{lt_or_le, length_up}
use Rattle.runs.specs.Runs.{Runs, runs, count_of, start_of, image_of, end_of, map_of}
use Rattle.runs.proofs.Legality.{end_next, end_last}
use Rattle.folds.specs.Fold.{folded, maximal_runs}
use Rattle.folds.specs.Parts.{Foldable}
use Rattle.folds.proofs.Keeping.{up_at, map_up, entries}
use Rattle.folds.proofs.Tracing.{Traces, traced_map, traced_legal}
use Rattle.folds.proofs.Maximal.{maximal_alike}
use Rattle.folds.proofs.Folding.{folded_maximal}

-- n runs of length 1 with the images f 0, f 1, ..
unfoldable pub spread : ℕ → (ℕ → ℕ) → Runs
spread n f = runs (up_to n) (map f (up_to n))

module _ (n : ℕ) (f : ℕ → ℕ) where
  count_is : count_of (spread n f) ≡ n
  unfolding spread
  count_is = length_up 0 n

  start_is : (x : ℕ) → x < n → start_of (spread n f) x ≡ x
  unfolding spread
  start_is = up_at n

  image_is : (x : ℕ) → x < n → image_of (spread n f) x ≡ f x
  unfolding spread
  image_is = map_up f n

  paired_is : length (spread n f).images ≡ count_of (spread n f)
  unfolding spread
  paired_is = length-map (up_to n) f

  end_is : (x : ℕ) → x < n → end_of n (spread n f) x ≡ suc x
  end_is x h = go (lt_or_le (suc x) n)
    where
      go : (suc x < n) ⊎ (n ≤ suc x) → end_of n (spread n f) x ≡ suc x
      go (inl l) = end_next n (spread n f) x (omega (arith, count_is)) ∙ start_is (suc x) l
      go (inr l) = end_last n (spread n f) x (omega (arith, count_is)) ∙ omega arith

  spread_rising : (x : ℕ) → suc x < count_of (spread n f) → start_of (spread n f) x < start_of (spread n f) (suc x)
  spread_rising x h =
      let l : suc x < n = omega (arith, count_is) in
      omega (arith, start_is x (omega arith), start_is (suc x) l)

  module _ (some : 0 < n) where
    spread_traces : Traces n f (spread n f)
    spread_traces = record {
      some = omega (arith, count_is);
      paired = paired_is;
      first = start_is 0 some;
      below = λ x h. let l : x < n = omega (arith, count_is) in omega (arith, start_is x l);
      rising = spread_rising;
      traced = λ x p h a b.
          let l : x < n = omega (arith, count_is) in
          let s = start_is x l in
          let e : p ≡ x = omega (arith, end_is x l) in
          omega (arith, ap f e, image_is x l);
    }

    pub spread_folded : ((p : ℕ) → p < n → f p < n) → ((p p' : ℕ) → p < n → p' < n → f p ≡ f p' → p ≡ p')
        → folded (spread n f) ≡ maximal_runs n f
    spread_folded below one =
        folded_maximal n (spread n f) (traced_legal n f (spread n f) spread_traces below one)
        ∙ maximal_alike n (map_of n (spread n f)) f (traced_map n f (spread n f) spread_traces)

-- the images as they stand in a slice, beside the starts 0 to n - 1
module _ (n : ℕ) (values : List ℕ) (size : length values ≡ n) where
  spread_values : spread n (λ p. get_or values p 0) ≡ runs (up_to n) values
  unfolding spread
  spread_values =
      let e : map (λ p. get_or values p 0) (up_to n) ≡ values =
      ap (λ (k : ℕ). map (λ p. get_or values p 0) (up_to k)) (sym size) ∙ entries values in
      λ i. runs (up_to n) (e i)

  -- such a list may be folded, and its fold is that of the maximal runs
  pub spread_foldable : Foldable (runs (up_to n) values)
  spread_foldable = rw (← spread_values) (record { paired = paired_is n _; rising = spread_rising n _ })

  pub write_spread : 0 < n → ((p : ℕ) → p < n → get_or values p 0 < n)
      → ((j k : ℕ) → j < n → k < n → get_or values j 0 ≡ get_or values k 0 → j ≡ k)
      → folded (runs (up_to n) values) ≡ maximal_runs n (λ p. get_or values p 0)
  write_spread some below one = ap folded (sym spread_values) ∙ spread_folded n (λ p. get_or values p 0) some below one

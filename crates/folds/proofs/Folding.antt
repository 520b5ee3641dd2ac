-- The fold of a legal list is the list of its function's maximal runs.
use Prim.Native.Nat.{ℕ, zero, suc, ◌-◌, ◌<◌}
use mathlib.Core.Path.{◌≡◌, sym, ap, ◌∙◌}
use mathlib.Core.Bool.{Bool, not, ◌||◌}
use mathlib.Core.List.{map, map-map}
use native.Mathlib.Omega.{arith}
use lib.Dec.{eqb}
use borrow.Author.Tests.{ne_eqb}
use Rattle.order.specs.Lists.{All, up_to}
use Rattle.order.proofs.Laws.{all_map, up_below}
use Rattle.outcomes.specs.Search.{keep}
use Rattle.runs.specs.Legal.{Legal}
use Rattle.runs.specs.Runs.{Runs, runs, count_of, start_of, image_of, carry, map_of}
use Rattle.runs.proofs.Legality.{homes, end_next, map_at}
use Rattle.folds.specs.Fold.{begins, heads, folded, breaks, breakpoints, maximal_runs}
use Rattle.folds.proofs.Keeping.{entries, all_keep, keep_map, keep_same, map_same}
use Rattle.folds.proofs.Tracing.{legal_traces}
use Rattle.folds.proofs.Maximal.{traced_breaks}

module _ (n : ℕ) (r : Runs) (c : Legal n r) where
  image_is : (x : ℕ) → x < count_of r → image_of r x ≡ map_of n r (start_of r x)
  image_is x h = omega (arith, map_at n r (homes n r c) x (start_of r x) h (omega arith) ((homes n r c).lasting x h))

  -- a run begins one of the fold where the function breaks
  begins_breaks : (x : ℕ) → x < count_of r → begins r x ≡ breaks (map_of n r) (start_of r x)
  unfolding begins breaks
  begins_breaks zero h = rw c.first
  begins_breaks (suc x) h =
      let s = c.rising x h in
      let z : suc x - 1 ≡ x = omega arith in
      let a : eqb (suc x) 0 ≡ eqb (start_of r (suc x)) 0 = ne_eqb (suc x) 0 (omega arith)
      ∙ sym (ne_eqb (start_of r (suc x)) 0 (omega arith)) in
      let d : image_of r (suc x) ≡ map_of n r (start_of r (suc x)) = image_is (suc x) h in
      let e : carry r x (start_of r (suc x)) ≡ suc (map_of n r (start_of r (suc x) - 1)) = omega (
        arith,
        map_at n r (homes n r c) x (start_of r (suc x) - 1) (omega arith) (omega arith) (omega (arith, end_next n r x h)),
      ) in
      let b : carry r (suc x - 1) (start_of r (suc x)) ≡ suc (map_of n r (start_of r (suc x) - 1)) = ap
      (λ (k : ℕ). carry r k (start_of r (suc x))) z ∙ e in
      λ i. a i || not (eqb (d i) (b i))

  heads_low : All (λ x. x < count_of r) (heads r)
  unfolding heads
  heads_low = all_keep (begins r) (λ x. x < count_of r) (up_to (count_of r)) (up_below (count_of r))

  -- the starts of the fold are the places where the function breaks
  pub folded_starts : (folded r).starts ≡ breakpoints n (map_of n r)
  unfolding folded heads
  folded_starts =
      let b : ℕ → Bool = breaks (map_of n r) in
      ap (map (start_of r)) (keep_same (begins r) (λ x. b (start_of r x)) (up_to (count_of r))
      (all_map (λ x. x < count_of r) (λ x. begins r x ≡ b (start_of r x)) (up_to (count_of r)) begins_breaks
      (up_below (count_of r))))
      ∙ sym (keep_map b (start_of r) (up_to (count_of r)))
      ∙ ap (keep b) (entries r.starts)
      ∙ traced_breaks n (map_of n r) r (legal_traces n r c)

  folded_images : (folded r).images ≡ map (map_of n r) (folded r).starts
  unfolding folded
  folded_images =
      map_same (image_of r) (λ x. map_of n r (start_of r x)) (heads r)
      (all_map (λ x. x < count_of r) (λ x. image_of r x ≡ map_of n r (start_of r x)) (heads r) image_is heads_low)
      ∙ sym (map-map (map_of n r) (start_of r) (heads r))

  pub folded_maximal : folded r ≡ maximal_runs n (map_of n r)
  unfolding maximal_runs
  folded_maximal =
      let e = folded_starts in
      let d : (folded r).images ≡ map (map_of n r) (breakpoints n (map_of n r)) = folded_images ∙ ap (map (map_of n r)) e in
      λ i. runs (e i) (d i)

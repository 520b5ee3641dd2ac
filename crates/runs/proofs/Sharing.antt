-- Test 6 of two runs, and of one run against all others: from the facts to the test and back.
use Prim.Native.Nat.{ℕ, ◌<◌}
use mathlib.Core.Path.{◌≡◌}
use mathlib.Core.Bool.{true, false, not}
use mathlib.Core.Logic.{◌≢◌}
use lib.Dec.{ltb, eqb}
use borrow.Author.Tests.{ltb-true, lt-ltb, ne_eqb, eqb-false, not-true}
use Rattle.runs.specs.Runs.{Runs, count_of, image_of, image_end}
use Rattle.runs.specs.Check.{overlap, overlaps}
use Rattle.runs.proofs.Sums.{and_true}
use Rattle.outcomes.proofs.Searches.{any_true, any_none}

-- two runs whose images share a place
pub record Shared (n : ℕ) (r : Runs) (x y : ℕ) : Type 0 where
  pub other : x ≢ y
  pub left : image_of r x < image_end n r y
  pub right : image_of r y < image_end n r x

module _ (n : ℕ) (r : Runs) (x : ℕ) where
  overlap_true : (y : ℕ) → Shared n r x y → overlap n r x y ≡ true
  unfolding overlap
  overlap_true y s = simp (ne_eqb _ _ s.other, lt-ltb _ _ s.left, lt-ltb _ _ s.right)

  overlap_is : (y : ℕ) → overlap n r x y ≡ true → Shared n r x y
  unfolding overlap
  overlap_is y e =
      let a = and_true (not (eqb x y)) _ e in
      let b = and_true (ltb (image_of r x) (image_end n r y)) _ a.1 in
      record { other = eqb-false x y (not-true _ a.0); left = ltb-true _ _ b.0; right = ltb-true _ _ b.1 }

  pub overlaps_true : (y : ℕ) → y < count_of r → Shared n r x y → overlaps n r x ≡ true
  unfolding overlaps
  overlaps_true y h s = any_true (overlap n r x) (count_of r) y h (overlap_true y s)

  pub overlaps_false : ((y : ℕ) → y < count_of r → Shared n r x y → ⊥) → overlaps n r x ≡ false
  unfolding overlaps
  overlaps_false h = any_none (overlap n r x) (count_of r) (λ y l e. h y l (overlap_is y e))

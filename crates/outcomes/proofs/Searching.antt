-- A loop that looks for the lowest index with a property, one index a turn: at index x it has yet to find what
-- `first_below` is.
use Prim.Native.Nat.{ℕ, suc, ◌-◌, ◌+◌, ◌≤◌, ◌<◌}
use mathlib.Core.Path.{◌≡◌, refl, sym, ap, ◌∙◌}
use mathlib.Core.Bool.{Bool, true, false}
use native.Mathlib.Numerals.{add-one}
use native.Mathlib.Omega.{arith}
use Rattle.std.specs.Prelude.{Some, None}
use Rattle.std.specs.Bool.{then_some}
use lib.Dec.{ltb}
use borrow.Author.Tests.{lt-ltb, le-ltb, ltb-true, ltb-false}
use Rattle.outcomes.specs.Outcome.{◌then◌else◌}
use Rattle.outcomes.specs.Search.{first_from, first_below, lowest_below}

module _ (p : ℕ → Bool) (k : ℕ) where
  -- the search is at x
  pub record Searched (x : ℕ) : Type 0 where
    pub within : x ≤ k
    pub ahead : first_from p (k - x) x ≡ first_below p k

  pub searched_none : Searched 0
  searched_none = record {
    within = omega arith;
    ahead = let q : k - 0 ≡ k = omega arith in ap (λ (m : ℕ). first_from p m 0) q;
  }

  module _ (x : ℕ) (s : Searched x) where
    at_x : x < k → first_from p (suc (k - suc x)) x ≡ first_below p k
    at_x h = let q : k - x ≡ suc (k - suc x) = omega arith in ap (λ (m : ℕ). first_from p m x) (sym q) ∙ s.ahead

    pub searched_hit : x < k → p x ≡ true → x ≡ first_below p k
    searched_hit h e = rw (e, first_from) at (at_x h)

    pub searched_next : x < k → p x ≡ false → Searched (x + 1)
    searched_next h e = record {
      within = omega arith;
      ahead = rw add-one (rw (e, first_from) at (at_x h));
    }

    pub searched_end : k ≤ x → x ≡ first_below p k
    searched_end h = let q : k - x ≡ 0 = omega arith in ap (λ (m : ℕ). first_from p m x) (sym q) ∙ s.ahead

    -- the same of a search that answers with the index, if there is one
    pub searched_some : x < k → p x ≡ true → Some x ≡ lowest_below p k
    searched_some h e =
        let q = searched_hit h e in
        rw (lt-ltb (first_below p k) k (omega arith)) (ap Some q)

    pub searched_without : k ≤ x → None ≡ lowest_below p k
    searched_without h =
        let q = searched_end h in
        let l : k ≤ first_below p k = omega arith in
        rw (le-ltb (first_below p k) k l) refl

-- what such an answer tells
module _ (p : ℕ → Bool) (k : ℕ) where
  pub lowest_some : (x : ℕ) → Some x ≡ lowest_below p k → (x < k) × (x ≡ first_below p k)
  lowest_some x e = go (ltb (first_below p k) k) refl e
    where
      go : (b : Bool) → ltb (first_below p k) k ≡ b → Some x ≡ (b then Some (first_below p k) else None) → (x < k) × (x ≡ first_below p k)
      go true f e = let q : x ≡ first_below p k = cc in (omega (arith, ltb-true (first_below p k) k f), q)
      go false f e = absurd (cc)

  pub lowest_none : None ≡ lowest_below p k → k ≤ first_below p k
  lowest_none e = go (ltb (first_below p k) k) refl e
    where
      go : (b : Bool) → ltb (first_below p k) k ≡ b → None ≡ (b then Some (first_below p k) else None) → k ≤ first_below p k
      go true f e = absurd cc
      go false f e = ltb-false _ _ f

  -- from the index of a search that may have come to the end
  pub lowest_by : (x : ℕ) → x ≡ first_below p k → then_some (ltb x k) x ≡ lowest_below p k
  lowest_by x e = rw e (go (ltb (first_below p k) k))
    where
      go : (b : Bool) → then_some b (first_below p k) ≡ (b then Some (first_below p k) else None)
      go true = refl
      go false = refl

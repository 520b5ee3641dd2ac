-- Where a walk ends: in an interval of the table that starts at or below the place and ends above it.
use Prim.Native.Nat.{ℕ, zero, suc, ◌+◌, ◌-◌, ◌≤◌, ◌<◌}
use mathlib.Core.Path.{◌≡◌, refl}
use mathlib.Core.Logic.{◌⊎◌, inl, inr}
use mathlib.Core.List.{List}
use native.Mathlib.Numerals.{add-one}
use native.Mathlib.Omega.{arith}
use lib.ListN.{length, get_or, drop, length-drop, get_or-eq_default}
use lib.Seq.{get_or-drop}
use lib.Dec.{leb}
use borrow.Author.Tests.{le-leb, lt-leb, leb-true, leb-false}
use Rattle.order.specs.Lists.{leading}
use Rattle.order.proofs.Laws.{lt_or_le, get_d_default}
use Rattle.order.proofs.Leading.{leading_more, leading_stop, leading_end, leading_within, leading_last, leading_next}
use Rattle.walks.specs.Move.{passed}

-- what a walk from interval h for place j passes, as the code counts it; and the interval that it reaches, by the index e where the
-- starts end that it passes
pub passed_is : (l : List ℕ) (h j : ℕ) → leading (λ s. leb s j) (drop (h + 1) l) ≡ passed l h j
unfolding passed
passed_is l h j = rw (add-one h)

pub passed_end : (l : List ℕ) (h j e : ℕ) → e ≡ h + 1 + leading (λ s. leb s j) (drop (h + 1) l) → e - 1 ≡ h + passed l h j
passed_end l h j e q = omega (arith, passed_is l h j)

-- where the walk from interval h to place j ends
module _ (l : List ℕ) (h j : ℕ) (i : h < length l) where
  pub reached_index : h + passed l h j < length l
  unfolding passed
  reached_index = omega (arith, leading_within (λ s. leb s j) l (suc h) i)

  pub reached_low : get_or l h 0 ≤ j → get_or l (h + passed l h j) 0 ≤ j
  unfolding passed
  reached_low b = go (leading (λ s. leb s j) (drop (suc h) l)) refl
    where
      go : (c : ℕ) → leading (λ s. leb s j) (drop (suc h) l) ≡ c → get_or l (h + c) 0 ≤ j
      go zero e = let z : h + 0 ≡ h = omega arith in rw z b
      go (suc c) e =
          let z : h + suc c ≡ suc h + c = omega arith in
          rw (z, ← get_or-drop) (leb-true _ j (leading_last (λ s. leb s j) (drop (suc h) l) c e))

  pub reached_high : (n : ℕ) → j < n → j < get_or l (suc (h + passed l h j)) n
  unfolding passed
  reached_high n b = go (lt_or_le (suc (h + passed l h j)) (length l))
    where
      go : (suc (h + passed l h j) < length l) ⊎ (length l ≤ suc (h + passed l h j)) → j < get_or l (suc (h + passed l h j)) n
      go (inl k) =
          let c = leading (λ s. leb s j) (drop (suc h) l) in
          let z : suc (h + c) ≡ suc h + c = omega arith in
          let f = leading_next (λ s. leb s j) (drop (suc h) l) (omega (arith, length-drop (suc h) l)) in
          rw (get_d_default l (suc (h + c)) n 0 k, z, ← get_or-drop) (leb-false _ j f)
      go (inr k) = rw (get_or-eq_default l n k) b

-- one interval further: the walk goes on to the next one, or ends where that starts above the place, or where there is none
module _ (l : List ℕ) (h j : ℕ) where
  pub passed_more : h + 1 < length l → get_or l (h + 1) 0 ≤ j → h + passed l h j ≡ h + 1 + passed l (h + 1) j
  unfolding passed
  passed_more i b =
      let k = rw (add-one h) at i in
      let c = rw (add-one h) at b in
      rw (add-one h) (omega (arith, leading_more (λ s. leb s j) l (suc h) k (le-leb _ _ c)))

  pub passed_stop : h + 1 < length l → j < get_or l (h + 1) 0 → passed l h j ≡ 0
  unfolding passed
  passed_stop i b =
      let k = rw (add-one h) at i in
      let c = rw (add-one h) at b in
      leading_stop (λ s. leb s j) l (suc h) k (lt-leb _ _ c)

  pub passed_none : length l ≤ h + 1 → passed l h j ≡ 0
  unfolding passed
  passed_none i = leading_end (λ s. leb s j) l (suc h) (omega arith)

-- How many elements at the head of a list have a property: the laws of a walk that goes along the list by its index.
use Prim.Native.Nat.{ℕ, zero, suc, ◌+◌, ◌≤◌, ◌<◌}
use mathlib.Core.Path.{◌≡◌, refl}
use mathlib.Core.Bool.{Bool, true, false}
use mathlib.Core.List.{List, [], ◌∷◌}
use native.Mathlib.Nat.{not-suc-le-zero, le_of_suc-le-suc}
use native.Mathlib.Omega.{arith}
use lib.ListN.{length, get_or, drop, drop_of_length-le, length-drop}
use Rattle.order.specs.Lists.{leading}

module _ (p : ℕ → Bool) where
  pub leading_more : (l : List ℕ) (x : ℕ) → x < length l → p (get_or l x 0) ≡ true
      → leading p (drop x l) ≡ suc (leading p (drop (suc x) l))
  leading_more [] x h e = absurd (not-suc-le-zero h)
  leading_more (s ∷ ss) zero h e = rw e
  leading_more (s ∷ ss) (suc x) h e = leading_more ss x (le_of_suc-le-suc h) e

  pub leading_stop : (l : List ℕ) (x : ℕ) → x < length l → p (get_or l x 0) ≡ false → leading p (drop x l) ≡ 0
  leading_stop [] x h e = absurd (not-suc-le-zero h)
  leading_stop (s ∷ ss) zero h e = rw e
  leading_stop (s ∷ ss) (suc x) h e = leading_stop ss x (le_of_suc-le-suc h) e

  pub leading_end : (l : List ℕ) (x : ℕ) → length l ≤ x → leading p (drop x l) ≡ 0
  leading_end l x h = rw (drop_of_length-le l h)

  leading_few : (l : List ℕ) → leading p l ≤ length l
  leading_few [] = omega arith
  leading_few (s ∷ ss) = go (p s) (leading_few ss)
    where
      go : (t : Bool) → leading p ss ≤ length ss
          → (elim t as (λ b. ℕ) [ true ↦ suc (leading p ss) | false ↦ 0 ]) ≤ suc (length ss)
      go true h = omega arith
      go false h = omega arith

  pub leading_within : (l : List ℕ) (x : ℕ) → x ≤ length l → x + leading p (drop x l) ≤ length l
  leading_within l x h = omega (arith, leading_few (drop x l), length-drop x l)

  -- the elements counted have the property, the next one has not
  pub leading_last : (l : List ℕ) (c : ℕ) → leading p l ≡ suc c → p (get_or l c 0) ≡ true
  leading_last [] c e = absurd (omega arith)
  leading_last (s ∷ ss) c e = go (p s) refl c e (leading_last ss)
    where
      go : (t : Bool) → p s ≡ t → (c : ℕ) → (elim t as (λ b. ℕ) [ true ↦ suc (leading p ss) | false ↦ 0 ]) ≡ suc c
          → ((c : ℕ) → leading p ss ≡ suc c → p (get_or ss c 0) ≡ true) → p (get_or (s ∷ ss) c 0) ≡ true
      go true f zero e i = f
      go true f (suc c) e i = i c (omega arith)
      go false f c e i = absurd (omega arith)

  pub leading_next : (l : List ℕ) → leading p l < length l → p (get_or l (leading p l) 0) ≡ false
  leading_next [] h = absurd (not-suc-le-zero h)
  leading_next (s ∷ ss) h = go (p s) refl h (leading_next ss)
    where
      go : (t : Bool) → p s ≡ t → (elim t as (λ b. ℕ) [ true ↦ suc (leading p ss) | false ↦ 0 ]) < suc (length ss)
          → (leading p ss < length ss → p (get_or ss (leading p ss) 0) ≡ false)
          → p (get_or (s ∷ ss) (elim t as (λ b. ℕ) [ true ↦ suc (leading p ss) | false ↦ 0 ]) 0) ≡ false
      go true f h i = i (le_of_suc-le-suc h)
      go false f h i = f

-- The lexicographic order is strict and, on lists of one length, total.
use Prim.Native.Nat.{ℕ, ◌≤◌, ◌<◌}
use mathlib.Core.Path.{◌≡◌, refl, sym, ◌∙◌, subst}
use mathlib.Core.Logic.{◌⊎◌, inl, inr, ◌≢◌}
use mathlib.Core.List.{List, [], ◌∷◌}
use native.Mathlib.Omega.{arith}
use lib.ListN.{length}
use Rattle.order.proofs.Laws.{lt_or_le}
use Rattle.permutations.specs.Values.{Before}

pub before_trans : (a b c : List ℕ) → Before a b → Before b c → Before a c
before_trans [] b c p q = absurd p
before_trans (x ∷ a) [] c p q = absurd p
before_trans (x ∷ a) (y ∷ b) [] p q = absurd q
before_trans (x ∷ a) (y ∷ b) (z ∷ c) p q = go (before_trans a b c) p q
  where
    go : (Before a b → Before b c → Before a c) → Before (x ∷ a) (y ∷ b) → Before (y ∷ b) (z ∷ c) → Before (x ∷ a) (z ∷ c)
    go f (inl h) (inl l) = inl (omega arith)
    go f (inl h) (inr l) = inl (omega (arith, l.0))
    go f (inr h) (inl l) = inl (omega (arith, h.0))
    go f (inr h) (inr l) = inr (h.0 ∙ l.0, f h.1 l.1)

pub before_itself : (a : List ℕ) → Before a a → ⊥
before_itself [] p = p
before_itself (x ∷ a) p = go (before_itself a) p
  where
    go : (Before a a → ⊥) → Before (x ∷ a) (x ∷ a) → ⊥
    go f (inl h) = omega arith
    go f (inr h) = f h.1

pub before_differs : (a b : List ℕ) → Before a b → a ≢ b
before_differs a b p e = before_itself a (subst (Before a) (sym e) p)

pub before_total : (a b : List ℕ) → length a ≡ length b → Before a b ⊎ (a ≡ b) ⊎ Before b a
before_total [] [] e = inr (inl refl)
before_total [] (y ∷ b) e = absurd (omega arith)
before_total (x ∷ a) [] e = absurd (omega arith)
before_total (x ∷ a) (y ∷ b) e = go (lt_or_le x y) (lt_or_le y x) (before_total a b (omega arith))
  where
    further : x ≡ y → Before a b ⊎ (a ≡ b) ⊎ Before b a → Before (x ∷ a) (y ∷ b) ⊎ (x ∷ a ≡ y ∷ b) ⊎ Before (y ∷ b) (x ∷ a)
    further h (inl f) = inl (inr (h, f))
    further h (inr (inl f)) = inr (inl (λ i. h i ∷ f i))
    further h (inr (inr f)) = inr (inr (inr (sym h, f)))

    go : (x < y) ⊎ (y ≤ x) → (y < x) ⊎ (x ≤ y) → Before a b ⊎ (a ≡ b) ⊎ Before b a
        → Before (x ∷ a) (y ∷ b) ⊎ (x ∷ a ≡ y ∷ b) ⊎ Before (y ∷ b) (x ∷ a)
    go (inl h) g f = inl (inl h)
    go (inr h) (inl g) f = inr (inr (inl g))
    go (inr h) (inr g) f = further (omega arith) f

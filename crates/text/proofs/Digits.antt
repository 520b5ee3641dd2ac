-- The digits of a number: one less for a tenth of it, and how many they are.
use Prim.Native.Nat.{ℕ, zero, suc, ◌+◌, ◌/◌, ◌%◌, ◌^◌, ◌≤◌, ◌<◌}
use mathlib.Core.Path.{◌≡◌, sym, ap, ◌∙◌}
use mathlib.Core.Logic.{◌⊎◌, inl, inr}
use mathlib.Core.List.{List, [], ◌∷◌, ◌++◌}
use native.Mathlib.Omega.{arith}
use native.Mathlib.Nat.{pow-suc}
use lib.ListN.{length, length-append}
use borrow.Author.Tests.{lt-ltb, le-ltb}
use Rattle.order.proofs.Laws.{lt_or_le}
use Rattle.text.specs.Text.{digits, decimal}

-- the last digit, as text
abbrev pub last_digit : ℕ → List ℕ
last_digit v = (48 + v % 10) ∷ []

digits_small : (places v : ℕ) → v < 10 → digits (suc places) v ≡ last_digit v
digits_small places v h = rw (lt-ltb v 10 h)

digits_large : (places v : ℕ) → 10 ≤ v → digits (suc places) v ≡ digits places (v / 10) ++ last_digit v
digits_large places v h = rw (le-ltb v 10 h)

tenth : (m v : ℕ) → v < 10 ^ suc m → v / 10 < 10 ^ m
tenth m v h = omega (arith, pow-suc 10 m)

-- more places than a number needs change nothing
digits_enough : (m v : ℕ) → v < 10 ^ suc m → digits (suc (suc m)) v ≡ digits (suc m) v
digits_enough zero v h = let l : v < 10 = omega arith in digits_small 1 v l ∙ sym (digits_small 0 v l)
digits_enough (suc m) v h = go (lt_or_le v 10) (digits_enough m (v / 10) (tenth (suc m) v h))
  where
    go : (v < 10) ⊎ (10 ≤ v) → digits (suc (suc m)) (v / 10) ≡ digits (suc m) (v / 10)
        → digits (suc (suc (suc m))) v ≡ digits (suc (suc m)) v
    go (inl l) i = digits_small (suc (suc m)) v l ∙ sym (digits_small (suc m) v l)
    go (inr l) i =
        digits_large (suc (suc m)) v l ∙ ap (λ (t : List ℕ). t ++ last_digit v) i ∙ sym (digits_large (suc m) v l)

pub decimal_small : (v : ℕ) → v < 10 → decimal v ≡ last_digit v
unfolding decimal
decimal_small v h = digits_small 19 v h

pub decimal_large : (v : ℕ) → 10 ≤ v → v < 2 ^ 64 → decimal v ≡ decimal (v / 10) ++ last_digit v
unfolding decimal
decimal_large v h l =
    digits_large 19 v h ∙ ap (λ (t : List ℕ). t ++ last_digit v) (sym (digits_enough 18 (v / 10) (omega arith)))

-- a number below a power of ten has no more digits
digits_length : (m places v : ℕ) → v < 10 ^ suc m → length (digits places v) ≤ suc m
digits_length m zero v h = omega arith
digits_length zero (suc places) v h = omega (arith, ap length (digits_small places v (omega arith)))
digits_length (suc m) (suc places) v h = go (lt_or_le v 10) (digits_length m places (v / 10) (tenth (suc m) v h))
  where
    go : (v < 10) ⊎ (10 ≤ v) → length (digits places (v / 10)) ≤ suc m → length (digits (suc places) v) ≤ suc (suc m)
    go (inl l) i = omega (arith, ap length (digits_small places v l))
    go (inr l) i =
        omega (arith, ap length (digits_large places v l), length-append (digits places (v / 10)) (last_digit v))

pub decimal_length : (v : ℕ) → v < 2 ^ 32 → length (decimal v) ≤ 10
unfolding decimal
decimal_length v h = digits_length 9 20 v (omega arith)

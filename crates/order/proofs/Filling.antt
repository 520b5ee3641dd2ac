-- A loop that fills a slice from the front with the entries of a list m, one store a turn.
use Prim.Native.Nat.{ℕ, suc, ◌+◌, ◌≤◌, ◌<◌}
use mathlib.Core.Path.{◌≡◌, refl, sym, ap, ◌∙◌}
use mathlib.Core.List.{List, [], ◌∷◌, ◌++◌}
use native.Mathlib.Numerals.{add-one}
use native.Mathlib.Omega.{arith}
use lib.ListN.{length, take, drop, get_or, set, length-append, length-drop}
use lib.Seq.{length-take-le, take-suc, take_all, drop-cons, append_snoc, set_at, take_at}

-- the first i entries are those of m, the others are as they were
pub record Filling (m s₀ s : List ℕ) (i : ℕ) : Type 0 where
  pub within : i ≤ length m
  pub room : length m ≤ length s₀
  pub is : s ≡ take i m ++ drop i s₀

pub filling_none : (m s₀ : List ℕ) → length m ≤ length s₀ → Filling m s₀ s₀ 0
filling_none m s₀ h = record { within = omega arith; room = h; is = refl }

module _ (m s₀ s : List ℕ) (i : ℕ) (f : Filling m s₀ s i) where
  front : length (take i m) ≡ i
  front = length-take-le i m f.within

  pub filling_length : length s ≡ length s₀
  filling_length =
      ap length f.is ∙ length-append (take i m) (drop i s₀)
      ∙ omega (arith, front, length-drop i s₀, f.within, f.room)

  pub filling_next : i < length m → (v : ℕ) → v ≡ get_or m i 0 → Filling m s₀ (set s i v) (i + 1)
  filling_next h v e = record {
    within = omega arith;
    room = f.room;
    is =
        ap (λ (l : List ℕ). set l i v)
        (f.is ∙ ap (λ (l : List ℕ). take i m ++ l) (drop-cons s₀ i 0 (omega (arith, f.room))))
        ∙ set_at (take i m) (get_or s₀ i 0) (drop (suc i) s₀) v i front
        ∙ sym (append_snoc (take i m) v (drop (suc i) s₀))
        ∙ ap (λ (l : List ℕ). l ++ drop (suc i) s₀) (ap (λ (u : ℕ). take i m ++ (u ∷ [])) e ∙ sym (take-suc m i 0 h))
        ∙ ap (λ (k : ℕ). take k m ++ drop k s₀) (sym (add-one i));
  }

  pub filling_all : length m ≤ i → s ≡ m ++ drop (length m) s₀
  filling_all h =
      let e : i ≡ length m = omega (arith, f.within) in
      f.is ∙ (λ k. take_all i m h k ++ drop (e k) s₀)

  -- in an array that may be longer, all of m stands in front
  pub filling_front : (n : ℕ) → length m ≡ n → n ≤ i → take n s ≡ m
  filling_front n e h = ap (take n) (filling_all (omega arith)) ∙ take_at m (drop (length m) s₀) n e

-- A loop that copies the entries of a list l from x on into a slice from `at` on, one store a turn.
use Prim.Native.Nat.{ℕ, ◌+◌, ◌-◌, ◌≤◌, ◌<◌}
use mathlib.Core.Path.{◌≡◌, sym, ap, ◌∙◌}
use mathlib.Core.List.{List}
use native.Mathlib.Numerals.{add-one}
use native.Mathlib.Omega.{arith}
use lib.ListN.{length, drop, get_or, set, length-drop}
use lib.Seq.{get_or-drop, paste, paste-suc}

-- i entries are copied
pub record Copying (l s₀ : List ℕ) (x at : ℕ) (s : List ℕ) (i : ℕ) : Type 0 where
  pub within : x + i ≤ length l
  pub room : at + (length l - x) ≤ length s₀
  pub is : s ≡ paste s₀ at (drop x l) i

module _ (l s₀ : List ℕ) (x at : ℕ) (s : List ℕ) (i : ℕ) (c : Copying l s₀ x at s i) where
  pub copying_next : x + i < length l → Copying l s₀ x at (set s (at + i) (get_or l (x + i) 0)) (i + 1)
  copying_next h = record {
    within = omega arith;
    room = c.room;
    is =
        (λ k. set (c.is k) (at + i) (sym (get_or-drop x l i 0) k))
        ∙ paste-suc s₀ at (drop x l) i 0 (omega (arith, c.room)) (omega (arith, length-drop x l))
        ∙ ap (λ (k : ℕ). paste s₀ at (drop x l) k) (sym (add-one i));
  }

-- The parts that the lines of a listing are written in, and how long they are at most.
use Prim.Native.Nat.{ℕ, ◌≤◌, ◌<◌}
use mathlib.Core.Path.{◌≡◌, sym}
use mathlib.Core.Logic.{◌⊎◌, inl, inr}
use mathlib.Core.List.{[], ◌∷◌, ◌++◌, append_assoc}
use native.Mathlib.Omega.{arith}
use lib.ListN.{length, length-append}
use lib.IntN.{ℤ, nat_abs, sub_ℕ}
use borrow.Author.Tests.{lt-ltb, le-ltb}
use Rattle.order.proofs.Laws.{lt_or_le}
use Rattle.text.specs.Text.{max_size, decimal, signed, pair_text}
use Rattle.text.proofs.Digits.{decimal_length}
use Rattle.text.proofs.Signs.{signed_length}
use Rattle.listings.specs.Listing.{head_text, row_text}
use Rattle.listings.specs.Parts.{max_row, max_head}

-- a shift of two numbers of 32 bits is small
pub shift_small : (a b : ℕ) → a < max_size → b < max_size → nat_abs (sub_ℕ a b) < max_size
shift_small a b h k = go (lt_or_le a b)
  where
    go : (a < b) ⊎ (b ≤ a) → nat_abs (sub_ℕ a b) < max_size
    go (inl l) = rw (lt-ltb a b l) (omega arith)
    go (inr l) = rw (le-ltb a b l) (omega arith)

-- two numbers at a time, and those between them by themselves
pub head_parts : (n k d size : ℕ) → head_text n k d size ≡ pair_text n k 32 ++ pair_text d size 10
head_parts n k d size = sym (append_assoc (decimal n ++ (32 ∷ [])) _ _)

pub row_parts : (x start image : ℕ) (shift : ℤ) (holder weight : ℕ)
    → row_text x start image shift holder weight
    ≡ pair_text x start 32 ++ ((decimal image ++ (32 ∷ [])) ++ ((signed shift ++ (32 ∷ [])) ++ pair_text holder weight 10))
row_parts x start image shift holder weight = sym (append_assoc (decimal x ++ (32 ∷ [])) _ _)

module _ (x start image : ℕ) (shift : ℤ) (holder weight : ℕ) where
  pub row_length : x < max_size → start < max_size → image < max_size → nat_abs shift < max_size → holder < max_size
      → weight < max_size → length (row_text x start image shift holder weight) ≤ max_row
  row_length a b c d e f =
      simp (length-append)
      (omega (arith, decimal_length x a, decimal_length start b, decimal_length image c, signed_length shift d, decimal_length holder e, decimal_length weight f))

pub head_length : (n k d size : ℕ) → n < max_size → k < max_size → d < max_size → size < max_size → length (head_text n k d size) ≤ max_head
head_length n k d size a b c e =
    simp length-append (omega (arith, decimal_length n a, decimal_length k b, decimal_length d c, decimal_length size e))

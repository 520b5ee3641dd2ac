-- Integers of 64 bits: their bits read back, and their text by its sign and its size.
use Rattle.std.proofs.Common.{ℕ, ◌≤◌, ◌<◌, ◌≡◌, ◌∙◌, refl, sym, ap, true, false, [], ◌∷◌, ◌++◌, length, arith, ℤ, pos, negsuc, nat_abs}
use mir.Syntax.{w64}
use mir.Val.{SFits, to_z, of_z}
use mir.ValLaws.{to_z-of_z}
use lib.Signed.{lt_z}
use borrow.Author.Tests.{ltb-true}
use Rattle.text.specs.Text.{max_size, decimal, signed}
use Rattle.text.proofs.Digits.{decimal_length}

-- the bits of v say v
pub bits_back : (v : ℤ) → SFits w64 v → to_z w64 (of_z w64 v) ≡ v
bits_back v f = to_z-of_z w64 v f

-- the text of an integer, by its sign and its size
below_text : (v : ℤ) → lt_z v (pos 0) ≡ true → signed v ≡ 45 ∷ decimal (nat_abs v)
unfolding signed
below_text (pos v) e = absurd (omega (arith, ltb-true v 0 e))
below_text (negsuc v) e = refl

above_text : (v : ℤ) → lt_z v (pos 0) ≡ false → signed v ≡ decimal (nat_abs v)
unfolding signed
above_text (pos v) e = refl
above_text (negsuc v) e = cc

-- and by what its bits say
module _ (v : ℤ) (f : SFits w64 v) (size : ℕ) (sized : size ≡ nat_abs (to_z w64 (of_z w64 v))) where
  size_is : nat_abs v ≡ size
  size_is = sym (sized ∙ ap nat_abs (bits_back v f))

  pub signed_minus : lt_z (to_z w64 (of_z w64 v)) (pos 0) ≡ true → signed v ≡ (45 ∷ []) ++ decimal size
  signed_minus e = below_text v (rw (bits_back v f) at e) ∙ rw size_is

  pub signed_plus : lt_z (to_z w64 (of_z w64 v)) (pos 0) ≡ false → signed v ≡ decimal size
  signed_plus e = above_text v (rw (bits_back v f) at e) ∙ rw size_is

pub signed_length : (v : ℤ) → nat_abs v < max_size → length (signed v) ≤ 11
unfolding signed
signed_length (pos v) h = omega (arith, decimal_length v h)
signed_length (negsuc v) h = omega (arith, decimal_length (nat_abs (negsuc v)) h)

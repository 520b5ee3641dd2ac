-- How far a shift goes.
use Prim.Native.Nat.{ℕ, ◌^◌, ◌≤◌, ◌<◌}
use mathlib.Core.Logic.{◌⊎◌, inl, inr}
use native.Mathlib.Omega.{arith}
use lib.IntN.{nat_abs, sub_ℕ}
use borrow.Author.Tests.{lt-ltb, le-ltb}
use Rattle.order.proofs.Laws.{lt_or_le}
use Rattle.runs.specs.Runs.{Runs, count_of, start_of, image_of, shift_of}
use Rattle.runs.specs.Legal.{Legal}
use Rattle.runs.proofs.Legality.{homes}

sub_most : (a b m : ℕ) → a ≤ m → b ≤ m → nat_abs (sub_ℕ a b) ≤ m
sub_most a b m ha hb = go (lt_or_le a b)
  where
    go : (a < b) ⊎ (b ≤ a) → nat_abs (sub_ℕ a b) ≤ m
    go (inl h) = rw (lt-ltb a b h) (omega arith)
    go (inr h) = rw (le-ltb a b h) (omega arith)

-- The shift of a run of a legal list lies from −4,294,967,294 to 4,294,967,294: start and image lie below n, which has 32
-- bits. Both ends occur (demands/specs/Keys).
pub shift_range : (n : ℕ) (r : Runs) → Legal n r → n < 2 ^ 32 → (x : ℕ) → x < count_of r → nat_abs (shift_of r x) ≤ 4294967294
shift_range n r c w x h =
    sub_most (image_of r x) (start_of r x) 4294967294
    (omega (arith, c.within x h, (homes n r c).lasting x h))
    (omega (arith, c.below x h))

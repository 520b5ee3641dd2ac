-- A degree that passes test 7 is from 2 to 64, and such a degree passes it.
use Prim.Native.Nat.{ℕ, ◌≤◌}
use mathlib.Core.Path.{◌≡◌}
use mathlib.Core.Bool.{false}
use lib.Dec.{ltb}
use borrow.Author.Tests.{le-ltb, ltb-false}
use Rattle.order.proofs.Laws.{or_false}
use Rattle.outcomes.specs.Degree.{no_degree}

pub degree_in : (d : ℕ) → no_degree d ≡ false → (2 ≤ d) × (d ≤ 64)
degree_in d e = let i = or_false (ltb d 2) (ltb 64 d) e in (ltb-false d 2 i.0, ltb-false 64 d i.1)

pub degree_passes : (d : ℕ) → 2 ≤ d → d ≤ 64 → no_degree d ≡ false
degree_passes d low high = rw (le-ltb d 2 low, le-ltb 64 d high)

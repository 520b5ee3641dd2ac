-- The totals of the degrees: cleared, and while the certain cuts of a run are added to them.
use Prim.Native.Nat.{ℕ, ◌+◌, ◌-◌, ◌≤◌, ◌<◌}
use mathlib.Core.Path.{◌≡◌, ap, ◌∙◌}
use mathlib.Core.List.{List, ◌++◌}
use native.Mathlib.Omega.{arith}
use lib.ListN.{length, get_or, replicate, length-replicate, get_or-replicate, get_or-append}
use Rattle.cuts.specs.Certain.{certain_cuts}
use Rattle.bounds.specs.Parts.{PerDegree}

-- the totals before i are f's, the others are as they were
pub record Stored (f : ℕ → ℕ) (entry totals : List ℕ) (i : ℕ) : Type 0 where
  pub size : length totals ≡ length entry
  pub done : (j : ℕ) → j < i → get_or totals j 0 ≡ f j
  pub rest : (j : ℕ) → i ≤ j → get_or totals j 0 ≡ get_or entry j 0

-- totals that are cleared
pub cleared_all : (rest totals : List ℕ) → totals ≡ replicate 63 0 ++ rest → PerDegree (λ d. 0) totals
cleared_all rest totals e i l = ap (λ (t : List ℕ). get_or t i 0) e
    ∙ get_or-append (replicate 63 0) rest 0 i (omega (arith, length-replicate {A = ℕ} 63 0)) ∙ get_or-replicate 63 i 0 0 l

-- the certain cuts of a run of weight w are added at the degrees below d
pub record Adding (w : ℕ) (entry totals : List ℕ) (d : ℕ) : Type 0 where
  pub low : 2 ≤ d
  pub high : d ≤ 65
  pub stored : Stored (λ j. get_or entry j 0 + certain_cuts (j + 2) w) entry totals (d - 2)

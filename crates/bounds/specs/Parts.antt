-- The totals of the degrees from 2 to 64, that of degree d at d - 2: what the private functions ask and promise of them.
use Rattle.std.specs.Prelude.{ℕ, ◌+◌, ◌-◌, ◌≤◌, ◌<◌, ◌≡◌, List, map, length, get_or}
use Rattle.order.specs.Lists.{sum_of}
use Rattle.order.specs.Order.{order_of}
use Rattle.runs.specs.Check.{max_runs}
use Rattle.runs.specs.Legal.{Legal}
use Rattle.runs.specs.Parts.{Ordered}
use Rattle.runs.specs.Runs.{Runs, count_of, image_of}
use Rattle.runs.specs.Weight.{weight}
use Rattle.cuts.specs.Certain.{certain_cuts}

-- the total of each degree is what f says of it
abbrev pub PerDegree : (ℕ → ℕ) → List ℕ → Type 0
PerDegree f totals = (i : ℕ) → i < 63 → get_or totals i 0 ≡ f (i + 2)

-- the cuts that the runs in l are certain to get at degree d, together
abbrev pub certain_of : ℕ → Runs → List ℕ → ℕ → ℕ
certain_of n r l d = sum_of (λ x. certain_cuts d (weight n r x)) l

-- where the image at j in the order by image begins, or n after the last
abbrev pub image_from : ℕ → Runs → ℕ → ℕ
image_from n r j = get_or (map (image_of r) (order_of r.images)) j n

-- what adding a run of weight w asks: a total for each degree, none of them so high that w more would not fit
pub record Addable (totals : List ℕ) (w : ℕ) : Type 0 where
  pub sized : 63 ≤ length totals
  pub fits : (i : ℕ) → i < 63 → get_or totals i 0 + w < 4294967296

-- each total is more by the cuts that a run of weight w is certain to get at its degree
abbrev pub Added : ℕ → List ℕ → List ℕ → Type 0
Added w entry exit = (i : ℕ) → i < 63 → get_or exit i 0 ≡ get_or entry i 0 + certain_cuts (i + 2) w

-- what adding all runs asks: a legal list that is not too long, with its order by image, and a total of 0 for each degree
pub record Summable (n : ℕ) (r : Runs) (order totals : List ℕ) : Type 0 where
  pub legal : Legal n r
  pub ordered : Ordered r order
  pub few : count_of r ≤ max_runs
  pub sized : 63 ≤ length totals
  pub cleared : PerDegree (λ d. 0) totals

-- the total of each degree from `low` to below `to` is above `spare`
pub record Above (totals : List ℕ) (low spare to : ℕ) : Type 0 where
  pub from : low ≤ to
  pub most : to ≤ 65
  pub above : (d : ℕ) → low ≤ d → d < to → spare < get_or totals (d - 2) 0

-- and that of `to` is not, if `to` is a degree
pub record FirstWithin (totals : List ℕ) (low spare to : ℕ) : Type 0 where
  pub passed : Above totals low spare to
  pub within : to ≤ 64 → get_or totals (to - 2) 0 ≤ spare

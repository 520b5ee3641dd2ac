-- Degrees that are ruled out, since at each of them the balanced list has more intervals than a table has entries; and one at which
-- it is not cut.
use Rattle.std.specs.Prelude.{ℕ, ◌≤◌, ◌<◌, ◌≡◌, List, length}
use Rattle.runs.specs.Check.{max_runs}
use Rattle.runs.specs.Legal.{Legal}
use Rattle.runs.specs.Parts.{Ordered}
use Rattle.runs.specs.Runs.{Runs, count_of}
use Rattle.cuts.specs.Balance.{balanced, size_at}
use Rattle.bounds.specs.declared.First.{First}

-- what `first_degree` asks: a legal list that is not too long, with its order by image, room for a total for each degree, and
-- a degree to begin at
pub record Boundable (n : ℕ) (r : Runs) (order room : List ℕ) (low : ℕ) : Type 0 where
  pub legal : Legal n r
  pub ordered : Ordered r order
  pub few : count_of r ≤ max_runs
  pub in_room : 63 ≤ length room
  pub from : 2 ≤ low
  pub high : low ≤ 64

-- at each degree from `low` to below `to` the balanced list has more than `entries` intervals
pub record RuledOut (n : ℕ) (r : Runs) (low entries to : ℕ) : Type 0 where
  pub from : low ≤ to
  pub most : to ≤ 65
  pub none : (d : ℕ) → low ≤ d → d < to → entries < size_at n r d

-- what it promises: the degrees before the first one answered are ruled out, and at `whole`, if that is a degree, balancing leaves
-- the list as it is, which has few enough runs
pub record Opens (n : ℕ) (r : Runs) (low entries : ℕ) (first : First) : Type 0 where
  pub ruled : RuledOut n r low entries first.degree
  pub up : first.degree ≤ first.whole
  pub most : first.whole ≤ 65
  pub whole : first.whole ≤ 64 → (balanced first.whole n r ≡ r) × (count_of r ≤ entries)

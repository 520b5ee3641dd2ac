-- A list after cuts, told by the starts that they added, and the cuts that balance a list.
use Rattle.std.specs.Prelude.{ℕ, ◌+◌, ◌≤◌, ◌≡◌, List, map, length, take, drop}
use Rattle.merging.specs.Merged.{merged, Starts}
use Rattle.runs.specs.Legal.{Legal}
use Rattle.runs.specs.Parts.{Ordered}
use Rattle.runs.specs.Runs.{Runs, runs, count_of, map_of}
use Rattle.cuts.specs.Balance.{balanced, size_at}

-- the list after the cuts: more starts, and the same function
abbrev pub with_cuts : ℕ → Runs → List ℕ → Runs
with_cuts n r cuts = runs (merged r.starts cuts) (map (map_of n r) (merged r.starts cuts))

-- what `find_cuts` asks: a legal list with its order by image, a degree, and an entry for each run in both tables
pub record Cuttable (n : ℕ) (r : Runs) (order ranked : List ℕ) (d : ℕ) (working : List ℕ) : Type 0 where
  pub legal : Legal n r
  pub ordered : Ordered r order
  pub in_order : count_of r ≤ length order
  pub in_ranked : count_of r ≤ length ranked
  pub low : 2 ≤ d
  pub high : d ≤ 64
  pub in_working : count_of r ≤ length working

-- the first c entries of a table are the cuts that balance r
pub record CutsStand (d n : ℕ) (r : Runs) (table : List ℕ) (c : ℕ) : Type 0 where
  pub list_is : with_cuts n r (take c table) ≡ balanced d n r
  pub starts : Starts n r.starts (take c table)
  pub counted : c + count_of r ≡ size_at n r d
  pub fits : c ≤ length table

-- what `find_cuts` promises: they stand in the working table, whose other entries are as they were
pub record BalancingCuts (d n : ℕ) (r : Runs) (entry exit : List ℕ) (c : ℕ) : Type 0 where
  pub stand : CutsStand d n r exit c
  pub rest : drop c exit ≡ drop c entry

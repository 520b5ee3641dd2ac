-- What the private functions that write the tables ask and promise.
use Rattle.std.specs.Prelude.{ℕ, suc, ◌+◌, ◌≤◌, ◌<◌, ◌≡◌, List, [], ◌∷◌, length, get_or, Result}
use Rattle.outcomes.specs.Outcome.{Outcome, short_test, judge, map_done, over}
use Rattle.merging.specs.Merged.{Starts}
use Rattle.runs.specs.Legal.{Legal}
use Rattle.runs.specs.Runs.{Runs, count_of}
use Rattle.tables.specs.Tables.{Tables, all_columns, each_pair}
use Rattle.cuts.specs.Cuts.{with_cuts}
use Rattle.outcomes.specs.Refusal.{says as Refusal·says}
use Rattle.outcomes.specs.declared.Refusal.{Refusal}
use Rattle.balance.specs.Lent.{interval_count, filled_tables}

-- the run at x of a list with these starts has place p
pub record Has (n : ℕ) (starts : List ℕ) (x p : ℕ) : Type 0 where
  pub known : x < length starts
  pub from : get_or starts x 0 ≤ p
  pub to : p < get_or starts (suc x) n

-- the list after the cuts stands in two tables
pub record ListWritten (n : ℕ) (r : Runs) (cuts starts images starts' images' : List ℕ) : Type 0 where
  pub starts_at_exit : starts' ≡ over (with_cuts n r cuts).starts starts
  pub images_at_exit : images' ≡ over (with_cuts n r cuts).images images

-- the tables t stand in lent ones
abbrev pub TablesWritten : Tables → Tables → Tables → Type 0
TablesWritten t entry exit = exit ≡ each_pair over t entry

-- 8 for tables that are to hold `size` intervals, and what is written to them
unfoldable pub fill_of : ℕ → Tables → Tables → Outcome Tables
fill_of size t entry = judge (short_test size (all_columns entry) ∷ []) t

-- what filling the tables with a list after cuts asks, and promises
pub record Fillable (n : ℕ) (r : Runs) (cuts : List ℕ) : Type 0 where
  pub legal : Legal n r
  pub starts : Starts n r.starts cuts
  pub few : count_of r + length cuts < 4294967296

pub record Fills (size : ℕ) (t entry exit : Tables) (answer : Result ℕ Refusal) : Type 0 where
  pub says : Refusal·says answer ≡ map_done interval_count (fill_of size t entry)
  pub written : exit ≡ filled_tables (fill_of size t entry) entry

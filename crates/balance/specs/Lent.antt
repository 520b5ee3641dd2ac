-- Balancing into lent tables: its tests, and what stands in each table at exit.
use Rattle.std.specs.Prelude.{ℕ, ◌≤◌, ◌≡◌, List, [], ◌∷◌, ◌++◌, length, take, Result}
use Rattle.outcomes.specs.Outcome.{Outcome, done, refused, Test, Long, short_test, judge, map_done, over}
use Rattle.outcomes.specs.Refusal.{says as Refusal·says}
use Rattle.runs.specs.Runs.{Runs, count_of}
use Rattle.tables.specs.Tables.{Tables, tables, tables_to, tables_of, size_of, all_columns, each_column, each_pair}
use Rattle.tables.specs.declared.MoveTableMut.{MoveTableMut}
use Rattle.cuts.specs.Balance.{balanced, size_at}
use Rattle.plans.specs.Working.{working_size, plan_tests, cleared_by}
use Rattle.outcomes.specs.declared.Refusal.{Refusal}

-- the four tables, with any numbers in them and of any sizes, and the working table, as their owner lends them
pub record Lent : Type 0 where
  pub tables : Tables
  pub working : List ℕ

abbrev pub lent : List ℕ → List ℕ → List ℕ → List ℕ → List ℕ → Lent
lent s i h l w = record { tables = tables s i h l; working = w }

abbrev pub lent_in : MoveTableMut → List ℕ → Lent
lent_in t w = record { tables = tables_to t; working = w }

-- all that is lent, the working table last
abbrev pub lent_columns : Lent → List (List ℕ)
lent_columns l = all_columns l.tables ++ (l.working ∷ [])

-- the first k entries of the four tables
abbrev pub first_of : ℕ → Lent → Tables
first_of k l = each_column (take k) l.tables

-- what is lent has room for a balanced list: K entries in each of the four tables, and B in the working table
pub record Room (n : ℕ) (r : Runs) (d : ℕ) (l : Lent) : Type 0 where
  pub tables : Long (size_at n r d) (all_columns l.tables)
  pub working : working_size d (count_of r) ≤ length l.working

-- 1 to 7 and 8 for the working table, then 8 for the four: one of them has fewer than K entries
abbrev pub balance_tests : ℕ → Runs → ℕ → Lent → List Test
balance_tests n r d l =
    plan_tests n r d (length l.working) ++ (short_test (size_at n r d) (all_columns l.tables) ∷ [])

unfoldable pub balance_of : ℕ → Runs → ℕ → Lent → Outcome Tables
balance_of n r d l = judge (balance_tests n r d l) (tables_of n (balanced d n r))

-- K, which is answered
abbrev pub interval_count : Tables → ℕ
interval_count t = size_of t.links

-- what lent tables hold after a call that writes tables to their first entries, as `filled` says of one
unfoldable pub filled_tables : Outcome Tables → Tables → Tables
filled_tables (done t) entry = each_pair over t entry
filled_tables (refused k p) entry = entry

-- What `balance` promises: the answer K, the tables of the balanced list in the first K entries of the four, and every
-- other entry as it was, after a refusal all of them; and the working table at exit, cleared also where the last test applies.
pub record Balances (n : ℕ) (r : Runs) (d : ℕ) (entry exit : Lent) (answer : Result ℕ Refusal) : Type 0 where
  pub says : Refusal·says answer ≡ map_done interval_count (balance_of n r d entry)
  pub written : exit.tables ≡ filled_tables (balance_of n r d entry) entry.tables
  pub working : exit.working ≡ cleared_by n r d entry.working

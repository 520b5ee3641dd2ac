-- The forecast (document 02, A.5): how large a list will be once it is balanced, told with the working table alone lent.
use Rattle.std.specs.Prelude.{ℕ, ◌-◌, ◌≡◌, List, length, Result}
use Rattle.outcomes.specs.Outcome.{Outcome, judge}
use Rattle.outcomes.specs.Refusal.{says as Refusal·says}
use Rattle.outcomes.specs.declared.Refusal.{Refusal}
use Rattle.runs.specs.Runs.{Runs, count_of}
use Rattle.cuts.specs.Balance.{size_at}
use Rattle.plans.specs.Working.{plan_tests, cleared_by}
use Rattle.forecasts.specs.declared.BalancedSize.{BalancedSize}

-- K, and the number of cuts: each adds one interval (`cut_count` in cuts), so they are as many as K has more than k
abbrev pub forecast_at : ℕ → Runs → ℕ → BalancedSize
forecast_at n r d = record { intervals = size_at n r d; cuts = size_at n r d - count_of r }

-- tests 1 to 7, and 8 for a working table of `room` entries
unfoldable pub forecast_of : ℕ → Runs → ℕ → ℕ → Outcome BalancedSize
forecast_of n r d room = judge (plan_tests n r d room) (forecast_at n r d)

-- what `forecast` promises: the answer, and the working table at exit
pub record Forecasts (n : ℕ) (r : Runs) (d : ℕ) (entry exit : List ℕ) (answer : Result BalancedSize Refusal) : Type 0 where
  pub says : Refusal·says answer ≡ forecast_of n r d (length entry)
  pub working : exit ≡ cleared_by n r d entry

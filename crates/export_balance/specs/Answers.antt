-- The answer struct for each outcome: number 0 and the values where the call is done; else the number and the place of
-- the refusal, and 0 in every other field.
use Rattle.std.specs.Prelude.{ℕ, ◌≡◌, List, length, Result}
use Rattle.outcomes.specs.Outcome.{Outcome, done, refused, map_done}
use Rattle.runs.specs.Runs.{Runs}
use Rattle.plans.specs.Working.{cleared_by}
use Rattle.balance.specs.Lent.{Lent, Balances, balance_of, interval_count}
use Rattle.outcomes.specs.declared.Refusal.{Refusal}
use Rattle.forecasts.specs.Sizing.{forecast_of}
use Rattle.forecasts.specs.Seeking.{least_degree_of}
use Rattle.forecasts.specs.declared.BalancedSize.{BalancedSize}
use Rattle.forecasts.specs.declared.LeastDegree.{LeastDegree}
use Rattle.export_balance.specs.declared.BalanceAnswer.{BalanceAnswer}
use Rattle.export_balance.specs.declared.ForecastAnswer.{ForecastAnswer}
use Rattle.export_balance.specs.declared.DegreeAnswer.{DegreeAnswer}

-- how many intervals the balanced list has
abbrev pub balance_answer : Outcome ℕ → BalanceAnswer
balance_answer (done size) = record { number = 0; place = 0; intervals = size }
balance_answer (refused k p) = record { number = k; place = p; intervals = 0 }

abbrev pub forecast_answer : Outcome BalancedSize → ForecastAnswer
forecast_answer (done f) = record { number = 0; place = 0; intervals = f.intervals; cuts = f.cuts }
forecast_answer (refused k p) = record { number = k; place = p; intervals = 0; cuts = 0 }

abbrev pub degree_answer : Outcome LeastDegree → DegreeAnswer
degree_answer (done a) = record { number = 0; place = 0; degree = a.degree; intervals = a.intervals }
degree_answer (refused k p) = record { number = k; place = p; degree = 0; intervals = 0 }

-- what balancing promises: the answer, and of the lent tables at exit what the library promises. The library's own answer is there
-- because its promise names it
pub record BalanceAnswered (n : ℕ) (r : Runs) (d : ℕ) (entry exit : Lent) (answer : BalanceAnswer) : Type 0 where
  pub says : answer ≡ balance_answer (map_done interval_count (balance_of n r d entry))
  pub library : Result ℕ Refusal
  pub at_exit : Balances n r d entry exit library

-- what the others promise: the answer, and the working table at exit
pub record ForecastAnswered (n : ℕ) (r : Runs) (d : ℕ) (entry exit : List ℕ) (answer : ForecastAnswer) : Type 0 where
  pub says : answer ≡ forecast_answer (forecast_of n r d (length entry))
  pub working : exit ≡ cleared_by n r d entry

pub record DegreeAnswered (n : ℕ) (r : Runs) (entries : ℕ) (entry exit : List ℕ) (answer : DegreeAnswer) : Type 0 where
  pub says : answer ≡ degree_answer (least_degree_of n r entries (length entry))
  pub working : exit ≡ cleared_by n r 2 entry

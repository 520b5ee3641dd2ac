-- The search for a degree (document 02, A.5): the least one from 2 to 64 whose balanced list has at most as many intervals as
-- there are entries.
use Rattle.std.specs.Prelude.{ℕ, ◌≡◌, List, [], ◌∷◌, ◌++◌, length, Result}
use Rattle.outcomes.specs.Outcome.{Outcome, Test, judge}
use Rattle.outcomes.specs.Refusal.{says as Refusal·says}
use Rattle.outcomes.specs.declared.Refusal.{Refusal}
use Rattle.runs.specs.Check.{check_tests}
use Rattle.runs.specs.Runs.{Runs, count_of}
use Rattle.cuts.specs.Balance.{size_at}
use Rattle.plans.specs.Fitting.{least_from}
use Rattle.plans.specs.Working.{working_test, cleared_by}
use Rattle.plans.specs.Plan.{fitting_test}
use Rattle.forecasts.specs.declared.LeastDegree.{LeastDegree}

-- the least degree, or 65 where none fits, and its K
abbrev pub least_at : ℕ → Runs → ℕ → LeastDegree
least_at n r entries =
    record { degree = least_from n r entries 2; intervals = size_at n r (least_from n r entries 2) }

-- 1 to 6, then 8 for a working table of `room` entries, which is judged at degree 2, and 19
abbrev pub degree_tests : ℕ → Runs → ℕ → ℕ → List Test
degree_tests n r entries room =
    check_tests n r ++ (working_test 2 (count_of r) room ∷ fitting_test n r entries 2 ∷ [])

unfoldable pub least_degree_of : ℕ → Runs → ℕ → ℕ → Outcome LeastDegree
least_degree_of n r entries room = judge (degree_tests n r entries room) (least_at n r entries)

-- what `least_degree` promises: the answer, and the working table at exit, which is that of a call at degree 2
pub record Seeks (n : ℕ) (r : Runs) (entries : ℕ) (entry exit : List ℕ) (answer : Result LeastDegree Refusal) : Type 0 where
  pub says : Refusal·says answer ≡ least_degree_of n r entries (length entry)
  pub working : exit ≡ cleared_by n r 2 entry

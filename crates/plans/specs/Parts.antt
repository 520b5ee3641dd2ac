-- What the private functions of a plan ask and promise.
use Rattle.std.specs.Prelude.{ℕ, ◌≤◌, ◌≡◌, List, [], ◌∷◌, length, Result}
use Rattle.outcomes.specs.Outcome.{Outcome, done, judge}
use Rattle.outcomes.specs.Refusal.{says as Refusal·says}
use Rattle.outcomes.specs.Degree.{degree_test}
use Rattle.outcomes.specs.declared.Refusal.{Refusal}
use Rattle.runs.specs.Parts.{Ordered}
use Rattle.runs.specs.Runs.{Runs, count_of}
use Rattle.plans.specs.Working.{working_test, planned_of}

-- tests 7 and 8 of a list of k runs
unfoldable pub sized_of : ℕ → ℕ → ℕ → Outcome (Unit {0})
sized_of d k room = judge (degree_test d ∷ working_test d k room ∷ []) tt

-- the answer of tests 1 to 8, and the order by image of a list that passes them
pub record Decided (n : ℕ) (r : Runs) (d room : ℕ) (order : List ℕ) (answer : Result (Unit {0}) Refusal) : Type 0 where
  pub says : Refusal·says answer ≡ planned_of n r d room
  pub ordered : planned_of n r d room ≡ done tt → Ordered r order

-- what the search for a degree asks: a list that passes them with its order, and room to work in, for an entry a degree too
pub record Seekable (n : ℕ) (r : Runs) (low : ℕ) (order spare working : List ℕ) : Type 0 where
  pub passed : planned_of n r low (length working) ≡ done tt
  pub ordered : Ordered r order
  pub in_order : count_of r ≤ length order
  pub in_spare : count_of r ≤ length spare
  pub wide : 63 ≤ length spare

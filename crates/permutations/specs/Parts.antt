-- What the private parts of `next_list` ask and promise.
use Rattle.std.specs.Prelude.{ℕ, zero, suc, ◌-◌, ◌≤◌, ◌<◌, ◌≡◌, Option, Some, None, Result, List, [], ◌∷◌, length}
use Rattle.outcomes.specs.Outcome.{Outcome, refused, judge, and_then}
use Rattle.outcomes.specs.Refusal.{says as Refusal·says}
use Rattle.outcomes.specs.declared.Refusal.{Refusal}
use Rattle.runs.specs.Runs.{Runs, count_of, start_of, end_of}
use Rattle.runs.specs.Legal.{Legal}
use Rattle.folds.specs.Fold.{maximal_runs}
use Rattle.permutations.specs.Values.{value_at}
use Rattle.permutations.specs.Next.{max_places, successor, last_test, later_tests, next_runs}

-- the list is legal, and of few places
pub record Small (n : ℕ) (r : Runs) : Type 0 where
  pub legal : Legal n r
  pub few : n ≤ max_places

-- run x has place p
pub record HasPlace (n : ℕ) (r : Runs) (x p : ℕ) : Type 0 where
  pub run : x < count_of r
  pub from : start_of r x ≤ p
  pub to : p < end_of n r x

-- run x or the next has place p
pub record Near (n : ℕ) (r : Runs) (x p : ℕ) : Type 0 where
  pub legal : Legal n r
  pub place : p < n
  pub run : x < count_of r
  pub from : start_of r x ≤ p
  pub to : p ≤ end_of n r x

-- a place that a search answers with 0 where there is none
abbrev pub if_place : ℕ → Option ℕ
if_place zero = None
if_place (suc i) = Some (suc i)

-- the value at place i is above the one before it
pub record Ascent (l : List ℕ) (i : ℕ) : Type 0 where
  pub some : 0 < i
  pub inside : i < length l
  pub above : value_at l (i - 1) < value_at l i

-- where values are changed: at an ascent, and at another place from there on
pub record Change (l : List ℕ) (ascent other : ℕ) : Type 0 where
  pub some : 0 < ascent
  pub from : ascent ≤ other
  pub to : other < length l

-- the values are the numbers below n, each once
pub record Permutes (n : ℕ) (l : List ℕ) : Type 0 where
  pub size : length l ≡ n
  pub below : (p : ℕ) → p < n → value_at l p < n
  pub one : (p q : ℕ) → p < n → q < n → value_at l p ≡ value_at l q → p ≡ q

-- what is asked of values whose successor is written: they permute a few places, and the tables have an entry for each
pub record Writable (l starts images : List ℕ) : Type 0 where
  pub few : length l ≤ max_places
  pub permutes : Permutes (length l) l
  pub starts_room : length l ≤ length starts
  pub images_room : length l ≤ length images

-- the answer to a list of too many places or runs: the refusal that its check came to, or 17
pub record NoneListed (n : ℕ) (checked : Outcome (Unit {0})) (answer : Result ℕ Refusal) : Type 0 where
  pub says : Refusal·says answer ≡ and_then checked (λ _. refused 17 n)

-- what a call comes to after tests 1 to 6; and after 17 and 8, by the values alone
unfoldable pub later_of : ℕ → Runs → List ℕ → List ℕ → Outcome Runs
later_of n r to_starts to_images = judge (later_tests n r to_starts to_images) (next_runs n r)

unfoldable pub after_of : List ℕ → Outcome Runs
after_of l = judge (last_test l ∷ []) (maximal_runs (length l) (value_at (successor l)))

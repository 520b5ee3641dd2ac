-- What a fold and then balancing come to (document 02, A.8), over the contracts of both calls.
use Rattle.std.specs.Prelude.{ℕ, ◌≤◌, ◌≡◌, List, take, Result}
use Rattle.outcomes.specs.Refusal.{says}
use Rattle.outcomes.specs.declared.Refusal.{Refusal}
use Rattle.outcomes.specs.Outcome.{done, Long}
use Rattle.runs.specs.Runs.{Runs, runs, SamePermutation}
use Rattle.folds.specs.Lent.{Folds}
use Rattle.folds.specs.Fewest.{FewestOf}
use Rattle.cuts.specs.Balance.{bound_of}
use Rattle.balance.specs.Lent.{Lent, lent_columns, Room, first_of, Balances}

-- Two calls, one after the other: `fold` is handed the list r and answers `fewest`. `balance` is handed the list that `fold` left in the
-- first `fewest` entries of its tables.
pub record BothCalls (n : ℕ) (r : Runs) (fewest d : ℕ) (entry exit : Lent) (answer : Result ℕ Refusal) : Type 0 where
  pub to_starts : List ℕ
  pub to_images : List ℕ
  pub to_starts' : List ℕ
  pub to_images' : List ℕ
  pub fold_answer : Result ℕ Refusal
  pub folds : Folds n r to_starts to_images to_starts' to_images' fold_answer
  pub fold_says : says fold_answer ≡ done fewest
  pub balances : Balances n (runs (take fewest to_starts') (take fewest to_images')) d entry exit answer

pub record FoldedFirst : Type 0 where
  -- "A list folded and then balanced has at most the whole part of d×r/(d−1) intervals, r being its fewest runs, which is the bound of
  -- source document 001". The document's r is `fewest` here. The tables that `balance` leaves have the permutation of the list.
  pub bound : (n : ℕ) (r : Runs) (fewest d : ℕ) (entry exit : Lent) (answer : Result ℕ Refusal) → BothCalls n r fewest d entry exit answer
      → (intervals : ℕ) → says answer ≡ done intervals
      → FewestOf n r fewest × (intervals ≤ bound_of d fewest) × SamePermutation n (first_of intervals exit).links.list r
  -- And `balance` does answer, for a degree from 2 to 64, where it has room for the list that `fold` left. As many entries as the bound
  -- says are enough.
  pub answered : (n : ℕ) (r : Runs) (fewest d : ℕ) (entry exit : Lent) (answer : Result ℕ Refusal) (c : BothCalls n r fewest d entry exit answer)
      → 2 ≤ d → d ≤ 64 → Room n (runs (take fewest c.to_starts') (take fewest c.to_images')) d entry
      → (intervals : ℕ) × (says answer ≡ done intervals)
  pub answered_in_bound : (n : ℕ) (r : Runs) (fewest d : ℕ) (entry exit : Lent) (answer : Result ℕ Refusal)
      → BothCalls n r fewest d entry exit answer
      → 2 ≤ d → d ≤ 64 → Long (bound_of d fewest) (lent_columns entry) → (intervals : ℕ) × (says answer ≡ done intervals)

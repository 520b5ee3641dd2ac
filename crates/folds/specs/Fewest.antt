-- All that is promised of folds beside demand 1 (document 02, A.8). Proved in proofs/Fewest. What folding and then balancing come to
-- stands in demands/specs/FoldedFirst.
use Rattle.std.specs.Prelude.{ℕ, suc, ◌≤◌, ◌<◌, ◌≡◌, ◌↔◌, ◌≢◌, List, [], ◌∷◌, take, drop, Result}
use Rattle.outcomes.specs.Outcome.{done, Long}
use Rattle.outcomes.specs.Refusal.{says}
use Rattle.outcomes.specs.declared.Refusal.{Refusal}
use Rattle.runs.specs.Runs.{Runs, runs, count_of, image_of, image_end, map_of, SamePermutation}
use Rattle.runs.specs.Legal.{Legal}
use Rattle.runs.specs.Check.{max_runs}
use Rattle.folds.specs.Fold.{folded, breakpoints, maximal_runs}
use Rattle.folds.specs.Lent.{fold_of, Folds}

-- m is the fewest runs of r's permutation: a legal list has m, and none has fewer
pub record FewestOf (n : ℕ) (r : Runs) (m : ℕ) : Type 0 where
  pub list : Runs
  pub legal : Legal n list
  pub same : SamePermutation n list r
  pub counted : count_of list ≡ m
  pub least : (q : Runs) → Legal n q → SamePermutation n q r → m ≤ count_of q

pub record FewestRuns : Type 0 where
  -- "Fold a legal list": the fold is a legal list of the same permutation, with no more runs
  pub legal : (n : ℕ) (r : Runs) → Legal n r → Legal n (folded r)
  pub same : (n : ℕ) (r : Runs) → Legal n r → SamePermutation n (folded r) r
  pub few : (r : Runs) → count_of (folded r) ≤ count_of r
  -- "neighbours whose images follow on become one run": no two neighbours of the fold follow on
  pub apart : (n : ℕ) (r : Runs) → Legal n r → (x : ℕ) → suc x < count_of (folded r)
      → image_of (folded r) (suc x) ≢ image_end n (folded r) x
  -- its starts are 0 and the places whose value is not the one before plus 1, and its images the values there, so that the fold
  -- depends on the permutation alone
  pub starts : (n : ℕ) (r : Runs) → Legal n r → (folded r).starts ≡ breakpoints n (map_of n r)
  pub maximal : (n : ℕ) (r : Runs) → Legal n r → folded r ≡ maximal_runs n (map_of n r)
  -- "no list of the same permutation has fewer runs", however it was cut; and one that has as few is the fold
  pub fewest : (n : ℕ) (r : Runs) → Legal n r → FewestOf n r (count_of (folded r))
  pub only : (n : ℕ) (r q : Runs) → Legal n r → Legal n q → SamePermutation n q r → count_of q ≤ count_of (folded r) → q ≡ folded r
  -- "two lists of one length n have one permutation exactly when their folds are equal"
  pub one : (n : ℕ) (r q : Runs) → Legal n r → Legal n q → SamePermutation n r q ↔ (folded r ≡ folded q)
  -- "folding twice changes nothing"
  pub twice : (n : ℕ) (r : Runs) → Legal n r → folded (folded r) ≡ folded r
  -- a list of fewest runs is its own fold
  pub own : (n : ℕ) (r : Runs) → Legal n r → FewestOf n r (count_of r) → folded r ≡ r
  -- a call is done exactly where the list is legal, of at most 16,384 runs, and both tables have at least k entries
  pub given : (n : ℕ) (r : Runs) (a b : List ℕ) (q : Runs) → (fold_of n r a b ≡ done q)
      ↔ (Legal n r × (count_of r ≤ max_runs) × Long (count_of r) (a ∷ b ∷ []) × (q ≡ folded r))
  -- A call that answers m was handed a legal list. It leaves the fold, of m runs, in the first m entries of both tables. The entries
  -- from m on keep their numbers, also those below k.
  pub written : (n : ℕ) (r : Runs) (a b a' b' : List ℕ) (x : Result ℕ Refusal) → Folds n r a b a' b' x → (m : ℕ) → says x ≡ done m
      → let q = runs (take m a') (take m b') in
      Legal n r × (q ≡ folded r) × (count_of q ≡ m) × (m ≤ max_runs) × (drop m a' ≡ drop m a) × (drop m b' ≡ drop m b)

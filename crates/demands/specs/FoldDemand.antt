-- What demand 1 is to say of folds (document 02, A.8): the order of their tests, and what a refusal leaves.
use Rattle.std.specs.Prelude.{ℕ, ◌≡◌, List, [], ◌∷◌, Result}
use Rattle.outcomes.specs.Refusal.{says}
use Rattle.outcomes.specs.declared.Refusal.{Refusal}
use Rattle.outcomes.specs.Outcome.{refused}
use Rattle.runs.specs.Runs.{Runs}
use Rattle.runs.specs.Check.{write_tests}
use Rattle.folds.specs.Fold.{folded}
use Rattle.folds.specs.Lent.{fold_of, Folds}
use Rattle.demands.specs.Judged.{Judged}

pub record FoldDemand : Type 0 where
  -- the fold: the tests of the inverse list, 8 with k as there
  pub fold : (n : ℕ) (r : Runs) (a b : List ℕ)
      → Judged (1 ∷ 2 ∷ 3 ∷ 4 ∷ 5 ∷ 6 ∷ 8 ∷ []) (write_tests n r (a ∷ b ∷ [])) (folded r) (fold_of n r a b)
  pub fold_kept : (n : ℕ) (r : Runs) (a b a' b' : List ℕ) (x : Result ℕ Refusal) → Folds n r a b a' b' x
      → (k p : ℕ) → says x ≡ refused k p → (a' ≡ a) × (b' ≡ b)

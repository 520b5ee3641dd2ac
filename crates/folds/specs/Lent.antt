-- A fold that is written to lent tables (document 02, A.8): its tests, its answer, and what stands in both tables at exit.
use Rattle.std.specs.Prelude.{ℕ, List, [], ◌∷◌, Result}
use Rattle.outcomes.specs.Outcome.{Outcome, judge}
use Rattle.outcomes.specs.Refusal.{says}
use Rattle.outcomes.specs.declared.Refusal.{Refusal}
use Rattle.runs.specs.Runs.{Runs, count_of}
use Rattle.runs.specs.Check.{write_tests}
use Rattle.runs.specs.Written.{WritesList}
use Rattle.folds.specs.Fold.{folded}

-- "a shorter table is 8 with k, after 1 to 6": k is the run count of the list that is handed in, and not the fold's
unfoldable pub fold_of : ℕ → Runs → List ℕ → List ℕ → Outcome Runs
fold_of n r to_starts to_images = judge (write_tests n r (to_starts ∷ to_images ∷ [])) (folded r)

-- What `fold` promises: "the folded list goes to two lent tables .., the rest unchanged, and the answer is its run count".
abbrev pub Folds : ℕ → Runs → List ℕ → List ℕ → List ℕ → List ℕ → Result ℕ Refusal → Type 0
Folds n r to_starts to_images = WritesList says count_of (fold_of n r to_starts to_images) to_starts to_images

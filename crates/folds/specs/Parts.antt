-- What the code that folds asks and promises.
use Rattle.std.specs.Prelude.{ℕ, suc, ◌<◌, ◌≡◌, List, length}
use Rattle.outcomes.specs.Outcome.{over}
use Rattle.runs.specs.Runs.{Runs, count_of, start_of}
use Rattle.folds.specs.Fold.{folded}

-- each run has an image, and the starts rise
pub record Foldable (r : Runs) : Type 0 where
  pub paired : length r.images ≡ count_of r
  pub rising : (x : ℕ) → suc x < count_of r → start_of r x < start_of r (suc x)

-- the folded list stands in two tables, and has k runs
pub record FoldWritten (r : Runs) (starts images starts' images' : List ℕ) (k : ℕ) : Type 0 where
  pub counted : k ≡ count_of (folded r)
  pub starts_at_exit : starts' ≡ over (folded r).starts starts
  pub images_at_exit : images' ≡ over (folded r).images images

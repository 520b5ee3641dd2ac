-- A call that writes a list to two lent tables.
use Rattle.std.specs.Prelude.{ℕ, ◌≡◌, List, [], ◌∷◌}
use Rattle.outcomes.specs.Outcome.{Outcome, short_test, judge, map_done, filled}
use Rattle.runs.specs.Runs.{Runs}
use Rattle.runs.specs.declared.RunListMut.{RunListMut}

-- The answer says what the call comes to, with `result` of the list in place of the list; and at exit both tables have the list over
-- their first entries, or after a refusal what they had.
pub record WritesList {A B : Type 0} (said : B → Outcome A) (result : Runs → A) (o : Outcome Runs)
    (starts images starts' images' : List ℕ) (answer : B) : Type 0 where
  pub says : said answer ≡ map_done result o
  pub starts_at_exit : starts' ≡ filled (λ q. q.starts) o starts
  pub images_at_exit : images' ≡ filled (λ q. q.images) o images

-- test 8 by itself: the list q where both tables have at least k entries, and else 8 with k
unfoldable pub if_room : ℕ → Runs → List ℕ → List ℕ → Outcome Runs
if_room k q to_starts to_images = judge (short_test k (to_starts ∷ to_images ∷ []) ∷ []) q

-- the tables at exit are still those that were lent
abbrev pub SameTables : RunListMut → RunListMut → Type 0
SameTables to to' = (to'.starts.ghost_name ≡ to.starts.ghost_name) × (to'.images.ghost_name ≡ to.images.ghost_name)

-- The same calls served by tables, each from where the one before left off.
use Rattle.std.specs.Prelude.{ℕ, zero, suc, List, [], ◌∷◌, Result}
use Rattle.outcomes.specs.Refusal.{says}
use Rattle.outcomes.specs.declared.Refusal.{Refusal}
use Rattle.outcomes.specs.Outcome.{Outcome, done, refused}
use Rattle.tables.specs.Tables.{Tables}
use Rattle.walks.specs.Move.{find_of, move_of, moves_of, Finds, MovesOnce, MovesOften}
use Rattle.bookmarks.specs.Bookmark.{Advances, Marking, marking_of}
use Rattle.walks.specs.declared.Step.{Step}
use Rattle.bookmarks.specs.declared.Bookmark.{Bookmark}
use Rattle.bookmarks.specs.declared.Marked.{Marked}
use Rattle.demands.specs.Calls.{Call, find, move, moves, Reply, found, moved}

-- What a call leaves to the next: the place and the interval that it gave, a find its own place with the interval found,
-- a refused call those before it.
abbrev pub place_after : Outcome Step → ℕ → ℕ
place_after (done s) p = s.place
place_after (refused k q) p = p

abbrev pub interval_after : Outcome Step → ℕ → ℕ
interval_after (done s) x = s.interval
interval_after (refused k q) x = x

abbrev pub place_found : Outcome ℕ → ℕ → ℕ → ℕ
place_found (done y) i p = i
place_found (refused k q) i p = p

abbrev pub interval_found : Outcome ℕ → ℕ → ℕ
interval_found (done y) x = y
interval_found (refused k q) x = x

-- A call with the answer that it gave.
pub data Made : Type 0 where
  find_made : ℕ → Result ℕ Refusal → Made
  move_made : Result Step Refusal → Made
  moves_made : ℕ → Result Step Refusal → Made

abbrev pub call_of : Made → Call
call_of (find_made i a) = find i
call_of (move_made a) = move
call_of (moves_made m a) = moves m

-- the answer in the paper's numbers
abbrev pub reply_of : Made → Reply
reply_of (find_made i a) = found (says a)
reply_of (move_made a) = moved (says a)
reply_of (moves_made m a) = moved (says a)

module _ (n : ℕ) (t : Tables) where
  unfoldable pub served : ℕ → ℕ → List Call → List Reply
  served p x [] = []
  served p x (find i ∷ cs) =
      let a = find_of n t i in found a ∷ served (place_found a i p) (interval_found a x) cs
  served p x (move ∷ cs) =
      let a = move_of n t x p in moved a ∷ served (place_after a p) (interval_after a x) cs
  served p x (moves m ∷ cs) =
      let a = moves_of n t m x p in moved a ∷ served (place_after a p) (interval_after a x) cs

  -- Calls of `find`, `move_query` and `repeated_moves` in turn: each meets its contract, at the place and the interval that the one
  -- before left. Nobody writes the tables meanwhile.
  abbrev pub InTurn : ℕ → ℕ → List Made → Type 0
  InTurn p x [] = Unit {0}
  InTurn p x (find_made i a ∷ ms) =
      Finds n t i a × InTurn (place_found (says a) i p) (interval_found (says a) x) ms
  InTurn p x (move_made a ∷ ms) =
      MovesOnce n t x p a × InTurn (place_after (says a) p) (interval_after (says a) x) ms
  InTurn p x (moves_made m a ∷ ms) =
      MovesOften n t m x p a × InTurn (place_after (says a) p) (interval_after (says a) x) ms

  -- the moves of a bookmark stand in a list of their own: k of them
  unfoldable pub served_trail : ℕ → Bookmark → List Marking
  served_trail zero b = []
  served_trail (suc k) b = marking_of n t b ∷ served_trail k (marking_of n t b).bookmark

  -- Calls of `advance` on one lent bookmark: each meets its contract from the bookmark that the one before left, since
  -- nobody else writes it. Of each call, the answer and the bookmark at its exit.
  abbrev pub Advancing : Bookmark → List Marked → Type 0
  Advancing b [] = Unit {0}
  Advancing b (m ∷ ms) = Advances n t b m.moved m.bookmark × Advancing m.bookmark ms

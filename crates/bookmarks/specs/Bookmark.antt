-- A bookmark's move (document 01, "Walking"), with the distance of document 02, A.2, its count of the starts read, A.4, and its test
-- of the interval's length, A.7.
use Rattle.std.specs.Prelude.{ℕ, ◌+◌, ◌^◌, ◌≡◌, Bool, ◌||◌, Result, List, [], ◌∷◌, ◌++◌, leb}
use Rattle.outcomes.specs.Outcome.{Outcome, done, refused, Test, test, judge}
use Rattle.outcomes.specs.Refusal.{says}
use Rattle.outcomes.specs.declared.Refusal.{Refusal}
use Rattle.tables.specs.Tables.{Tables}
use Rattle.walks.specs.Move.{step_of, move_tests}
use Rattle.walks.specs.declared.Step.{Step}
use Rattle.bookmarks.specs.declared.Bookmark.{Bookmark}
use Rattle.bookmarks.specs.declared.Marked.{Marked}

-- a bookmark that has made no move yet; its distance g is any number, since no move reads it
abbrev pub fresh : ℕ → ℕ → ℕ → Bookmark
fresh p x g = record { place = p; interval = x; distance = g; moves = 0; count = 0 }

-- a bookmark with another distance
abbrev pub with_distance : ℕ → Bookmark → Bookmark
with_distance g b =
    record { place = b.place; interval = b.interval; distance = g; moves = b.moves; count = b.count }

-- 13: after the step the moves would not fit in 32 bits, or the starts read not in 64
unfoldable pub overflows : Bookmark → Step → Bool
overflows b s = leb (2 ^ 32) (b.moves + 1) || leb (2 ^ 64) (b.count + s.count)

-- the tests of one move, then 13; the answer is that move's
abbrev pub bookmark_tests : ℕ → Tables → Bookmark → List Test
bookmark_tests n t b =
    move_tests n t b.interval b.place ++ (test 13 (overflows b (step_of t.links b.interval b.place)) 0 ∷ [])

unfoldable pub bookmark_of : ℕ → Tables → Bookmark → Outcome Step
bookmark_of n t b = judge (bookmark_tests n t b) (step_of t.links b.interval b.place)

-- the bookmark after an answer: further by the step, or as it was
unfoldable pub mark_after : Bookmark → Outcome Step → Bookmark
mark_after b (done s) =
    record { place = s.place; interval = s.interval; distance = s.distance; moves = b.moves + 1; count = b.count + s.count }
mark_after b (refused k p) = b

-- what a bookmark's move promises: the answer, and the bookmark that it leaves of b
pub record Advances (n : ℕ) (t : Tables) (b : Bookmark) (m : Result Step Refusal) (left : Bookmark) : Type 0 where
  pub says : says m ≡ bookmark_of n t b
  pub mark : left ≡ mark_after b (bookmark_of n t b)

-- an answer to a bookmark's move, and the bookmark after it
pub record Marking : Type 0 where
  pub answer : Outcome Step
  pub bookmark : Bookmark

abbrev pub marking : Outcome Step → Bookmark → Marking
marking a b = record { answer = a; bookmark = b }

abbrev pub marked_says : Marked → Marking
marked_says m = marking (says m.moved) m.bookmark

unfoldable pub marking_of : ℕ → Tables → Bookmark → Marking
marking_of n t b = marking (bookmark_of n t b) (mark_after b (bookmark_of n t b))

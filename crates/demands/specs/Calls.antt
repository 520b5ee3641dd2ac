-- The calls of a walk, their replies, and what these count.
use Rattle.std.specs.Prelude.{ℕ, ◌*◌, ◌≤◌, List, map}
use Rattle.order.specs.Lists.{sum_of}
use Rattle.outcomes.specs.Outcome.{Outcome, done, refused}
use Rattle.walks.specs.declared.Step.{Step}
use Rattle.bookmarks.specs.Bookmark.{Marking}

pub data Call : Type 0 where
  find : ℕ → Call
  move : Call
  moves : ℕ → Call

pub data Reply : Type 0 where
  found : Outcome ℕ → Reply
  moved : Outcome Step → Reply

abbrev pub total : List ℕ → ℕ
total l = sum_of (λ v. v) l

-- the moves that a call asks for, and the moves of the whole list
abbrev pub moves_in : Call → ℕ
moves_in (find i) = 0
moves_in move = 1
moves_in (moves m) = m

abbrev pub all_moves : List Call → ℕ
all_moves cs = total (map moves_in cs)

-- the starts that an answer and a reply count, and all counts together
abbrev pub count_of_move : Outcome Step → ℕ
count_of_move (done s) = s.count
count_of_move (refused k p) = 0

abbrev pub count_in : Reply → ℕ
count_in (found o) = 0
count_in (moved o) = count_of_move o

abbrev pub all_counts : List Reply → ℕ
all_counts replies = total (map count_in replies)

-- A bookmark's move counts at most b starts, and the bookmark after it at most b for each move that it has made.
pub record Bounded (b : ℕ) (m : Marking) : Type 0 where
  pub move : count_of_move m.answer ≤ b
  pub sum : m.bookmark.count ≤ m.bookmark.moves * b

-- What is left of a bookmark's move when the move is made: the contract of `mark` and the laws of bookmarks cite these.
use Rattle.std.specs.Prelude.{◌+◌, List, [], ◌∷◌}
use Rattle.outcomes.specs.Outcome.{Outcome, Test, test, judge}
use Rattle.walks.specs.declared.Step.{Step}
use Rattle.bookmarks.specs.Bookmark.{overflows}
use Rattle.bookmarks.specs.declared.Bookmark.{Bookmark}

-- the bookmark further by a step
abbrev pub further : Bookmark → Step → Bookmark
further b s =
    record { place = s.place; interval = s.interval; distance = s.distance; moves = b.moves + 1; count = b.count + s.count }

-- after 12: 13
abbrev pub room_test : Bookmark → Step → List Test
room_test b s = test 13 (overflows b s) 0 ∷ []

-- and the answer, or the bookmark
unfoldable pub mark_of : Bookmark → Step → Outcome Step
mark_of b s = judge (room_test b s) s

unfoldable pub marked_of : Bookmark → Step → Outcome Bookmark
marked_of b s = judge (room_test b s) (further b s)

-- The answer struct for each outcome of a bookmark's move: number 0 and the move's count where it is done, else the number and
-- the place of the refusal, and 0 for the count.
use Rattle.std.specs.Prelude.{ℕ, ◌≡◌}
use Rattle.outcomes.specs.Outcome.{Outcome, done, refused}
use Rattle.tables.specs.Tables.{Tables}
use Rattle.walks.specs.declared.Step.{Step}
use Rattle.bookmarks.specs.Bookmark.{bookmark_of, mark_after}
use Rattle.bookmarks.specs.declared.Bookmark.{Bookmark}
use Rattle.export_bookmarks.specs.declared.AdvanceAnswer.{AdvanceAnswer}

abbrev pub advance_answer : Outcome Step → AdvanceAnswer
advance_answer (done s) = record { number = 0; place = 0; count = s.count }
advance_answer (refused k p) = record { number = k; place = p; count = 0 }

-- what the call promises: the answer, and the bookmark that it leaves of b
pub record AdvancesHost (n : ℕ) (t : Tables) (b : Bookmark) (r : AdvanceAnswer) (left : Bookmark) : Type 0 where
  pub says : r ≡ advance_answer (bookmark_of n t b)
  pub mark : left ≡ mark_after b (bookmark_of n t b)

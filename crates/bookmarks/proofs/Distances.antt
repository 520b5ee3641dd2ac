-- A bookmark's distance, on any tables: no move reads it, and a move that is made writes how far the place reached lies from the
-- start of the interval reached.
use Prim.Native.Nat.{ℕ}
use mathlib.Core.Path.{◌≡◌, refl, sym, ◌∙◌}
use Rattle.std.specs.Prelude.{Result}
use Rattle.outcomes.specs.Outcome.{done}
use Rattle.outcomes.specs.Refusal.{says}
use Rattle.outcomes.specs.declared.Refusal.{Refusal}
use Rattle.tables.specs.Tables.{Tables}
use Rattle.walks.specs.Move.{LiesIn}
use Rattle.walks.specs.declared.Step.{Step}
use Rattle.walks.proofs.Distances.{move_lies}
use Rattle.bookmarks.specs.Bookmark.{with_distance, overflows, bookmark_of, mark_after, Advances, marking_of}
use Rattle.bookmarks.specs.declared.Bookmark.{Bookmark}
use Rattle.bookmarks.proofs.Marks.{after_done, bookmark_moved}

module _ (n : ℕ) (t : Tables) (b : Bookmark) where
  -- with another distance the answer is the same, and so is the bookmark after a move that is made
  pub distance_unread : (g : ℕ) → bookmark_of n t (with_distance g b) ≡ bookmark_of n t b
  unfolding bookmark_of overflows
  distance_unread g = refl

  pub distance_forgotten : (g : ℕ) (s : Step) → bookmark_of n t b ≡ done s → marking_of n t (with_distance g b) ≡ marking_of n t b
  unfolding marking_of mark_after
  distance_forgotten g s e = rw (distance_unread g, e)

  -- what a move that is made answers and leaves
  mark_lies : (s : Step) → bookmark_of n t b ≡ done s
      → LiesIn n t.links s.interval s.place s.distance
      × (let c = mark_after b (bookmark_of n t b) in LiesIn n t.links c.interval c.place c.distance)
  mark_lies s e =
      let l = move_lies n t b.interval b.place s (bookmark_moved n t b s e) in
      (l, rw (← after_done b (bookmark_of n t b) s (sym e)) l)

  pub marked_lies : (m : Result Step Refusal) (left : Bookmark) → Advances n t b m left → (s : Step) → says m ≡ done s
      → LiesIn n t.links s.interval s.place s.distance × LiesIn n t.links left.interval left.place left.distance
  marked_lies m left a s e = rw a.mark (mark_lies s (sym a.says ∙ e))

-- A bookmark's move is a move with test 13 after it; a refusal leaves the bookmark as it was.
use Prim.Native.Nat.{ℕ, ◌+◌, ◌^◌, ◌≤◌, ◌<◌}
use mathlib.Core.Path.{◌≡◌, refl, sym, ap, ◌∙◌}
use mathlib.Core.Bool.{false}
use native.Mathlib.Omega.{arith}
use borrow.Author.Tests.{le-leb, lt-leb}
use Rattle.std.specs.Prelude.{Result, Ok, Err}
use Rattle.outcomes.specs.Outcome.{Outcome, done, refused, judge, map_done, and_then}
use Rattle.outcomes.proofs.Judging.{done_refused, judge_append, judge_map, judge_done}
use Rattle.outcomes.specs.Refusal.{refusal_says, says}
use Rattle.outcomes.specs.declared.Refusal.{Refusal}
use Rattle.tables.specs.Tables.{Tables}
use Rattle.walks.specs.Move.{step_of, move_of, move_tests, ReadsTo}
use Rattle.walks.proofs.Moves.{move_reads}
use Rattle.bookmarks.specs.Bookmark.{overflows, bookmark_of, mark_after, Advances, marking, marking_of}
use Rattle.bookmarks.specs.Parts.{further, room_test, mark_of, marked_of}
use Rattle.walks.specs.declared.Step.{Step}
use Rattle.bookmarks.specs.declared.Bookmark.{Bookmark}

-- 13
module _ (b : Bookmark) (s : Step) where
  no_overflow : b.moves + 1 < 2 ^ 32 → b.count + s.count < 2 ^ 64 → overflows b s ≡ false
  unfolding overflows
  no_overflow l m = simp (lt-leb _ _ l, lt-leb _ _ m)

  mark_on : overflows b s ≡ false → done s ≡ mark_of b s
  unfolding mark_of judge
  mark_on f = simp f

  -- the answer, by the bookmark
  mark_is : mark_of b s ≡ map_done (λ _. s) (marked_of b s)
  unfolding mark_of marked_of
  mark_is = judge_map (room_test b s) (further b s) s

  marked_further : (c : Bookmark) → done c ≡ marked_of b s → c ≡ further b s
  unfolding marked_of
  marked_further c e = sym (judge_done (room_test b s) (further b s) c (sym e))

-- the bookmark that comes back
pub after_refused : (b : Bookmark) (o : Outcome Step) (k p : ℕ) → refused k p ≡ o → b ≡ mark_after b o
unfolding mark_after
after_refused b o k p e = rw (← e)

-- what is promised of a bookmark's move says so
pub bookmark_kept : (n : ℕ) (t : Tables) (b : Bookmark) (m : Result Step Refusal) (left : Bookmark) → Advances n t b m left
    → (k p : ℕ) → says m ≡ refused k p → left ≡ b
bookmark_kept n t b m left a k p e = a.mark ∙ sym (after_refused b (bookmark_of n t b) k p (sym e ∙ a.says))

-- and is one equation
pub advances_marking : (n : ℕ) (t : Tables) (b : Bookmark) (m : Result Step Refusal) (left : Bookmark) → Advances n t b m left
    → marking (says m) left ≡ marking_of n t b
unfolding marking_of
advances_marking n t b m left a = λ i. marking (a.says i) (a.mark i)

pub after_done : (b : Bookmark) (o : Outcome Step) (s : Step) → done s ≡ o
    → record { place = s.place; interval = s.interval; distance = s.distance; moves = b.moves + 1; count = b.count + s.count }
    ≡ mark_after b o
unfolding mark_after
after_done b o s e = rw (← e)

-- a bookmark's move is a move, and what is left of it
module _ (n : ℕ) (t : Tables) (b : Bookmark) where
  bookmark_is : bookmark_of n t b
      ≡ and_then (move_of n t b.interval b.place) (λ _. mark_of b (step_of t.links b.interval b.place))
  unfolding bookmark_of move_of mark_of
  bookmark_is = judge_append (move_tests n t b.interval b.place) _ _ _

  pub bookmark_refused : (k p : ℕ) → refused k p ≡ move_of n t b.interval b.place → refused k p ≡ bookmark_of n t b
  unfolding and_then
  bookmark_refused k p e = rw (bookmark_is, ← e)

  pub bookmark_on : (s : Step) → done s ≡ move_of n t b.interval b.place → mark_of b s ≡ bookmark_of n t b
  unfolding move_of and_then
  bookmark_on s e =
      let z = judge_done (move_tests n t b.interval b.place) (step_of t.links b.interval b.place) s (sym e) in
      rw (bookmark_is, ← e) (ap (mark_of b) (sym z))

  -- what the code finds: the move is refused, or a counter is full, or neither
  pub advances_refused : (r : Refusal) → refusal_says r ≡ move_of n t b.interval b.place → Advances n t b (Err r) b
  advances_refused r e =
      let f = bookmark_refused _ _ e in
      record { says = f; mark = after_refused b (bookmark_of n t b) _ _ f }

  module _ (s : Step) (e : done s ≡ move_of n t b.interval b.place) where
    pub advances_full : (r : Refusal) → refusal_says r ≡ marked_of b s → Advances n t b (Err r) b
    unfolding map_done
    advances_full r f =
        let g : refusal_says r ≡ bookmark_of n t b = rw (← bookmark_on s e, mark_is b s, ← f) in
        record { says = g; mark = after_refused b (bookmark_of n t b) _ _ g }

    pub advances_on : (c : Bookmark) → done c ≡ marked_of b s → Advances n t b (Ok s) c
    unfolding map_done
    advances_on c f =
        let g : done s ≡ bookmark_of n t b = rw (← bookmark_on s e, mark_is b s, ← f) in
        record { says = g; mark = marked_further b s c f ∙ after_done b (bookmark_of n t b) s g }

  -- what it answers is the move's own step
  pub bookmark_moved : (s : Step) → bookmark_of n t b ≡ done s → move_of n t b.interval b.place ≡ done s
  unfolding move_of mark_of and_then
  bookmark_moved s e = go (move_of n t b.interval b.place) refl (sym bookmark_is ∙ e)
    where
      go : (o : Outcome Step) → move_of n t b.interval b.place ≡ o
          → and_then o (λ _. mark_of b (step_of t.links b.interval b.place)) ≡ done s
          → move_of n t b.interval b.place ≡ done s
      go (done a) f g =
          let z = judge_done (move_tests n t b.interval b.place) (step_of t.links b.interval b.place) a f in
          f ∙ ap done (sym z ∙ judge_done _ (step_of t.links b.interval b.place) s g)
      go (refused k p) f g = absurd (done_refused s k p (sym g))

  -- so it counts by the indexes, and the bookmark adds the count to its own
  pub marked_reads : (m : Result Step Refusal) (left : Bookmark) → Advances n t b m left → (s : Step) → says m ≡ done s
      → ReadsTo t.links b.interval s.interval s.count × (left.count ≡ b.count + s.count)
  marked_reads m left a s e =
      let f : bookmark_of n t b ≡ done s = sym a.says ∙ e in (
        move_reads n t b.interval b.place s (bookmark_moved s f),
        ap (λ (w : Bookmark). w.count) (a.mark ∙ sym (after_done b (bookmark_of n t b) s (sym f))),
      )

  -- where the move is made, the counters decide
  pub bookmark_overflow : (s : Step) → move_of n t b.interval b.place ≡ done s → 4294967295 ≤ b.moves
      → bookmark_of n t b ≡ refused 13 0
  unfolding mark_of judge overflows
  bookmark_overflow s e h = sym (bookmark_on s (sym e)) ∙ simp (le-leb (2 ^ 32) (b.moves + 1) (omega arith))

  pub bookmark_goes : (s : Step) → move_of n t b.interval b.place ≡ done s → b.moves + 1 < 2 ^ 32
      → b.count + s.count < 2 ^ 64 → bookmark_of n t b ≡ done s
  bookmark_goes s e l m = sym (bookmark_on s (sym e)) ∙ sym (mark_on b s (no_overflow b s l m))

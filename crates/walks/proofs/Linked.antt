-- Where the lengths are right, a walk through four columns is that through the first three.
use Prim.Native.Nat.{ℕ, zero, suc, ◌<◌}
use mathlib.Core.Path.{◌≡◌, refl, sym, ap, fun_ext, ◌∙◌}
use mathlib.Core.Bool.{Bool, true, false}
use mathlib.Core.List.{List, [], ◌∷◌}
use lib.ListN.{length}
use lib.Dec.{leb}
use borrow.Author.Tests.{eq-eqb, leb-false}
use Rattle.outcomes.specs.Outcome.{Outcome, done, refused, Test, test, judge, map_done, and_then}
use Rattle.outcomes.proofs.Judging.{done_refused}
use Rattle.outcomes.proofs.Searches.{any_false}
use Rattle.runs.specs.Runs.{end_of}
use Rattle.tables.specs.Tables.{Tables, size_of, end_at, wrong_at, misshapen_by, misshapen, outside, shape_test, index_test, length_test, place_test}
use Rattle.tables.specs.Parts.{Measured}
use Rattle.tables.proofs.Passing.{matching_is}
use Rattle.walks.specs.Move.{find_of, move_of, moves_of, onwards, counted_after}
use Rattle.walks.specs.Linked.{linked_shape, linked_outside, linked_find, linked_move, linked_moves}
use Rattle.walks.specs.declared.Step.{Step}
use Rattle.walks.proofs.Steps.{located}
use Rattle.walks.proofs.Moves.{move_made_lem}

module _ (n : ℕ) (t : Tables) (full : length t.lengths ≡ size_of t.links) where
  -- 9 of the fourth column never applies alone
  shape_linked : misshapen n t ≡ misshapen_by n (size_of t.links) (t.links.list.images ∷ t.links.holders ∷ [])
  unfolding misshapen
  shape_linked = simp (eq-eqb (size_of t.links) _ (sym full))

  pub find_linked : (i : ℕ) → Measured n t → find_of n t i ≡ linked_find n t.links i
  unfolding find_of linked_find judge
  find_linked i right = simp (shape_linked, right)

  module _ (x i : ℕ) (right : x < size_of t.links → wrong_at n t x ≡ false) where
    place_linked : wrong_at n t x ≡ false → outside n t x i ≡ linked_outside n t.links x i
    unfolding outside linked_outside
    place_linked w = let e : end_at t x ≡ end_of n t.links.list x = (matching_is _ _ _ w).1 in rw e

    -- the tests of a place, and any others after them
    tests_linked : (ts : List Test) (s : Step)
        → judge (shape_test n t ∷ index_test t.links x ∷ length_test n t x ∷ place_test n t x i ∷ ts) s
        ≡ judge (linked_shape n t.links ∷ index_test t.links x ∷ test 11 (linked_outside n t.links x i) i ∷ ts) s
    unfolding judge
    tests_linked ts s = go (leb (size_of t.links) x) refl
      where
        go : (b : Bool) → leb (size_of t.links) x ≡ b
            → judge (shape_test n t ∷ index_test t.links x ∷ length_test n t x ∷ place_test n t x i ∷ ts) s
            ≡ judge (linked_shape n t.links ∷ index_test t.links x ∷ test 11 (linked_outside n t.links x i) i ∷ ts) s
        go true e = simp (shape_linked, e)
        go false e = let w = right (leb-false _ _ e) in simp (shape_linked, e, w, place_linked w)

    pub move_linked : move_of n t x i ≡ linked_move n t.links x i
    unfolding move_of linked_move
    move_linked = tests_linked _ _

    stay_linked : moves_of n t 0 x i ≡ linked_moves n t.links 0 x i
    unfolding moves_of linked_moves
    stay_linked = tests_linked _ _

  pub moves_linked : (m x i : ℕ) → Measured n t → moves_of n t m x i ≡ linked_moves n t.links m x i
  unfolding moves_of onwards linked_moves
  moves_linked zero x i right = stay_linked x i (any_false (wrong_at n t) (size_of t.links) x right)
  moves_linked (suc m) x i right =
      let on : ◌≡◌ {A = Step → Outcome Step} (onwards n t)
      (λ s. map_done (counted_after s.count) (linked_move n t.links s.interval s.place)) =
      fun_ext (λ s. ap (map_done (counted_after s.count))
      (move_linked s.interval s.place (any_false (wrong_at n t) (size_of t.links) s.interval right))) in
      λ j. and_then (moves_linked m x i right j) (on j)

  -- moves that are made have tested the lengths of the intervals that they left, so that no other needs to be right
  pub made_linked : (m x i : ℕ) (s : Step) → moves_of n t m x i ≡ done s → linked_moves n t.links m x i ≡ done s
  unfolding moves_of onwards linked_moves and_then map_done
  made_linked zero x i s e = sym (stay_linked x i (λ _. (located n t x i s (sym e)).right)) ∙ e
  made_linked (suc m) x i s e = go (moves_of n t m x i) refl e (made_linked m x i)
    where
      last : (a : Step) (o : Outcome Step) → move_of n t a.interval a.place ≡ o → map_done (counted_after a.count) o ≡ done s
          → map_done (counted_after a.count) (linked_move n t.links a.interval a.place) ≡ done s
      last a (done b) f g =
          let r = (move_made_lem n t a.interval a.place b (sym f)).0.right in
          rw (← move_linked a.interval a.place (λ _. r), f) g
      last a (refused p q) f g = absurd (done_refused s p q (sym g))

      go : (o : Outcome Step) → moves_of n t m x i ≡ o → and_then o (onwards n t) ≡ done s
          → ((a : Step) → moves_of n t m x i ≡ done a → linked_moves n t.links m x i ≡ done a)
          → linked_moves n t.links (suc m) x i ≡ done s
      go (done a) f g r = rw (r a f) (last a (move_of n t a.interval a.place) refl g)
      go (refused p q) f g r = absurd (done_refused s p q (sym g))

-- What find and a move come to, by the facts that their tests show; and that after a move the place lies in the
-- interval reached.
use Prim.Native.Nat.{ℕ, ◌^◌, ◌≤◌, ◌<◌}
use mathlib.Core.Path.{◌≡◌, refl, sym, ◌∙◌}
use mathlib.Core.Bool.{Bool, true, false}
use mathlib.Core.List.{List, [], ◌∷◌}
use native.Mathlib.Omega.{arith}
use lib.ListN.{get_or}
use lib.Dec.{leb, ltb}
use borrow.Author.Tests.{lt-ltb, le-ltb, le-leb, lt-leb, leb-false, ltb-false}
use Rattle.outcomes.specs.Outcome.{done, refused, judge, map_done, and_then}
use Rattle.outcomes.specs.Search.{first_below}
use Rattle.runs.specs.Runs.{start_of, carry}
use Rattle.tables.specs.Tables.{Links, Tables, size_of, holder_of, end_at, wrong_at, misshapen, outside, broken, shape_test, index_test, length_test, place_test, broken_test}
use Rattle.order.proofs.Laws.{or_false}
use Rattle.walks.specs.Move.{walked_to, stand_at, step_to, stay_at, found_at, unfindable, find_of, step_of, move_of, moves_of, locate_tests}
use Rattle.tables.specs.Parts.{Shaped, Measured, Located, Stands}
use Rattle.walks.specs.Parts.{locate_of, advance_of, leave_of, Starting, Movable}
use Rattle.walks.specs.declared.reaching.Walked.{Walked}
use Rattle.walks.specs.declared.Step.{Step}
use Rattle.outcomes.proofs.Judging.{judge_append, judge_map, judge_first}
use Rattle.tables.proofs.Passing.{shaped, matching_is, inside, inside_is, whole_is, held_is}
use Rattle.walks.proofs.Reached.{reached_index, reached_low}

-- 11 for find
module _ (n : ℕ) (l : List ℕ) (i : ℕ) where
  pub far : n ≤ i → unfindable n l i ≡ true
  unfolding unfindable
  far h = simp (le-leb _ _ h)

  pub near : i < n → unfindable n l i ≡ ltb i (get_or l 0 0)
  unfolding unfindable
  near h = simp (lt-leb _ _ h)

  pub findable : i < n → get_or l 0 0 ≤ i → unfindable n l i ≡ false
  findable h b = rw (near h) (le-ltb _ _ b)

  pub findable_is : unfindable n l i ≡ false → (i < n) × (get_or l 0 0 ≤ i)
  unfolding unfindable
  findable_is e = let a = or_false (leb n i) _ e in (leb-false n i a.0, ltb-false i _ a.1)

-- the facts that the tests before 12 of a move show
pub starting : (n : ℕ) (t : Tables) (x i : ℕ) → Shaped n t → x < size_of t.links → wrong_at n t x ≡ false
    → (i < n) × (start_of t.links.list x ≤ i) × (i < end_at t x) → Starting n t x i
starting n t x i s h w p =
    record {
      stands = record {
        shape = s;
        at = record {
          entered = record { index = h; full = s.linked.full };
          few = s.linked.few;
          place = p.0;
          low = p.1;
          high = omega (arith, p.2, matching_is _ _ _ w);
        };
      };
      right = w;
    }

-- find
module _ (n : ℕ) (t : Tables) (i : ℕ) where
  pub find_shape : (b : Bool) → b ≡ misshapen n t → b ≡ true → refused 9 0 ≡ find_of n t i
  unfolding find_of judge
  find_shape b q e = simp (sym q ∙ e)

  module _ (s : Shaped n t) where
    pub find_length : (x : ℕ) → x ≡ first_below (wrong_at n t) (size_of t.links) → x < size_of t.links → refused 12 x ≡ find_of n t i
    unfolding find_of judge
    find_length x e h = simp (s.fits, lt-ltb _ _ (rw e at h), e)

    module _ (right : Measured n t) where
      pub find_out : unfindable n t.links.list.starts i ≡ true → refused 11 i ≡ find_of n t i
      unfolding find_of judge
      find_out b = simp (s.fits, right, b)

      pub find_at : unfindable n t.links.list.starts i ≡ false → (x : ℕ) → x ≡ found_at t.links i → done x ≡ find_of n t i
      unfolding find_of judge
      find_at b x e = simp (s.fits, right, b, e)

module _ (n : ℕ) (t : Tables) (x i : ℕ) where
  -- where the place lies in x by the starts, and the length is right, it does not lie outside
  inside_by : Starting n t x i → outside n t x i ≡ false
  inside_by l =
      let at = l.stands.at in
      inside n t x i at.place at.low (omega (arith, at.high, matching_is _ _ _ l.right))

  pub locate_in : Starting n t x i → done (stay_at t.links.list.starts x i) ≡ moves_of n t 0 x i
  unfolding moves_of judge
  locate_in l = simp (l.stands.shape.fits, lt-leb _ _ l.stands.at.entered.index, l.right, inside_by l)

  pub located : (s : Step) → done s ≡ moves_of n t 0 x i → Starting n t x i
  unfolding moves_of
  located s e =
      let f = judge_first (shape_test n t) _ _ s e in
      let g = judge_first (index_test t.links x) _ _ s f.1 in
      let w = judge_first (length_test n t x) _ _ s g.1 in
      let h = judge_first (place_test n t x i) _ _ s w.1 in
      starting n t x i (shaped n t _ refl f.0) (leb-false _ _ g.0) w.0 (inside_is n t x i h.0)

  -- the tests alone tell as much
  moves_tests : moves_of n t 0 x i ≡ map_done (λ _. stay_at t.links.list.starts x i) (locate_of n t x i)
  unfolding moves_of
  moves_tests = judge_map (locate_tests n t x i) tt (stay_at t.links.list.starts x i)

  pub tests_refused : (k p : ℕ) → refused k p ≡ locate_of n t x i → refused k p ≡ moves_of n t 0 x i
  unfolding map_done
  tests_refused k p e = rw (moves_tests, ← e)

  pub tests_passed : done tt ≡ locate_of n t x i → Starting n t x i
  unfolding map_done
  tests_passed e = located (stay_at t.links.list.starts x i) (rw (moves_tests, ← e))

  -- a move is these, and what is left
  pub move_is : move_of n t x i ≡ and_then (moves_of n t 0 x i) (λ _. advance_of n t.links x i)
  unfolding move_of moves_of advance_of
  move_is = judge_append (locate_tests n t x i) (broken_test n t.links x i ∷ []) _ (step_of t.links x i)

  pub move_refused : (k p : ℕ) → refused k p ≡ moves_of n t 0 x i → refused k p ≡ move_of n t x i
  unfolding and_then
  move_refused k p e = rw (move_is, ← e)

  pub move_located : Starting n t x i → move_of n t x i ≡ advance_of n t.links x i
  unfolding and_then
  move_located l = rw (move_is, ← locate_in l)

  -- from where another move has led, the length of x is still to be tested
  pub leave_wrong : wrong_at n t x ≡ true → refused 12 x ≡ leave_of n t x i
  unfolding leave_of judge
  leave_wrong w = simp w

  pub leave_on : wrong_at n t x ≡ false → advance_of n t.links x i ≡ leave_of n t x i
  unfolding leave_of advance_of judge
  leave_on w = simp w

  pub move_leaves : Stands n t x i → move_of n t x i ≡ leave_of n t x i
  unfolding move_of judge
  move_leaves l = go (wrong_at n t x) refl
    where
      go : (b : Bool) → wrong_at n t x ≡ b → move_of n t x i ≡ leave_of n t x i
      go true w = simp (l.shape.fits, lt-leb _ _ l.at.entered.index, w) (leave_wrong w)
      go false w = move_located (record { stands = l; right = w }) ∙ leave_on w

  pub leave_made : (s : Step) → done s ≡ leave_of n t x i → done s ≡ advance_of n t.links x i
  unfolding leave_of advance_of
  leave_made s e = (judge_first (length_test n t x) _ _ s e).1

module _ (n : ℕ) (k : Links) (x i : ℕ) where
  -- what is left: 12 and the step
  pub advance_broken : broken n k x i ≡ true → refused 12 x ≡ advance_of n k x i
  unfolding advance_of judge
  advance_broken b = simp b

  pub advance_on : broken n k x i ≡ false → done (step_of k x i) ≡ advance_of n k x i
  unfolding advance_of judge
  advance_on b = simp b

  -- a move that no test refuses can be made
  pub movable : n < 2 ^ 32 → Located n k x i → broken n k x i ≡ false → Movable k x i
  movable m l b =
      let w = whole_is n k x i b in
      record { entered = l.entered; few = l.few; low = l.low; held = w.0; fits = omega (arith, w.1) }

-- such a move reaches an interval that does not start above the place reached
module _ (k : Links) (x i : ℕ) (w : Walked) (m : Movable k x i)
    (e : w ≡ walked_to k.list.starts (holder_of k x) (carry k.list x i)) where
  pub step_index : w.interval < size_of k
  step_index = rw e (reached_index k.list.starts (holder_of k x) (carry k.list x i) (held_is k x m.held).0)

  pub step_low : start_of k.list w.interval ≤ carry k.list x i
  step_low =
      let h = held_is k x m.held in
      rw e (reached_low k.list.starts (holder_of k x) (carry k.list x i) h.0 (omega (arith, h.1)))

-- the step by its numbers: the place reached, and the walk to there from the holder
pub step_by : (k : Links) (x i j : ℕ) (w : Walked) → j ≡ carry k.list x i → w ≡ walked_to k.list.starts (holder_of k x) j
    → stand_at k.list.starts w.interval j w.count ≡ step_of k x i
unfolding step_of step_to
step_by k x i j w q e = rw (e, q)

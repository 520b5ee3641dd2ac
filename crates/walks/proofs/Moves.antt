-- After a move the place lies in the interval reached, and the count goes by the indexes; so a repeated move is a loop over the
-- step, which can only meet 12 on the way.
use Prim.Native.Nat.{ℕ, zero, suc, ◌+◌, ◌*◌, ◌≤◌, ◌<◌}
use mathlib.Core.Path.{◌≡◌, refl, sym, ap, ◌∙◌}
use mathlib.Core.Bool.{Bool, true, false}
use mathlib.Core.Logic.{◌↔◌, ◌⊎◌, inl, inr}
use mathlib.Core.List.{[]}
use native.Mathlib.Numerals.{add-one}
use native.Mathlib.Omega.{arith}
use lib.Dec.{ltb}
use Rattle.order.proofs.Laws.{lt_or_le, bit_le}
use Rattle.outcomes.specs.Outcome.{Outcome, done, refused, judge, map_done, and_then, ◌then◌else◌}
use Rattle.runs.specs.Runs.{distance_in, carry}
use Rattle.tables.specs.Tables.{Links, Tables, size_of, holder_of, max_intervals, wrong_at, unheld, broken, broken_test}
use Rattle.walks.specs.Move.{passed, stand_at, step_to, stay_at, step_of, move_of, moves_of, counted_after, onwards, Stopped, ReadsTo}
use Rattle.tables.specs.Parts.{Located, Stands}
use Rattle.walks.specs.Parts.{advance_of, leave_of, Starting}
use Rattle.walks.specs.declared.Step.{Step}
use Rattle.outcomes.proofs.Judging.{done_refused, judge_first}
use Rattle.tables.proofs.Passing.{whole_is, held_is}
use Rattle.walks.proofs.Reached.{reached_index, reached_low, reached_high}
use Rattle.walks.proofs.StartsRead.{count_is, count_to}
use Rattle.walks.proofs.Steps.{locate_in, located, move_is, move_leaves, leave_made}

-- a step from an interval that has its holder counts no more starts than a table may have
pub held_count : (k : Links) (x i : ℕ) → unheld k x ≡ false → size_of k ≤ max_intervals → (step_of k x i).count ≤ max_intervals
unfolding step_of step_to
held_count k x i u f =
    let h = held_is k x u in
    let l = k.list.starts in
    let j = carry k.list x i in
    omega (
      arith,
      count_is l (holder_of k x) j h.0,
      reached_index l (holder_of k x) j h.0,
      bit_le (ltb (suc (holder_of k x + passed l (holder_of k x) j)) (size_of k)),
    )

-- a step that was made
module _ (n : ℕ) (k : Links) (x i : ℕ) (s : Step) (e : done s ≡ advance_of n k x i) where
  step_is : (unheld k x ≡ false) × (carry k.list x i < n) × (s ≡ step_of k x i)
  unfolding advance_of judge
  step_is =
      let f = judge_first (broken_test n k x i) [] (step_of k x i) s e in
      let w = whole_is n k x i f.0 in
      (w.0, w.1, cc)

  -- it ends in the interval reached
  pub step_located : Located n k x i → Located n k s.interval s.place
  unfolding step_of step_to
  step_located l =
      let w = step_is in
      let h = held_is k x w.0 in
      let j = carry k.list x i in
      rw w.2 (record {
        entered = record { index = reached_index k.list.starts (holder_of k x) j h.0; full = l.entered.full };
        few = l.few;
        place = w.1;
        low = reached_low k.list.starts (holder_of k x) j h.0 (omega arith);
        high = reached_high k.list.starts (holder_of k x) j h.0 n w.1;
      })

  -- it carries the distance of the place reached
  pub step_apart : s.distance ≡ distance_in k.list.starts s.interval s.place
  unfolding step_of step_to
  step_apart = rw step_is.2

  -- it counts by the indexes, and the one reached is not below the holder
  step_reads : ReadsTo k x s.interval s.count
  unfolding step_of step_to
  step_reads =
      let w = step_is in
      let h = held_is k x w.0 in
      rw w.2 (record {
        onward = omega arith;
        exact = count_to k.list.starts (holder_of k x) (carry k.list x i) h.0 _ refl;
      })

  step_count : size_of k ≤ max_intervals → s.count ≤ max_intervals
  step_count f = let w = step_is in rw w.2 (held_count k x i w.0 f)

-- a move that was made began at a place of its interval
pub move_made_lem : (n : ℕ) (t : Tables) (x i : ℕ) (s : Step) → done s ≡ move_of n t x i
    → Starting n t x i × (done s ≡ advance_of n t.links x i)
unfolding and_then
move_made_lem n t x i s e = go (moves_of n t 0 x i) refl (e ∙ move_is n t x i)
  where
    go : (o : Outcome Step) → o ≡ moves_of n t 0 x i → done s ≡ and_then o (λ _. advance_of n t.links x i)
        → Starting n t x i × (done s ≡ advance_of n t.links x i)
    go (done a) f g = (located n t x i a f, g)
    go (refused k p) f g = absurd (done_refused s k p g)

-- so it counts by the indexes
pub move_reads : (n : ℕ) (t : Tables) (x i : ℕ) (s : Step) → move_of n t x i ≡ done s
    → ReadsTo t.links x s.interval s.count
move_reads n t x i s e = step_reads n t.links x i s (move_made_lem n t x i s (sym e)).1

-- and no more starts than a table may have
pub move_count : (n : ℕ) (t : Tables) (x i : ℕ) (s : Step) → done s ≡ move_of n t x i → s.count ≤ max_intervals
move_count n t x i s e =
    let m = move_made_lem n t x i s e in
    step_count n t.links x i s m.1 m.0.stands.at.few

-- one move more
moves_more : (n : ℕ) (t : Tables) (k x i : ℕ) (a : Outcome Step)
    → a ≡ moves_of n t k x i → moves_of n t (k + 1) x i ≡ and_then a (onwards n t)
unfolding moves_of
moves_more n t k x i a e = rw (add-one, e)

-- a refusal stays
pub moves_refused : (n : ℕ) (t : Tables) (k m x i p q : ℕ) → k ≤ m
    → refused p q ≡ moves_of n t k x i → refused p q ≡ moves_of n t m x i
unfolding moves_of and_then
moves_refused n t k zero x i p q l e = let z : k ≡ 0 = omega arith in rw z at e
moves_refused n t k (suc m) x i p q l e = go (lt_or_le m k) (moves_refused n t k m x i p q)
  where
    go : (m < k) ⊎ (k ≤ m) → (k ≤ m → refused p q ≡ moves_of n t k x i → refused p q ≡ moves_of n t m x i)
        → refused p q ≡ moves_of n t (suc m) x i
    go (inl h) r = let z : k ≡ suc m = omega arith in rw z at e
    go (inr h) r = rw (← r h e)

-- a move from where another one has led: the place lies in the interval reached by the starts
module _ (n : ℕ) (t : Tables) (x i : ℕ) (s : Step) (e : done s ≡ leave_of n t x i) where
  left_stands : Stands n t x i → Stands n t s.interval s.place
  left_stands l = record { shape = l.shape; at = step_located n t.links x i s (leave_made n t x i s e) l.at }

  left_apart : s.distance ≡ distance_in t.links.list.starts s.interval s.place
  left_apart = step_apart n t.links x i s (leave_made n t x i s e)

  left_count : Stands n t x i → s.count ≤ max_intervals
  left_count l = step_count n t.links x i s (leave_made n t x i s e) l.at.few

-- the state of a repeated move after some of its m moves
pub record Walking (n : ℕ) (t : Tables) (x i m : ℕ) (a : Step) (made : ℕ) : Type 0 where
  pub within : made ≤ m
  pub here : Stands n t a.interval a.place
  pub said : done a ≡ moves_of n t made x i
  pub small : a.count ≤ made * max_intervals

pub walking_start : (n : ℕ) (t : Tables) (x i m : ℕ) → Starting n t x i
    → Walking n t x i m (stay_at t.links.list.starts x i) 0
walking_start n t x i m l =
    record { within = omega arith; here = l.stands; said = locate_in n t x i l; small = omega arith }

module _ (n : ℕ) (t : Tables) (x i m : ℕ) (a : Step) (made : ℕ) (w : Walking n t x i m a made) where
  next_move : (o : Outcome Step) → o ≡ leave_of n t a.interval a.place
      → map_done (counted_after a.count) o ≡ moves_of n t (made + 1) x i
  unfolding onwards and_then
  next_move o e =
      ap (map_done (counted_after a.count)) (e ∙ sym (move_leaves n t a.interval a.place w.here))
      ∙ sym (moves_more n t made x i _ w.said)

  module _ (s : Step) (e : done s ≡ leave_of n t a.interval a.place) (l : made < m) where
    walking_sum : a.count + s.count ≤ (made + 1) * max_intervals
    walking_sum = omega (arith, w.small, left_count n t a.interval a.place s e w.here)

    pub walking_fits : made < 4294967296 → a.count + s.count < 18446744073709551616
    walking_fits h = omega (arith, walking_sum)

    pub walking_more : Walking n t x i m (stand_at t.links.list.starts s.interval s.place (a.count + s.count)) (made + 1)
    unfolding map_done
    walking_more =
        rw (← left_apart n t a.interval a.place s e) (record {
          within = omega arith;
          here = left_stands n t a.interval a.place s e w.here;
          said = next_move (done s) e;
          small = walking_sum;
        })

  pub walking_refused : (p q : ℕ) → refused p q ≡ leave_of n t a.interval a.place → made < m
      → refused p q ≡ moves_of n t m x i
  unfolding map_done
  walking_refused p q e l = moves_refused n t (made + 1) m x i p q (omega arith) (next_move (refused p q) e)

  pub walking_end : m ≤ made → done a ≡ moves_of n t m x i
  walking_end l = let z : made ≡ m = omega (arith, w.within) in rw z at w.said

-- a move from where another one has led is refused by 12 alone
leave_refused : (n : ℕ) (t : Tables) (x i p q : ℕ) → leave_of n t x i ≡ refused p q → (p ≡ 12) × (q ≡ x)
unfolding leave_of judge
leave_refused n t x i p q e = go (wrong_at n t x) (broken n t.links x i) e
  where
    go : (a b : Bool) → (a then refused 12 x else b then refused 12 x else done (step_of t.links x i)) ≡ refused p q
        → (p ≡ 12) × (q ≡ x)
    go true b f = (cc, cc)
    go false true f = (cc, cc)
    go false false f = absurd (done_refused _ p q f)

module _ (n : ℕ) (t : Tables) (x i : ℕ) (l : Starting n t x i) where
  -- on the way the place lies in its interval
  pub moves_located : (m : ℕ) (s : Step) → moves_of n t m x i ≡ done s → Stands n t s.interval s.place
  unfolding moves_of and_then onwards map_done
  moves_located zero s e =
      let z : stay_at t.links.list.starts x i ≡ s = cc (locate_in n t x i l) in
      rw (← z) l.stands
  moves_located (suc m) s e = go (moves_of n t m x i) refl e (moves_located m)
    where
      next : (a : Step) → Stands n t a.interval a.place
          → (o : Outcome Step) → o ≡ leave_of n t a.interval a.place
          → map_done (counted_after a.count) o ≡ done s → Stands n t s.interval s.place
      next a k (done b) f g =
          let z : counted_after a.count b ≡ s = cc in
          rw (← z) (left_stands n t a.interval a.place b f k)
      next a k (refused p q) f g = absurd (done_refused s p q (sym g))

      go : (o : Outcome Step) → moves_of n t m x i ≡ o → and_then o (onwards n t) ≡ done s
          → ((a : Step) → moves_of n t m x i ≡ done a → Stands n t a.interval a.place)
          → Stands n t s.interval s.place
      go (done a) f g r =
          next a (r a f) (move_of n t a.interval a.place) (move_leaves n t a.interval a.place (r a f)) g
      go (refused p q) f g r = absurd (done_refused s p q (sym g))

  -- a repeated move is refused by 12 alone
  pub moves_stopped : (m p q : ℕ) → moves_of n t m x i ≡ refused p q → Stopped n t m x i p q
  unfolding moves_of and_then onwards map_done
  moves_stopped zero p q e = absurd (done_refused _ p q (locate_in n t x i l ∙ e))
  moves_stopped (suc m) p q e = go (moves_of n t m x i) refl e (moves_stopped m)
    where
      at : (a : Step) → moves_of n t m x i ≡ done a → (o : Outcome Step) → move_of n t a.interval a.place ≡ o
          → map_done (counted_after a.count) o ≡ refused p q → Stopped n t (suc m) x i p q
      at a f (done s) g h = absurd (done_refused _ p q h)
      at a f (refused v w) g h =
          let k = moves_located m a f in
          let c = leave_refused n t a.interval a.place v w (sym (move_leaves n t a.interval a.place k) ∙ g) in
          let z : refused v w ≡ refused p q = h in
          record {
            made = m;
            fewer = omega arith;
            step = a;
            so_far = f;
            stuck = g ∙ (λ j. refused (c.0 j) (c.1 j));
            twelve = cc;
            there = cc;
          }

      go : (o : Outcome Step) → moves_of n t m x i ≡ o → and_then o (onwards n t) ≡ refused p q
          → ((p q : ℕ) → moves_of n t m x i ≡ refused p q → Stopped n t m x i p q) → Stopped n t (suc m) x i p q
      go (done a) f g r = at a f (move_of n t a.interval a.place) refl g
      go (refused v w) f g r =
          let s = r p q (f ∙ g) in
          record {
            made = s.made;
            fewer = omega arith;
            step = s.step;
            so_far = s.so_far;
            stuck = s.stuck;
            twelve = s.twelve;
            there = s.there;
          }

-- so a refused repeated move is refused by its first tests, or stopped on the way
moves_cause : (n : ℕ) (t : Tables) (m x i p q : ℕ) → moves_of n t m x i ≡ refused p q
    → (moves_of n t 0 x i ≡ refused p q) ⊎ Stopped n t m x i p q
moves_cause n t m x i p q e = go (moves_of n t 0 x i) refl
  where
    go : (o : Outcome Step) → moves_of n t 0 x i ≡ o → (moves_of n t 0 x i ≡ refused p q) ⊎ Stopped n t m x i p q
    go (done s) f = inr (moves_stopped n t x i (located n t x i s (sym f)) m p q e)
    go (refused v w) f = inl (f ∙ moves_refused n t 0 m x i v w (omega arith) (sym f) ∙ e)

-- and it is refused wherever one of these is so
stopped_refused : (n : ℕ) (t : Tables) (m x i p q : ℕ) → Stopped n t m x i p q → moves_of n t m x i ≡ refused p q
unfolding moves_of and_then onwards map_done
stopped_refused n t m x i p q s =
    let e : refused p q ≡ moves_of n t (suc s.made) x i = rw (s.so_far, s.stuck, s.twelve, s.there) in
    sym (moves_refused n t (suc s.made) m x i p q s.fewer e)

pub moves_order : (n : ℕ) (t : Tables) (m x i p q : ℕ)
    → (moves_of n t m x i ≡ refused p q) ↔ ((moves_of n t 0 x i ≡ refused p q) ⊎ Stopped n t m x i p q)
moves_order n t m x i p q = (moves_cause n t m x i p q, back)
  where
    back : (moves_of n t 0 x i ≡ refused p q) ⊎ Stopped n t m x i p q → moves_of n t m x i ≡ refused p q
    back (inl e) = sym (moves_refused n t 0 m x i p q (omega arith) (sym e))
    back (inr s) = stopped_refused n t m x i p q s

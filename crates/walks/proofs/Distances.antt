-- The distance that a step carries, on any tables: the place reached lies so far from the start of the interval reached, and
-- before its end. A repeated move's is that of its last move.
use Prim.Native.Nat.{ℕ, zero, suc}
use mathlib.Core.Path.{◌≡◌, refl, sym}
use native.Mathlib.Omega.{arith}
use Rattle.outcomes.specs.Outcome.{Outcome, done, refused, map_done, and_then}
use Rattle.outcomes.proofs.Judging.{done_refused, judge_done}
use Rattle.runs.specs.Runs.{distance_in}
use Rattle.tables.specs.Tables.{Links, Tables}
use Rattle.tables.specs.Parts.{Located}
use Rattle.walks.specs.Move.{stay_at, locate_tests, move_of, moves_of, counted_after, onwards, LiesIn}
use Rattle.walks.specs.declared.Step.{Step}
use Rattle.walks.proofs.Steps.{located}
use Rattle.walks.proofs.Moves.{step_apart, step_located, move_made_lem}

located_lies : (n : ℕ) (k : Links) (x i : ℕ) → Located n k x i → LiesIn n k x i (distance_in k.list.starts x i)
located_lies n k x i l = record { index = l.entered.index; exact = omega (arith, l.low); short = omega (arith, l.low, l.high) }

module _ (n : ℕ) (t : Tables) (x i : ℕ) where
  pub move_lies : (s : Step) → move_of n t x i ≡ done s → LiesIn n t.links s.interval s.place s.distance
  move_lies s e =
      let m = move_made_lem n t x i s (sym e) in
      rw (step_apart n t.links x i s m.1)
      (located_lies n t.links s.interval s.place (step_located n t.links x i s m.1 m.0.stands.at))

pub moves_lie : (n : ℕ) (t : Tables) (m x i : ℕ) (s : Step) → moves_of n t m x i ≡ done s
    → LiesIn n t.links s.interval s.place s.distance
unfolding moves_of and_then onwards map_done
moves_lie n t zero x i s e =
    let z = judge_done (locate_tests n t x i) (stay_at t.links.list.starts x i) s e in
    rw (← z) (located_lies n t.links x i (located n t x i s (sym e)).stands.at)
moves_lie n t (suc m) x i s e = go (moves_of n t m x i) e
  where
    last : (a : Step) (o : Outcome Step) → move_of n t a.interval a.place ≡ o → map_done (counted_after a.count) o ≡ done s
        → LiesIn n t.links s.interval s.place s.distance
    last a (done b) f g =
        let z : counted_after a.count b ≡ s = cc in
        rw (← z) (move_lies n t a.interval a.place b f)
    last a (refused p q) f g = absurd (done_refused s p q (sym g))

    go : (o : Outcome Step) → and_then o (onwards n t) ≡ done s → LiesIn n t.links s.interval s.place s.distance
    go (done a) g = last a (move_of n t a.interval a.place) refl g
    go (refused p q) g = absurd (done_refused s p q (sym g))

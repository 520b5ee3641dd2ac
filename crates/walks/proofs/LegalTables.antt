-- Through the tables of a legal list, balanced or not, the walks give the list's function and its powers; no call on a
-- place below n is refused. A holder is the index of the run that has the image, so a walk from it passes the starts up to
-- the place reached (Walks).
use Prim.Native.Nat.{ℕ, zero, suc, ◌≤◌, ◌<◌}
use mathlib.Core.Path.{◌≡◌, sym, ap, ◌∙◌}
use mathlib.Core.Bool.{false}
use native.Mathlib.Omega.{arith}
use Rattle.outcomes.specs.Outcome.{done, refused, map_done, and_then}
use Rattle.runs.specs.Runs.{Runs, count_of, end_of, distance_in, run_at, map_of}
use Rattle.runs.specs.Legal.{Legal}
use Rattle.runs.proofs.Legality.{homes, run_at_lem, own}
use Rattle.runs.proofs.Bijection.{map_below}
use Rattle.tables.specs.Tables.{links_of, tables_of, max_intervals, broken}
use Rattle.walks.specs.Move.{passed, found_at, step_to, step_of, find_of, move_of, moves_of, onwards}
use Rattle.walks.specs.Parts.{Starting}
use Rattle.walks.specs.Plain.{plain_move, plain_moves}
use Rattle.tables.proofs.Passing.{whole}
use Rattle.tables.proofs.LegalShape.{shape, legal_length, legal_lengths, legal_stands, holder_is, legal_held}
use Rattle.walks.proofs.LegalCounts.{legal_interval, legal_count}
use Rattle.walks.proofs.Steps.{far, findable, find_out, find_at, locate_in, move_located, advance_on}
use Rattle.walks.proofs.PlainMoves.{moves_interval, moves_below}
use Rattle.runs.proofs.Walks.{walk_passed, map_in}

module _ (n : ℕ) (r : Runs) (c : Legal n r) (few : count_of r ≤ max_intervals) where
  -- find gives the run that has the place
  pub legal_found : (p : ℕ) → p < n → found_at (links_of n r) p ≡ run_at n r p
  unfolding found_at passed
  legal_found p h =
      let l : 0 < end_of n r 0 = omega (arith, (homes n r c).lasting 0 c.some) in
      let z : run_at n r 0 ≡ 0 = run_at_lem n r (homes n r c) 0 0 c.some (omega (arith, c.first)) l in
      let w = rw z at (walk_passed n r (homes n r c) 0 p (omega arith) h) in
      omega arith

  pub legal_find : (p : ℕ) → p < n → find_of n (tables_of n r) p ≡ done (run_at n r p)
  legal_find p h =
      let f = findable n r.starts p h (omega (arith, c.first)) in
      sym (find_at n (tables_of n r) p (shape n r c few) (legal_lengths n r c) f (run_at n r p) (sym (legal_found p h)))

  pub legal_find_beyond : (i : ℕ) → n ≤ i → find_of n (tables_of n r) i ≡ refused 11 i
  legal_find_beyond i h = sym (find_out n (tables_of n r) i (shape n r c few) (legal_lengths n r c) (far n r.starts i h))

  -- a place lies in the interval of its run, whose length is right
  legal_starting : (p : ℕ) → p < n → Starting n (tables_of n r) (run_at n r p) p
  legal_starting p h =
      record { stands = legal_stands n r c few p h; right = legal_length n r c (run_at n r p) (own n r c p h).0 }

  -- a move gives the function's value, the run that has it, the distance there, and the count (LegalCounts)
  module _ (p : ℕ) (h : p < n) where
    pub legal_step : step_of (links_of n r) (run_at n r p) p ≡ plain_move n r r p
    unfolding step_of step_to plain_move
    legal_step =
        rw (holder_is n r c few (run_at n r p) (own n r c p h).0)
        (λ i. record {
          place = map_of n r p;
          interval = legal_interval n r c p h i;
          distance = distance_in r.starts (legal_interval n r c p h i) (map_of n r p);
          count = legal_count n r c p h i;
        })

    pub legal_whole : broken n (links_of n r) (run_at n r p) p ≡ false
    legal_whole =
        whole n (links_of n r) (run_at n r p) p (legal_held n r c few (run_at n r p) (own n r c p h).0) (map_in n r c p h).2

    pub legal_move : move_of n (tables_of n r) (run_at n r p) p ≡ done (plain_move n r r p)
    legal_move =
        move_located n (tables_of n r) (run_at n r p) p (legal_starting p h)
        ∙ sym (advance_on n (links_of n r) (run_at n r p) p legal_whole)
        ∙ ap done legal_step

  -- repeated moves give the m-fold function, the run that has its value, and the sum of the counts
  pub legal_moves : (m p : ℕ) → p < n → moves_of n (tables_of n r) m (run_at n r p) p ≡ done (plain_moves n r r m p)
  unfolding moves_of onwards and_then map_done plain_moves
  legal_moves zero p h = sym (locate_in n (tables_of n r) (run_at n r p) p (legal_starting p h))
  legal_moves (suc m) p h =
      let s = plain_moves n r r m p in
      rw (legal_moves m p h, moves_interval n r r m p, legal_move s.place (moves_below n r r (map_below n r c) m p h))

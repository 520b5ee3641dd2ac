-- The plain walk: what calls are to be answered, by the run list's function and the starts of the balanced list, with no
-- holders.
use Rattle.std.specs.Prelude.{ℕ, zero, suc, ◌+◌, true, false, List, [], ◌∷◌, ◌++◌, ltb, leb}
use Rattle.outcomes.specs.Outcome.{Outcome, done, refused, test, judge, ◌then◌else◌}
use Rattle.runs.specs.Runs.{Runs, run_at}
use Rattle.bookmarks.specs.Bookmark.{Marking, marking}
use Rattle.walks.specs.Plain.{plain_distance, plain_move, plain_moves}
use Rattle.bookmarks.specs.declared.Bookmark.{Bookmark}
use Rattle.demands.specs.Calls.{Call, find, move, moves, Reply, found, moved}

-- r is the accepted run list, t the balanced list. The walk stands at a place p, in the interval of t that has it. Moves and
-- repeated moves are plain_move and plain_moves (walks/specs/Plain).
module _ (n : ℕ) (r t : Runs) where
  -- A find at i answers the interval of t that has i; where i is not below n it is refused with 11 and i.
  unfoldable pub plain_find : ℕ → Outcome ℕ
  plain_find i = judge (test 11 (leb n i) i ∷ []) (run_at n t i)

  -- The replies to a list of calls. A find that is answered takes the walk to its place; moves take it on; a refused find
  -- leaves it where it stood.
  unfoldable pub plain_walk : ℕ → List Call → List Reply
  plain_walk p [] = []
  plain_walk p (find i ∷ cs) = found (plain_find i) ∷ plain_walk (ltb i n then i else p) cs
  plain_walk p (move ∷ cs) = moved (done (plain_move n r t p)) ∷ plain_walk (plain_move n r t p).place cs
  plain_walk p (moves m ∷ cs) = moved (done (plain_moves n r t m p)) ∷ plain_walk (plain_moves n r t m p).place cs

  -- the counts of m moves from p, one by one
  unfoldable pub moves_counts : ℕ → ℕ → List ℕ
  moves_counts zero p = []
  moves_counts (suc m) p = moves_counts m p ++ ((plain_move n r t (plain_moves n r t m p).place).count ∷ [])

  -- for each call of a list, the counts of its single moves
  unfoldable pub walk_counts : ℕ → List Call → List (List ℕ)
  walk_counts p [] = []
  walk_counts p (find i ∷ cs) = [] ∷ walk_counts (ltb i n then i else p) cs
  walk_counts p (move ∷ cs) = ((plain_move n r t p).count ∷ []) ∷ walk_counts (plain_move n r t p).place cs
  walk_counts p (moves m ∷ cs) = moves_counts m p ∷ walk_counts (plain_moves n r t m p).place cs

  -- where the walk stands, as a bookmark: with the distance there, the moves made and the sum of their counts
  abbrev pub standing : ℕ → ℕ → ℕ → Bookmark
  standing p m c = record { place = p; interval = run_at n t p; distance = plain_distance n t p; moves = m; count = c }

  -- k moves of a bookmark. Its counter of moves holds 4,294,967,295: from there on each is 13 with place 0, and it stays.
  unfoldable pub plain_trail : ℕ → ℕ → ℕ → ℕ → List Marking
  plain_trail zero p m c = []
  plain_trail (suc k) p m c =
      let s = plain_move n r t p in
      elim (leb 4294967295 m) [
        | true ↦ marking (refused 13 0) (standing p m c) ∷ plain_trail k p m c
        | false ↦ marking (done s) (standing s.place (m + 1) (c + s.count)) ∷ plain_trail k s.place (m + 1) (c + s.count)
      ]

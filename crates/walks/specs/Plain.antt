-- What moves come to by a list's function and the starts of a list, with no holders: what walks through the tables of a
-- legal list give (proofs/LegalTables), and what the plain walk answers.
use Rattle.std.specs.Prelude.{ℕ, zero, suc, ◌+◌, ◌*◌, Bool, ◌&&◌, length, ltb, leb}
use Rattle.order.specs.Lists.{bit}
use Rattle.outcomes.specs.Search.{keep, any_below}
use Rattle.runs.specs.Runs.{Runs, count_of, start_of, image_of, run_at, map_of}
use Rattle.walks.specs.Move.{stand_at, counted_after}
use Rattle.walks.specs.declared.Step.{Step}

-- whether t has a start above place q
abbrev pub start_above : Runs → ℕ → Bool
start_above t q = any_below (λ x. ltb q (start_of t x)) (count_of t)

-- what a move from p to q counts: the starts of t that lie above the image of t's interval that has p, and not above q; and one
-- more if t has a start above q
abbrev pub plain_count : ℕ → Runs → ℕ → ℕ → ℕ
plain_count n t p q =
    length (keep (λ s. ltb (image_of t (run_at n t p)) s && leb s q) t.starts) + bit (start_above t q)

-- the most that a move counts in tables balanced at degree d
abbrev pub max_count : ℕ → ℕ
max_count d = 2 * d

-- at place q, in the interval of t that has it, with a count
abbrev pub plain_step : ℕ → Runs → ℕ → ℕ → Step
plain_step n t q c = stand_at t.starts (run_at n t q) q c

-- how far place q lies from the start of the interval of t that has it, as that step says
abbrev pub plain_distance : ℕ → Runs → ℕ → ℕ
plain_distance n t q = (plain_step n t q 0).distance

-- r is the list whose function is followed, t the list whose intervals are told.
module _ (n : ℕ) (r t : Runs) where
  -- A move goes from p to the place that r sends it to.
  unfoldable pub plain_move : ℕ → Step
  plain_move p = plain_step n t (map_of n r p) (plain_count n t p (map_of n r p))

  -- m such moves answer where the last one leads, and the sum of the counts; none answer where the walk stands.
  unfoldable pub plain_moves : ℕ → ℕ → Step
  plain_moves zero p = plain_step n t p 0
  plain_moves (suc m) p = let s = plain_moves m p in counted_after s.count (plain_move s.place)

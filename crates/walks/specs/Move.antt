-- Find, move and repeated move (document 01, "Walking"), on any tables, with the distance of document 02, A.2, its count of the
-- starts read, A.4, and its tests of lengths, A.7.
use Rattle.std.specs.Prelude.{ℕ, zero, suc, ◌+◌, ◌-◌, ◌≤◌, ◌<◌, ◌≡◌, Bool, ◌||◌, Result, List, [], ◌∷◌, drop, get_or, ltb, leb}
use Rattle.outcomes.specs.Outcome.{Outcome, done, refused, Test, test, judge, map_done, and_then, ◌then◌else◌}
use Rattle.outcomes.specs.Refusal.{says}
use Rattle.order.specs.Lists.{leading, bit}
use Rattle.runs.specs.Runs.{start_of, length_of, distance_in, carry}
use Rattle.outcomes.specs.declared.Refusal.{Refusal}
use Rattle.tables.specs.Tables.{Links, Tables, size_of, holder_of, shape_test, index_test, length_test, all_lengths, place_test, broken_test}
use Rattle.walks.specs.declared.Step.{Step}
use Rattle.walks.specs.declared.reaching.Walked.{Walked}

-- A walk from interval h goes on to the next one while there is one that does not start above j: the starts passed.
unfoldable pub passed : List ℕ → ℕ → ℕ → ℕ
passed starts h j = leading (λ s. leb s j) (drop (suc h) starts)

-- Find: the walk from interval 0 for place i reaches as many intervals further as it passes starts.
unfoldable pub found_at : Links → ℕ → ℕ
found_at k i = passed k.list.starts 0 i

-- 11 for find: i is not below n, or below the first start
unfoldable pub unfindable : ℕ → List ℕ → ℕ → Bool
unfindable n starts i = leb n i || ltb i (get_or starts 0 0)

-- all lengths are tested before the place
abbrev pub find_tests : ℕ → Tables → ℕ → List Test
find_tests n t i = shape_test n t ∷ all_lengths n t ∷ test 11 (unfindable n t.links.list.starts i) i ∷ []

unfoldable pub find_of : ℕ → Tables → ℕ → Outcome ℕ
find_of n t i = judge (find_tests n t i) (found_at t.links i)

-- The starts read for place j, which are those compared with it: one after the other, until none is left or one lies above
-- j. That one is read too, and ends the walk.
unfoldable pub starts_read : List ℕ → ℕ → ℕ
starts_read [] j = 0
starts_read (s ∷ ss) j = suc (leb s j then starts_read ss j else 0)

-- What a walk from interval h to place j counts: the starts that it reads, which stand behind that of h.
unfoldable pub walk_count : List ℕ → ℕ → ℕ → ℕ
walk_count starts h j = starts_read (drop (suc h) starts) j

-- The same by the indexes, where the walk from h ends in interval x of k (proofs/StartsRead): one start for each interval gone
-- past, and one more unless x is the last.
abbrev pub read_to : ℕ → ℕ → ℕ → ℕ
read_to k h x = x - h + bit (ltb (suc x) k)

-- The walk from interval h to place j: the interval reached, which lies as far from h as starts are passed, and the count.
abbrev pub walked_to : List ℕ → ℕ → ℕ → Walked
walked_to starts h j = record { interval = h + passed starts h j; count = walk_count starts h j }

-- at place i of interval x, with the distance, which is the place minus the interval's start, and a count
abbrev pub stand_at : List ℕ → ℕ → ℕ → ℕ → Step
stand_at starts x i c = record { place = i; interval = x; distance = distance_in starts x i; count = c }

-- The step of the walk from interval h to place j: it stands at j, in the interval reached.
unfoldable pub step_to : List ℕ → ℕ → ℕ → Step
step_to starts h j = let w = walked_to starts h j in stand_at starts w.interval j w.count

-- Move: the step from the holder to the place reached.
unfoldable pub step_of : Links → ℕ → ℕ → Step
step_of k x i = step_to k.list.starts (holder_of k x) (carry k.list x i)

-- no move, at place i of interval x
abbrev pub stay_at : List ℕ → ℕ → ℕ → Step
stay_at starts x i = stand_at starts x i 0

-- the length of x alone is tested, and before the place; that of the interval reached is not
abbrev pub locate_tests : ℕ → Tables → ℕ → ℕ → List Test
locate_tests n t x i = shape_test n t ∷ index_test t.links x ∷ length_test n t x ∷ place_test n t x i ∷ []

abbrev pub move_tests : ℕ → Tables → ℕ → ℕ → List Test
move_tests n t x i =
    shape_test n t ∷ index_test t.links x ∷ length_test n t x ∷ place_test n t x i ∷ broken_test n t.links x i ∷ []

unfoldable pub move_of : ℕ → Tables → ℕ → ℕ → Outcome Step
move_of n t x i = judge (move_tests n t x i) (step_of t.links x i)

-- a step with what was counted before it
abbrev pub counted_after : ℕ → Step → Step
counted_after c s = record { place = s.place; interval = s.interval; distance = s.distance; count = c + s.count }

-- one move more after a step
unfoldable pub onwards : ℕ → Tables → Step → Outcome Step
onwards n t s = map_done (counted_after s.count) (move_of n t s.interval s.place)

-- Repeated move: m moves, each from where the one before led, and the sum of their counts. With no moves it stays, after
-- all tests but the last.
unfoldable pub moves_of : ℕ → Tables → ℕ → ℕ → ℕ → Outcome Step
moves_of n t zero x i = judge (locate_tests n t x i) (stay_at t.links.list.starts x i)
moves_of n t (suc m) x i = and_then (moves_of n t m x i) (onwards n t)

-- what `find`, `move_query` and `repeated_moves` promise of their answers
abbrev pub Finds : ℕ → Tables → ℕ → Result ℕ Refusal → Type 0
Finds n t i r = says r ≡ find_of n t i

abbrev pub MovesOnce : ℕ → Tables → ℕ → ℕ → Result Step Refusal → Type 0
MovesOnce n t x i r = says r ≡ move_of n t x i

abbrev pub MovesOften : ℕ → Tables → ℕ → ℕ → ℕ → Result Step Refusal → Type 0
MovesOften n t m x i r = says r ≡ moves_of n t m x i

-- Where a repeated move stopped on the way: after fewer moves than it was asked for, it stood in an interval that it
-- could not leave. It gives 12 and that interval, and no part of what it had walked.
pub record Stopped (n : ℕ) (t : Tables) (m x i number place : ℕ) : Type 0 where
  pub made : ℕ
  pub fewer : made < m
  pub step : Step
  pub so_far : moves_of n t made x i ≡ done step
  pub stuck : move_of n t step.interval step.place ≡ refused 12 step.interval
  pub twelve : number ≡ 12
  pub there : place ≡ step.interval

-- What a count promises on any tables, where a move from interval x has reached interval y: y is not below the holder, and the count
-- goes by the indexes.
pub record ReadsTo (k : Links) (x y c : ℕ) : Type 0 where
  pub onward : holder_of k x ≤ y
  pub exact : c ≡ read_to (size_of k) (holder_of k x) y

-- What a distance promises on any tables: x is the index of an interval, place i lies exactly g places beyond its start, which is
-- then not above i, and g is below the interval's length as the starts tell it.
pub record LiesIn (n : ℕ) (k : Links) (x i g : ℕ) : Type 0 where
  pub index : x < size_of k
  pub exact : start_of k.list x + g ≡ i
  pub short : g < length_of n k.list x

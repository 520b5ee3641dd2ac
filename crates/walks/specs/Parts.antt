-- The tests that a move begins with, what is left of it once they have passed, and once all have.
use Rattle.std.specs.Prelude.{ℕ, ◌^◌, ◌≤◌, ◌<◌, ◌≡◌, false, [], ◌∷◌}
use Rattle.outcomes.specs.Outcome.{Outcome, judge}
use Rattle.runs.specs.Runs.{start_of, carry}
use Rattle.tables.specs.Tables.{Links, Tables, size_of, max_intervals, unheld, wrong_at, length_test, broken_test}
use Rattle.tables.specs.Parts.{Entered, Stands}
use Rattle.walks.specs.Move.{locate_tests, step_of}
use Rattle.walks.specs.declared.Step.{Step}

-- 9, 10, 12 of the length, and 11, with which a move begins, and no step
abbrev pub locate_of : ℕ → Tables → ℕ → ℕ → Outcome (Unit {0})
locate_of n t x i = judge (locate_tests n t x i) tt

-- 12 and the step, from a place that lies in its interval
unfoldable pub advance_of : ℕ → Links → ℕ → ℕ → Outcome Step
advance_of n k x i = judge (broken_test n k x i ∷ []) (step_of k x i)

-- the same with the test of the interval's length before it: what is left of a move from where another one has led
unfoldable pub leave_of : ℕ → Tables → ℕ → ℕ → Outcome Step
leave_of n t x i = judge (length_test n t x ∷ broken_test n t.links x i ∷ []) (step_of t.links x i)

-- after 9 to 11, where moves begin: the place lies in interval x, whose length is right
pub record Starting (n : ℕ) (t : Tables) (x i : ℕ) : Type 0 where
  pub stands : Stands n t x i
  pub right : wrong_at n t x ≡ false

-- after all tests: x has its entries in tables of the right size, i does not lie below its start, there is the holder, and the
-- place reached has 32 bits
pub record Movable (k : Links) (x i : ℕ) : Type 0 where
  pub entered : Entered k x
  pub few : size_of k ≤ max_intervals
  pub low : start_of k.list x ≤ i
  pub held : unheld k x ≡ false
  pub fits : carry k.list x i < 2 ^ 32

-- The working table (document 01, "Balancing"; document 02, A.5): how much of it there must be, the tests of a call up to
-- its own, and what it holds afterwards.
use Rattle.std.specs.Prelude.{ℕ, List, [], ◌∷◌, ◌++◌, length, replicate, ltb}
use Rattle.outcomes.specs.Outcome.{Outcome, Test, test, judge, filled}
use Rattle.outcomes.specs.Degree.{degree_test}
use Rattle.runs.specs.Check.{check_tests}
use Rattle.runs.specs.Runs.{Runs, count_of}
use Rattle.cuts.specs.Balance.{bound_of}

-- how many entries it must have for k runs at degree d, and how many of them are cleared: B
abbrev pub working_size : ℕ → ℕ → ℕ
working_size d k = bound_of d k

-- 8: a working table of `room` entries has fewer
abbrev pub working_test : ℕ → ℕ → ℕ → Test
working_test d k room = test 8 (ltb room (working_size d k)) (working_size d k)

-- 1 to 6, then 7, and 8 for the working table
abbrev pub plan_tests : ℕ → Runs → ℕ → ℕ → List Test
plan_tests n r d room = check_tests n r ++ (degree_test d ∷ working_test d (count_of r) room ∷ [])

unfoldable pub planned_of : ℕ → Runs → ℕ → ℕ → Outcome (Unit {0})
planned_of n r d room = judge (plan_tests n r d room) tt

-- What a working table holds after a call at degree d: 0 in its first B entries if these tests pass, whatever becomes of
-- the call after them; else what it held.
unfoldable pub cleared_by : ℕ → Runs → ℕ → List ℕ → List ℕ
cleared_by n r d working =
    filled (λ _. replicate (working_size d (count_of r)) 0) (planned_of n r d (length working)) working

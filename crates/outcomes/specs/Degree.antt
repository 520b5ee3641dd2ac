-- The degree that a list is balanced at (document 01, "Numbers and their conditions").
use Rattle.std.specs.Prelude.{ℕ, Bool, ◌||◌, ltb}
use Rattle.outcomes.specs.Outcome.{Test, test}

-- 7: d is below 2 or above 64
abbrev pub no_degree : ℕ → Bool
no_degree d = ltb d 2 || ltb 64 d

abbrev pub degree_test : ℕ → Test
degree_test d = test 7 (no_degree d) d

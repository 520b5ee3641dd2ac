-- What is left of a weight once tests have passed.
use Rattle.std.specs.Prelude.{ℕ}
use Rattle.outcomes.specs.Outcome.{Outcome, judge}
use Rattle.tables.specs.Tables.{Tables}
use Rattle.weights.specs.Under.{stretch_tests, under_count}

-- after 9 and 10: 12 and the size
unfoldable pub size_under : ℕ → Tables → ℕ → Outcome ℕ
size_under n t x = judge (stretch_tests n t x) (under_count t x)

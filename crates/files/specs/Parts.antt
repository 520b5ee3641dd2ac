-- What the parts of `check_file` ask and promise: the file's tests, some at a time.
use Rattle.std.specs.Prelude.{ℕ, ◌+◌, ◌*◌, ◌≤◌, ◌<◌, ◌≡◌, List, [], ◌∷◌, ◌++◌, length}
use Rattle.outcomes.specs.Outcome.{Outcome, judge, and_then}
use Rattle.outcomes.specs.Degree.{degree_test}
use Rattle.runs.specs.Runs.{Runs}
use Rattle.runs.specs.Check.{check_of}
use Rattle.files.specs.Words.{header_of}
use Rattle.files.specs.File.{number_tests, layout_tests, header_tests, body_tests}
use Rattle.files.specs.declared.Header.{Header}

unfoldable pub layout_of : ℕ → List ℕ → Outcome (Unit {0})
layout_of k bytes = judge (layout_tests k bytes) tt

unfoldable pub numbers_of : ℕ → ℕ → ℕ → List ℕ → Outcome (Unit {0})
numbers_of most n k bytes = judge (number_tests most n k ++ layout_tests k bytes) tt

unfoldable pub heading_of : ℕ → List ℕ → Outcome Header
heading_of most bytes = judge (header_tests most bytes) (header_of bytes)

unfoldable pub degree_of : Header → Outcome Header
degree_of h = judge (degree_test h.d ∷ []) h

-- check's tests of a list, and then the degree's
unfoldable pub listed_of : Header → Runs → Outcome Header
listed_of h r = and_then (check_of h.n r) (λ u. degree_of h)

unfoldable pub body_of : List ℕ → Outcome Header
body_of bytes = judge (body_tests bytes) (header_of bytes)

-- what a header says that passed its tests
pub record Laid (most : ℕ) (bytes : List ℕ) (h : Header) : Type 0 where
  pub same : h ≡ header_of bytes
  pub places : 0 < h.n
  pub some : 0 < h.k
  pub few : h.k ≤ most
  pub long : length bytes ≡ 20 + 8 * h.k

-- the file has k starts and k images, and there is room for them
pub record ListRoom (bytes : List ℕ) (k : ℕ) (starts images : List ℕ) : Type 0 where
  pub long : length bytes ≡ 20 + 8 * k
  pub starts_room : length starts ≡ k
  pub images_room : length images ≡ k

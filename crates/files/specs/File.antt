-- The tests of a file, in an order of their own (document 01, "The file and the listing"). A test is data: each list
-- below can be judged by itself, and those of the header look at no image and not at d.
use Rattle.std.specs.Prelude.{ℕ, ◌+◌, ◌*◌, not, ◌||◌, List, [], ◌∷◌, ◌++◌, length, ltb, eqb}
use Rattle.outcomes.specs.Outcome.{Outcome, Test, test, judge}
use Rattle.outcomes.specs.Degree.{degree_test}
use Rattle.runs.specs.Check.{list_tests}
use Rattle.files.specs.Words.{word_of, header_of, runs_of}
use Rattle.files.specs.declared.Header.{Header}

-- 1 and 2 of the numbers that a header says, for at most `most` runs
abbrev pub number_tests : ℕ → ℕ → ℕ → List Test
number_tests most n k = test 1 (eqb n 0 || eqb k 0) 0 ∷ test 2 (ltb most k) 0 ∷ []

-- these come after a test for the header's 20 bytes
unfoldable pub count_tests : ℕ → List ℕ → List Test
count_tests most bytes = test 15 (ltb (length bytes) 20) 0 ∷ number_tests most (word_of bytes 0) (word_of bytes 1)

-- where the k starts and the k images stand, and that the file ends behind them
unfoldable pub layout_tests : ℕ → List ℕ → List Test
layout_tests k bytes =
    test 15 (not (eqb (word_of bytes 3) 20)) 12 ∷
    test 15 (not (eqb (word_of bytes 4) (20 + 4 * k))) 16 ∷
    test 15 (not (eqb (length bytes) (20 + 8 * k))) 20 ∷
    []

unfoldable pub header_tests : ℕ → List ℕ → List Test
header_tests most bytes = count_tests most bytes ++ layout_tests (word_of bytes 1) bytes

-- "then 3 to 7"
unfoldable pub body_tests : List ℕ → List Test
body_tests bytes = list_tests (word_of bytes 0) (runs_of bytes) ++ (degree_test (word_of bytes 2) ∷ [])

unfoldable pub file_tests : ℕ → List ℕ → List Test
file_tests most bytes = header_tests most bytes ++ body_tests bytes

-- a file of at most `most` runs that passes them gives its header
unfoldable pub file_of : ℕ → List ℕ → Outcome Header
file_of most bytes = judge (file_tests most bytes) (header_of bytes)

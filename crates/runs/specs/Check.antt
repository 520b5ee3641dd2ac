-- Check: tests 1 to 6 on any numbers (document 01, "Numbers and their conditions").
use Rattle.std.specs.Prelude.{ℕ, ◌-◌, Bool, not, ◌&&◌, ◌||◌, List, [], ◌∷◌, ◌++◌, length, get_or, ltb, leb, eqb}
use Rattle.outcomes.specs.Outcome.{Outcome, Test, test, short_test, judge}
use Rattle.outcomes.specs.Search.{first_below, any_below}
use Rattle.runs.specs.Runs.{Runs, count_of, image_of, image_end}

-- the most runs that a list may have
abbrev pub max_runs : ℕ
max_runs = 16384

-- 1: n is 0, there are no runs, or starts and images differ in count
unfoldable pub unmatched : ℕ → Runs → Bool
unmatched n r = eqb n 0 || (eqb (count_of r) 0 || not (eqb (count_of r) (length r.images)))

-- 4: run x does not start below n, or not above the run before it
unfoldable pub unordered : ℕ → List ℕ → ℕ → Bool
unordered n starts x = leb n (get_or starts x 0) || (ltb 0 x && leb (get_or starts x 0) (get_or starts (x - 1) 0))

-- 5: the image of run x ends beyond n
unfoldable pub out_of_range : ℕ → Runs → ℕ → Bool
out_of_range n r x = ltb n (image_end n r x)

-- 6: the image of run x has a place in common with that of run y, another one; with that of any, before or after it
unfoldable pub overlap : ℕ → Runs → ℕ → ℕ → Bool
overlap n r x y = not (eqb x y) && (ltb (image_of r x) (image_end n r y) && ltb (image_of r y) (image_end n r x))

unfoldable pub overlaps : ℕ → Runs → ℕ → Bool
overlaps n r x = any_below (overlap n r x) (count_of r)

-- a test of each run, or of each of k others, with the lowest that it applies to
abbrev pub lowest : ℕ → (ℕ → Bool) → ℕ → Test
lowest number p k = test number (any_below p k) (first_below p k)

-- tests 3 and 4 read the starts alone, 5 and 6 the images too
abbrev pub start_tests : ℕ → List ℕ → List Test
start_tests n starts =
    test 3 (not (eqb (get_or starts 0 0) 0)) 0 ∷
    lowest 4 (unordered n starts) (length starts) ∷
    []

abbrev pub image_tests : ℕ → Runs → List Test
image_tests n r =
    lowest 5 (out_of_range n r) (count_of r) ∷
    lowest 6 (overlaps n r) (count_of r) ∷
    []

-- tests 3 to 6, of a list of matched counts
unfoldable pub list_tests : ℕ → Runs → List Test
list_tests n r = start_tests n r.starts ++ image_tests n r

-- tests 1 to 6, of a list that may have `most` runs
unfoldable pub tests_up_to : ℕ → ℕ → Runs → List Test
tests_up_to most n r = test 1 (unmatched n r) 0 ∷ test 2 (ltb most (count_of r)) 0 ∷ list_tests n r

abbrev pub check_up_to : ℕ → ℕ → Runs → Outcome (Unit {0})
check_up_to most n r = judge (tests_up_to most n r) tt

-- the same at the limit that the paper sets
abbrev pub check_tests : ℕ → Runs → List Test
check_tests n r = tests_up_to max_runs n r

abbrev pub check_of : ℕ → Runs → Outcome (Unit {0})
check_of n r = check_up_to max_runs n r

-- tests 1 to 6, then 8: of a call that writes k entries to lent tables
abbrev pub write_tests : ℕ → Runs → List (List ℕ) → List Test
write_tests n r tables = check_tests n r ++ (short_test (count_of r) tables ∷ [])

-- Inverse (document 01, "Walking", with the lengths of document 02, A.7), on any tables.
use Rattle.std.specs.Prelude.{ℕ, Bool, not, ◌&&◌, List, [], ◌∷◌, ltb, leb}
use Rattle.outcomes.specs.Outcome.{Outcome, Test, test, judge}
use Rattle.outcomes.specs.Search.{first_below, any_below}
use Rattle.runs.specs.Runs.{image_of, carry_back}
use Rattle.tables.specs.Tables.{Tables, size_of, end_at, shape_test, all_lengths}
use Rattle.preimages.specs.declared.Source.{Source}

-- whether x sends a place to j: its image does not begin above j, and the place that j would come from is below its end
unfoldable pub sends : Tables → ℕ → ℕ → Bool
sends t j x = leb (image_of t.links.list x) j && ltb (carry_back t.links.list x j) (end_at t x)

-- the lowest interval that does, or their number where there is none
unfoldable pub source_of : Tables → ℕ → ℕ
source_of t j = first_below (sends t j) (size_of t.links)

-- 14: no interval does
abbrev pub inverse_tests : ℕ → Tables → ℕ → List Test
inverse_tests n t j =
    shape_test n t ∷
    all_lengths n t ∷
    test 11 (leb n j) j ∷
    test 14 (not (any_below (sends t j) (size_of t.links))) j ∷
    []

unfoldable pub inverse_of : ℕ → Tables → ℕ → Outcome Source
inverse_of n t j =
    judge (inverse_tests n t j)
    (record { place = carry_back t.links.list (source_of t j) j; interval = source_of t j })

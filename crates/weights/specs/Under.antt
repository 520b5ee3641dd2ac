-- The starts under an image and their number as walked on any tables (document 01, "Walking", with the lengths of document 02,
-- A.7). On the tables of a legal list they are those of the list (proofs/LegalWeights).
use Rattle.std.specs.Prelude.{ℕ, ◌+◌, Bool, ◌||◌, List, [], ◌∷◌, get_or, take, drop, ltb, eqb}
use Rattle.outcomes.specs.Outcome.{Outcome, done, refused, Test, test, judge, ◌then◌else◌}
use Rattle.order.specs.Lists.{leading}
use Rattle.runs.specs.Runs.{start_of, image_of}
use Rattle.tables.specs.Tables.{Links, Tables, holder_of, unheld, shape_test, index_test, length_test}
use Rattle.weights.specs.declared.Stretch.{Stretch}

-- the end of x's image as it is read: the image plus x's length
abbrev pub image_end_at : Tables → ℕ → ℕ
image_end_at t x = image_of t.links.list x + get_or t.lengths x 0

-- 12 but for the length: the part about the holder, or the image ends beyond n
unfoldable pub unplaced : ℕ → Tables → ℕ → Bool
unplaced n t x = unheld t.links x || ltb n (image_end_at t x)

-- where the stretch begins: at the holder if that starts at the image, else at the next interval
unfoldable pub under_first : Links → ℕ → ℕ
under_first k x = holder_of k x + (eqb (start_of k.list (holder_of k x)) (image_of k.list x) then 0 else 1)

-- its size: it ends before the first start from there on that is not below the image's end, or with the table
unfoldable pub under_count : Tables → ℕ → ℕ
under_count t x = leading (λ s. ltb s (image_end_at t x)) (drop (under_first t.links x) t.links.list.starts)

-- 12: the part about the length, and the rest
abbrev pub stretch_tests : ℕ → Tables → ℕ → List Test
stretch_tests n t x = length_test n t x ∷ test 12 (unplaced n t x) x ∷ []

-- weight: that size, or the refusal
abbrev pub under_tests : ℕ → Tables → ℕ → List Test
under_tests n t x = shape_test n t ∷ index_test t.links x ∷ stretch_tests n t x

unfoldable pub weight_of : ℕ → Tables → ℕ → Outcome ℕ
weight_of n t x = judge (under_tests n t x) (under_count t x)

-- where the stretch begins, and its size; told by the same tests
abbrev pub under_at : Tables → ℕ → Stretch
under_at t x = record { first = under_first t.links x; count = under_count t x }

unfoldable pub under_of : ℕ → Tables → ℕ → Outcome Stretch
under_of n t x = judge (under_tests n t x) (under_at t x)

-- the stretch itself, the entries that are told, and nothing on a refusal
unfoldable pub stretch : Outcome Stretch → List ℕ → List ℕ
stretch (done s) starts = take s.count (drop s.first starts)
stretch (refused k p) starts = []

unfoldable pub starts_under_of : ℕ → Tables → ℕ → List ℕ
starts_under_of n t x = stretch (under_of n t x) t.links.list.starts

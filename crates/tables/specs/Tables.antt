-- Move tables (document 01, "The collection's objects", with the lengths of document 02, A.7), and the tests of 9 to 12 on any
-- numbers in them.
use Rattle.std.specs.Prelude.{ℕ, suc, ◌+◌, ◌-◌, ◌≡◌, Bool, false, not, ◌||◌, List, [], ◌∷◌, map, length, ◌==◌, nat_le, nat_lt, slice_index, slice_index_or}
use Rattle.outcomes.specs.Outcome.{Test, test}
use Rattle.runs.specs.Runs.{Runs, runs, count_of, start_of, image_of, run_at, carry}
use Rattle.runs.specs.Check.{lowest}
use Rattle.tables.specs.declared.MoveTable.{MoveTable}
use Rattle.tables.specs.declared.MoveTableMut.{MoveTableMut}

-- what a walk follows: starts, images and holders
pub record Links : Type 0 where
  pub list : Runs
  pub holders : List ℕ

abbrev pub links : List ℕ → List ℕ → List ℕ → Links
links s i h = record { list = runs s i; holders = h }

-- tables: these three, and a length for each interval
pub record Tables : Type 0 where
  pub links : Links
  pub lengths : List ℕ

abbrev pub tables : List ℕ → List ℕ → List ℕ → List ℕ → Tables
tables s i h l = record { links = links s i h; lengths = l }

-- the tables that a caller lends, and their links
abbrev pub tables_in : MoveTable → Tables
tables_in t = tables t.starts.now t.images.now t.holders.now t.lengths.now

abbrev pub links_in : MoveTable → Links
links_in t = links t.starts.now t.images.now t.holders.now

-- the tables that are lent to be written; and they are at exit still those that were lent
abbrev pub tables_to : MoveTableMut → Tables
tables_to t = tables t.starts.now t.images.now t.holders.now t.lengths.now

abbrev pub SameColumns : MoveTableMut → MoveTableMut → Type 0
SameColumns t t' =
    (t'.starts.ghost_name ≡ t.starts.ghost_name) × (t'.images.ghost_name ≡ t.images.ghost_name)
    × (t'.holders.ghost_name ≡ t.holders.ghost_name) × (t'.lengths.ghost_name ≡ t.lengths.ghost_name)

-- the links of a list: an interval's holder is the index of the interval that has its image
abbrev pub links_of : ℕ → Runs → Links
links_of n r = record { list = r; holders = map (run_at n r) r.images }

-- the lengths of a list by its starts: the next start, or n, minus the start
abbrev pub lengths_of : ℕ → List ℕ → List ℕ
lengths_of n [] = []
lengths_of n (s ∷ ss) = (slice_index_or ss 0 n - s) ∷ lengths_of n ss

-- the tables of a list
abbrev pub tables_of : ℕ → Runs → Tables
tables_of n r = record { links = links_of n r; lengths = lengths_of n r.starts }

-- K, the number of intervals
abbrev pub size_of : Links → ℕ
size_of k = count_of k.list

abbrev pub holder_of : Links → ℕ → ℕ
holder_of k x = slice_index k.holders x

-- the most intervals that tables may have
abbrev pub max_intervals : ℕ
max_intervals = 32768

-- the columns beside the starts, and whether one of them has not k entries
abbrev pub columns : Tables → List (List ℕ)
columns t = t.links.list.images ∷ t.links.holders ∷ t.lengths ∷ []

abbrev pub unequal : ℕ → List (List ℕ) → Bool
unequal k [] = false
unequal k (l ∷ ls) = not (k == length l) || unequal k ls

-- All columns, the starts first; each of them by f; and each of one with the same of another. What holds for each column
-- is said through these, so that no other place names them one by one.
abbrev pub all_columns : Tables → List (List ℕ)
all_columns t = t.links.list.starts ∷ columns t

abbrev pub each_column : (List ℕ → List ℕ) → Tables → Tables
each_column f t = tables (f t.links.list.starts) (f t.links.list.images) (f t.links.holders) (f t.lengths)

abbrev pub each_pair : (List ℕ → List ℕ → List ℕ) → Tables → Tables → Tables
each_pair f t u =
    tables
    (f t.links.list.starts u.links.list.starts)
    (f t.links.list.images u.links.list.images)
    (f t.links.holders u.links.holders)
    (f t.lengths u.lengths)

-- 9: n is 0, or the tables are empty, of unequal count, or have more entries than they may
abbrev pub misshapen_by : ℕ → ℕ → List (List ℕ) → Bool
misshapen_by n k others = n == 0 || (k == 0 || (unequal k others || nat_lt max_intervals k))

unfoldable pub misshapen : ℕ → Tables → Bool
misshapen n t = misshapen_by n (size_of t.links) (columns t)

-- 12, the part about a length: it is 0, or start and length together do not make the end
unfoldable pub mismatch : ℕ → ℕ → ℕ → Bool
mismatch s e l = l == 0 || not (s + l == e)

-- the same of interval x, which ends where the next one starts, and the last one at n
abbrev pub wrong_length : ℕ → List ℕ → List ℕ → ℕ → Bool
wrong_length n starts lengths x = mismatch (slice_index starts x) (slice_index_or starts (suc x) n) (slice_index lengths x)

abbrev pub wrong_at : ℕ → Tables → ℕ → Bool
wrong_at n t x = wrong_length n t.links.list.starts t.lengths x

-- the end of interval x as it is read: its start plus its length
abbrev pub end_at : Tables → ℕ → ℕ
end_at t x = start_of t.links.list x + slice_index t.lengths x

-- 11, where interval x is handed in with place i: i is not below n, or x does not have it
unfoldable pub outside : ℕ → Tables → ℕ → ℕ → Bool
outside n t x i = nat_le n i || (nat_lt i (start_of t.links.list x) || nat_le (end_at t x) i)

-- 12, the part about the holder: there is no such interval, or it starts above x's image
unfoldable pub unheld : Links → ℕ → Bool
unheld k x = nat_le (size_of k) (holder_of k x) || nat_lt (image_of k.list x) (start_of k.list (holder_of k x))

-- 12 for a move: that part, or the place that it reaches is not below n
unfoldable pub broken : ℕ → Links → ℕ → ℕ → Bool
broken n k x i = unheld k x || nat_le n (carry k.list x i)

-- the tests as rows of the paper's table
abbrev pub shape_test : ℕ → Tables → Test
shape_test n t = test 9 (misshapen n t) 0

abbrev pub index_test : Links → ℕ → Test
index_test k x = test 10 (nat_le (size_of k) x) x

abbrev pub length_test : ℕ → Tables → ℕ → Test
length_test n t x = test 12 (wrong_at n t x) x

-- the same of all intervals, with the lowest that it applies to
abbrev pub all_lengths : ℕ → Tables → Test
all_lengths n t = lowest 12 (wrong_at n t) (size_of t.links)

abbrev pub place_test : ℕ → Tables → ℕ → ℕ → Test
place_test n t x i = test 11 (outside n t x i) i

abbrev pub broken_test : ℕ → Links → ℕ → ℕ → Test
broken_test n k x i = test 12 (broken n k x i) x

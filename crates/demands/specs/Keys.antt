-- The keys that are proved about the definitions: one table, one statement. Its rows are written from document 01: the keys
-- that it marks to be proved, the example's listing, ψ, and both ends of a shift; and from document 02, what its text comes
-- to for questions together (A.1), the distance (A.2), the next list (A.3), the starts read (A.4), which every move here
-- counts (what questions answer is still the starts passed in finding), how large a list will be (A.5), and lengths (A.7). On the
-- left stands what is asked of a definition, on the right the numbers that the document gives, or that were worked out from it by hand.
use Rattle.std.specs.Prelude.{ℕ, suc, ◌≡◌, refl, List, [], ◌∷◌, ◌++◌, map, ℤ, pos, negsuc, replicate}
use Rattle.outcomes.specs.Outcome.{Outcome, done, refused, judge, map_done, and_then, filled}
use Rattle.runs.specs.Runs.{Runs, runs, count_of, start_of, image_of, shift_of}
use Rattle.runs.specs.Check.{unmatched, unordered, out_of_range, overlap, overlaps, list_tests, tests_up_to, check_of}
use Rattle.tables.specs.Tables.{Tables, tables, tables_of, size_of, holder_of, all_columns, misshapen, mismatch, outside, unheld, broken}
use Rattle.walks.specs.Move.{passed, found_at, unfindable, starts_read, walk_count, step_to, step_of, find_of, move_of, onwards, moves_of}
use Rattle.walks.specs.Plain.{plain_move, plain_moves}
use Rattle.preimages.specs.Inverse.{sends, source_of, inverse_of}
use Rattle.weights.specs.Under.{unplaced, under_first, under_count, weight_of, under_of}
use Rattle.runs.specs.Weight.{weight}
use Rattle.walks.specs.declared.Step.{Step}
use Rattle.preimages.specs.declared.Source.{Source}
use Rattle.weights.specs.declared.Stretch.{Stretch}
use Rattle.bookmarks.specs.Bookmark.{fresh, overflows, bookmark_of, mark_after, Marking, marking_of}
use Rattle.bookmarks.specs.declared.Bookmark.{Bookmark}
use Rattle.questions.specs.Questions.{falls_at, unfindable_at, broken_at, answers_of, filled_in, records_after}
use Rattle.questions.specs.declared.Question.{Question}
use Rattle.cuts.specs.Balance.{cutting, balanced}
use Rattle.plans.specs.Working.{planned_of, cleared_by}
use Rattle.balance.specs.Lent.{lent, balance_of, filled_tables}
use Rattle.forecasts.specs.Sizing.{forecast_of}
use Rattle.forecasts.specs.Seeking.{least_degree_of}
use Rattle.folds.specs.Fold.{breaks, maximal_runs}
use Rattle.permutations.specs.Values.{values_of}
use Rattle.permutations.specs.Next.{last_ascent, last_above, changed, successor, falls, next_runs, next_of}
use Rattle.permutations.specs.Every.{lists_from}
use Rattle.demands.specs.Served.{served_trail}

-- An outcome as a row of numbers: 0 and its values, or the refusal's number and place.
abbrev pub row_from : {A : Type 0} → (A → List ℕ) → Outcome A → List ℕ
row_from values (done a) = 0 ∷ values a
row_from values (refused number place) = number ∷ place ∷ []

abbrev pub checked_row : Outcome (Unit {0}) → List ℕ
checked_row o = row_from (λ u. []) o

abbrev pub found_row : Outcome ℕ → List ℕ
found_row o = row_from (λ x. x ∷ []) o

abbrev pub moved_row : Outcome Step → List ℕ
moved_row o = row_from (λ s. s.place ∷ s.interval ∷ s.distance ∷ s.count ∷ []) o

abbrev pub inverted_row : Outcome Source → List ℕ
inverted_row o = row_from (λ s. s.place ∷ s.interval ∷ []) o

abbrev pub stretched_row : Outcome Stretch → List ℕ
stretched_row o = row_from (λ s. s.first ∷ s.count ∷ []) o

-- records, one after the other: place, interval, place and interval reached, count, distance
abbrev pub records_row : List Question → List ℕ
records_row [] = []
records_row (q ∷ qs) = q.place ∷ q.interval ∷ q.to_place ∷ q.to_interval ∷ q.count ∷ q.distance ∷ records_row qs

-- an answer and a bookmark: its place, interval, distance, moves and starts read
abbrev pub marking_row : Marking → List ℕ
marking_row m =
    let b = m.bookmark in
    moved_row m.answer ++ (b.place ∷ b.interval ∷ b.distance ∷ b.moves ∷ b.count ∷ [])

-- the moves of a bookmark, one after the other
abbrev pub trail_row : List Marking → List ℕ
trail_row [] = []
trail_row (m ∷ ms) = marking_row m ++ trail_row ms

-- a bookmark at place p of interval x, with distance g, whose m moves have read c starts
abbrev pub bookmark_at : ℕ → ℕ → ℕ → ℕ → ℕ → Bookmark
bookmark_at p x g m c = record { place = p; interval = x; distance = g; moves = m; count = c }

-- records that ask about these places, with another number in the fields to be filled in; the answer, and what it leaves
abbrev pub asked : ℕ → Question
asked p = record { place = p; interval = 9; to_place = 9; to_interval = 9; count = 9; distance = 9 }

abbrev pub answered_row : ℕ → Tables → List ℕ → List ℕ
answered_row n t ps = found_row (answers_of n t ps)

abbrev pub left_row : ℕ → Tables → List ℕ → List ℕ
left_row n t ps = records_row (records_after (filled_in t.links) (answers_of n t ps) (map asked ps))

-- the next list's run count, and both lent tables after the call
abbrev pub next_row : ℕ → Runs → List ℕ → List ℕ → List ℕ
next_row n r a b =
    let o = next_of n r a b in
    row_from (λ q. count_of q ∷ []) o ++ (filled (λ q. q.starts) o a ++ filled (λ q. q.images) o b)

abbrev pub nines : ℕ → List ℕ
nines k = replicate k 9

-- lists one after the other
abbrev pub joined : List (List ℕ) → List ℕ
joined [] = []
joined (l ∷ ls) = l ++ joined ls

-- a working table of nines after a call: b zeros, and m nines behind them
abbrev pub zeros : ℕ → ℕ → List ℕ
zeros b m = replicate b 0 ++ nines m

-- the size that is forecast, or the least degree and its K, and a working table of w nines after the call
abbrev pub forecast_row : ℕ → Runs → ℕ → ℕ → List ℕ
forecast_row n r d w = row_from (λ f. f.intervals ∷ f.cuts ∷ []) (forecast_of n r d w) ++ cleared_by n r d (nines w)

abbrev pub degree_row : ℕ → Runs → ℕ → ℕ → List ℕ
degree_row n r entries w = row_from (λ a. a.degree ∷ a.intervals ∷ []) (least_degree_of n r entries w) ++ cleared_by n r 2 (nines w)

-- K, and four tables of a, b, c and e nines and a working table of w after balancing
abbrev pub balance_row : ℕ → Runs → ℕ → ℕ → ℕ → ℕ → ℕ → ℕ → List ℕ
balance_row n r d a b c e w =
    let l = lent (nines a) (nines b) (nines c) (nines e) (nines w) in
    let t = filled_tables (balance_of n r d l) l.tables in
    row_from (λ q. size_of q.links ∷ []) (balance_of n r d l) ++ (joined (all_columns t) ++ cleared_by n r d (nines w))

-- starts and images, list after list
abbrev pub lists_row : List Runs → List ℕ
lists_row [] = []
lists_row (q ∷ qs) = q.starts ++ (q.images ++ lists_row qs)

-- an integer as its sign, which is 1 below 0 and else 0, and its size
abbrev pub signed_row : ℤ → List ℕ
signed_row (pos v) = 0 ∷ v ∷ []
signed_row (negsuc v) = 1 ∷ suc v ∷ []

-- interval x of the listing: index, start, image, shift, holder, weight
abbrev pub listed_row : ℕ → Tables → ℕ → List ℕ
listed_row n t x =
    let r = t.links.list in
    x ∷ start_of r x ∷ image_of r x ∷ [] ++ (signed_row (shift_of r x) ++ (holder_of t.links x ∷ weight n r x ∷ []))

-- the lists of the keys
abbrev pub example : Runs
example = runs (0 ∷ 2 ∷ 4 ∷ 6 ∷ 8 ∷ []) (14 ∷ 12 ∷ 10 ∷ 8 ∷ 0 ∷ [])

abbrev pub example_tables : Tables
example_tables = tables_of 16 (balanced 2 16 example)

-- the same written out, for keys that look at the tables often
abbrev pub listed_tables : Tables
listed_tables =
    tables (0 ∷ 2 ∷ 4 ∷ 6 ∷ 8 ∷ 12 ∷ []) (14 ∷ 12 ∷ 10 ∷ 8 ∷ 0 ∷ 4 ∷ []) (5 ∷ 5 ∷ 4 ∷ 4 ∷ 0 ∷ 2 ∷ [])
    (2 ∷ 2 ∷ 2 ∷ 2 ∷ 4 ∷ 4 ∷ [])

abbrev pub uncut : Runs
uncut = runs (0 ∷ 2 ∷ 4 ∷ 6 ∷ []) (10 ∷ 8 ∷ 6 ∷ 0 ∷ [])

abbrev pub fullest : Runs
fullest = runs (0 ∷ 3 ∷ 5 ∷ 7 ∷ 8 ∷ []) (8 ∷ 11 ∷ 13 ∷ 0 ∷ 1 ∷ [])

abbrev pub single : Runs
single = runs (0 ∷ []) (0 ∷ [])

abbrev pub halves : List ℕ → Runs
halves images = runs (0 ∷ 2 ∷ []) images

-- the run that goes furthest down, and the one that goes furthest up
abbrev pub furthest_down : Runs
furthest_down = runs (0 ∷ 4294967294 ∷ []) (1 ∷ 0 ∷ [])

abbrev pub furthest_up : Runs
furthest_up = runs (0 ∷ 1 ∷ []) (4294967294 ∷ 0 ∷ [])

-- source document 001's ψ
abbrev pub psi : Runs
psi =
    runs (0 ∷ 1 ∷ 5 ∷ 6 ∷ 12 ∷ 17 ∷ 19 ∷ 22 ∷ 25 ∷ 32 ∷ 34 ∷ 42 ∷ 43 ∷ [])
    (11 ∷ 28 ∷ 2 ∷ 22 ∷ 32 ∷ 38 ∷ 42 ∷ 12 ∷ 15 ∷ 0 ∷ 3 ∷ 37 ∷ 40 ∷ [])

-- the example's tables with two holders that are no interval's index; with other lengths, and with one that is wrong; and tables
-- whose starts do not rise, with a length that would be right if it could wrap
abbrev pub lost_holder : Tables
lost_holder = let t = example_tables in
    record { links = record { list = t.links.list; holders = 5 ∷ 9 ∷ 4 ∷ 9 ∷ 0 ∷ 2 ∷ [] }; lengths = t.lengths }

abbrev pub measured_by : List ℕ → Tables
measured_by l = record { links = listed_tables.links; lengths = l }

abbrev pub wrong_four : Tables
wrong_four = measured_by (2 ∷ 2 ∷ 2 ∷ 2 ∷ 5 ∷ 4 ∷ [])

abbrev pub mixed_starts : Tables
mixed_starts =
    tables (0 ∷ 9 ∷ 4 ∷ 12 ∷ []) (0 ∷ 9 ∷ 4 ∷ 12 ∷ []) (0 ∷ 1 ∷ 0 ∷ 3 ∷ []) (9 ∷ 4294967291 ∷ 8 ∷ 4 ∷ [])

-- a row of the table
infix 4 ◌is◌
pub data Key : Type 0 where
  ◌is◌ : List ℕ → List ℕ → Key

abbrev pub computed : Key → List ℕ
computed (a is b) = a

abbrev pub given : Key → List ℕ
given (a is b) = b

abbrev pub keys : List Key
keys =
    -- the listing's list: K, and the weight of run 4; then its printed rows
    (count_of (balanced 2 16 example) ∷ weight 16 example 4 ∷ [] is 6 ∷ 4 ∷ []) ∷
    (listed_row 16 example_tables 0 is 0 ∷ 0 ∷ 14 ∷ 0 ∷ 14 ∷ 5 ∷ 0 ∷ []) ∷
    (listed_row 16 example_tables 1 is 1 ∷ 2 ∷ 12 ∷ 0 ∷ 10 ∷ 5 ∷ 1 ∷ []) ∷
    (listed_row 16 example_tables 2 is 2 ∷ 4 ∷ 10 ∷ 0 ∷ 6 ∷ 4 ∷ 0 ∷ []) ∷
    (listed_row 16 example_tables 3 is 3 ∷ 6 ∷ 8 ∷ 0 ∷ 2 ∷ 4 ∷ 1 ∷ []) ∷
    (listed_row 16 example_tables 4 is 4 ∷ 8 ∷ 0 ∷ 1 ∷ 8 ∷ 0 ∷ 2 ∷ []) ∷
    (listed_row 16 example_tables 5 is 5 ∷ 12 ∷ 4 ∷ 1 ∷ 8 ∷ 2 ∷ 2 ∷ []) ∷
    -- place 11, interval 4, one move and none; then four moves from place 0, by 14, 6, 8, and four from place 11, by 3, 13, 5
    (moved_row (move_of 16 example_tables 4 11) is 0 ∷ 3 ∷ 1 ∷ 1 ∷ 2 ∷ []) ∷
    (moved_row (moves_of 16 example_tables 0 4 11) is 0 ∷ 11 ∷ 4 ∷ 3 ∷ 0 ∷ []) ∷
    (moved_row (moves_of 16 example_tables 1 0 0) is 0 ∷ 14 ∷ 5 ∷ 2 ∷ 0 ∷ []) ∷
    (moved_row (moves_of 16 example_tables 2 0 0) is 0 ∷ 6 ∷ 3 ∷ 0 ∷ 2 ∷ []) ∷
    (moved_row (moves_of 16 example_tables 3 0 0) is 0 ∷ 8 ∷ 4 ∷ 0 ∷ 3 ∷ []) ∷
    (moved_row (moves_of 16 example_tables 4 0 0) is 0 ∷ 0 ∷ 0 ∷ 0 ∷ 4 ∷ []) ∷
    (moved_row (moves_of 16 example_tables 4 4 11) is 0 ∷ 11 ∷ 4 ∷ 3 ∷ 4 ∷ []) ∷
    (inverted_row (inverse_of 16 example_tables 9) is 0 ∷ 7 ∷ 3 ∷ []) ∷
    -- the starts under an image: two from index 2 on, and none where 5 is the index that they would begin at
    (stretched_row (under_of 16 listed_tables 5) is 0 ∷ 2 ∷ 2 ∷ []) ∷
    (stretched_row (under_of 16 listed_tables 2) is 0 ∷ 5 ∷ 0 ∷ []) ∷
    -- weight 3, no cut; the most starts that a move may read
    (weight 12 uncut 3 ∷ count_of (balanced 2 12 uncut) ∷ [] is 3 ∷ 4 ∷ []) ∷
    (count_of (balanced 2 15 fullest) ∷ [] is 5 ∷ []) ∷
    (moved_row (move_of 15 (tables_of 15 (balanced 2 15 fullest)) 4 14) is 0 ∷ 7 ∷ 3 ∷ 0 ∷ 4 ∷ []) ∷
    -- the plain walk's own answers: place 11; four moves from place 0; the most starts; and a walk that ends with the starts
    (moved_row (done (plain_move 16 example listed_tables.links.list 11)) is 0 ∷ 3 ∷ 1 ∷ 1 ∷ 2 ∷ []) ∷
    (moved_row (done (plain_moves 16 example listed_tables.links.list 4 0)) is 0 ∷ 0 ∷ 0 ∷ 0 ∷ 4 ∷ []) ∷
    (moved_row (done (plain_move 15 fullest fullest 14)) is 0 ∷ 7 ∷ 3 ∷ 0 ∷ 4 ∷ []) ∷
    (moved_row (done (plain_move 45 psi psi 20)) is 0 ∷ 43 ∷ 12 ∷ 0 ∷ 1 ∷ []) ∷
    -- accepted and refused lists
    (checked_row (check_of 1 single) ++ (count_of (balanced 2 1 single) ∷ []) is 0 ∷ 1 ∷ []) ∷
    (checked_row (check_of 4 (halves (2 ∷ 0 ∷ []))) is 0 ∷ []) ∷
    (checked_row (check_of 4 (halves (0 ∷ 1 ∷ []))) is 6 ∷ 0 ∷ []) ∷
    (checked_row (check_of 4 (halves (0 ∷ 3 ∷ []))) is 5 ∷ 1 ∷ []) ∷
    -- both ends of a shift's range
    (checked_row (check_of 4294967295 furthest_down) ++ signed_row (shift_of furthest_down 1) is 0 ∷ 1 ∷ 4294967294 ∷ []) ∷
    (checked_row (check_of 4294967295 furthest_up) ++ signed_row (shift_of furthest_up 0) is 0 ∷ 0 ∷ 4294967294 ∷ []) ∷
    -- ψ: no cut at d 2; place 15, interval 4, where it lies and where it goes; place 20, interval 6, whose walk passes a start and
    -- ends with the table
    (count_of (balanced 2 45 psi) ∷ [] is 13 ∷ []) ∷
    (moved_row (moves_of 45 (tables_of 45 (balanced 2 45 psi)) 0 4 15) is 0 ∷ 15 ∷ 4 ∷ 3 ∷ 0 ∷ []) ∷
    (moved_row (move_of 45 (tables_of 45 (balanced 2 45 psi)) 4 15) is 0 ∷ 35 ∷ 10 ∷ 1 ∷ 2 ∷ []) ∷
    (moved_row (move_of 45 (tables_of 45 psi) 6 20) is 0 ∷ 43 ∷ 12 ∷ 0 ∷ 1 ∷ []) ∷
    -- a bookmark whose distance is wrong: a move writes it, 13 of either counter keeps it, and a count may fill its counter; and
    -- four moves
    (marking_row (marking_of 16 listed_tables (fresh 11 4 999)) is 0 ∷ 3 ∷ 1 ∷ 1 ∷ 2 ∷ 3 ∷ 1 ∷ 1 ∷ 1 ∷ 2 ∷ []) ∷
    (marking_row (marking_of 16 listed_tables (fresh 0 0 999)) is 0 ∷ 14 ∷ 5 ∷ 2 ∷ 0 ∷ 14 ∷ 5 ∷ 2 ∷ 1 ∷ 0 ∷ []) ∷
    (marking_row (marking_of 16 listed_tables (bookmark_at 11 4 999 4294967295 0)) is 13 ∷ 0 ∷ 11 ∷ 4 ∷ 999 ∷ 4294967295 ∷ 0 ∷ []) ∷
    (marking_row (marking_of 16 listed_tables (bookmark_at 11 4 999 3 18446744073709551614)) is
    13 ∷ 0 ∷ 11 ∷ 4 ∷ 999 ∷ 3 ∷ 18446744073709551614 ∷ []) ∷
    (marking_row (marking_of 16 listed_tables (bookmark_at 11 4 999 3 18446744073709551613)) is
    0 ∷ 3 ∷ 1 ∷ 1 ∷ 2 ∷ 3 ∷ 1 ∷ 1 ∷ 4 ∷ 18446744073709551615 ∷ []) ∷
    (trail_row (served_trail 16 listed_tables 4 (fresh 11 4 999)) is
    0 ∷ 3 ∷ 1 ∷ 1 ∷ 2 ∷ 3 ∷ 1 ∷ 1 ∷ 1 ∷ 2 ∷ 0 ∷ 13 ∷ 5 ∷ 1 ∷ 0 ∷ 13 ∷ 5 ∷ 1 ∷ 2 ∷ 2 ∷
    0 ∷ 5 ∷ 2 ∷ 1 ∷ 1 ∷ 5 ∷ 2 ∷ 1 ∷ 3 ∷ 3 ∷ 0 ∷ 11 ∷ 4 ∷ 3 ∷ 1 ∷ 11 ∷ 4 ∷ 3 ∷ 4 ∷ 4 ∷ []) ∷
    -- questions together: the listing's tables, two places equal; no records
    (answered_row 16 example_tables (0 ∷ 3 ∷ 3 ∷ 11 ∷ 15 ∷ []) is 0 ∷ 5 ∷ []) ∷
    (left_row 16 example_tables (0 ∷ 3 ∷ 3 ∷ 11 ∷ 15 ∷ []) is
    0 ∷ 0 ∷ 14 ∷ 5 ∷ 0 ∷ 2 ∷ 3 ∷ 1 ∷ 13 ∷ 5 ∷ 0 ∷ 1 ∷ 3 ∷ 1 ∷ 13 ∷ 5 ∷ 0 ∷ 1 ∷
    11 ∷ 4 ∷ 3 ∷ 1 ∷ 2 ∷ 1 ∷ 15 ∷ 5 ∷ 7 ∷ 3 ∷ 2 ∷ 1 ∷ []) ∷
    (answered_row 16 example_tables [] is 0 ∷ 0 ∷ []) ∷
    -- the tables' own test comes first, for no records too; then places that fall, after one that is not below n and before
    -- one, and twice, and nothing is filled in; then two places not below n, and one below the first start
    (answered_row 0 example_tables (3 ∷ 2 ∷ []) is 9 ∷ 0 ∷ []) ∷
    (answered_row 0 example_tables [] is 9 ∷ 0 ∷ []) ∷
    (answered_row 16 example_tables (99 ∷ 2 ∷ []) is 16 ∷ 1 ∷ []) ∷
    (answered_row 16 example_tables (3 ∷ 2 ∷ 99 ∷ []) is 16 ∷ 1 ∷ []) ∷
    (answered_row 16 example_tables (5 ∷ 3 ∷ 1 ∷ []) is 16 ∷ 1 ∷ []) ∷
    (left_row 16 example_tables (3 ∷ 2 ∷ []) is 3 ∷ 9 ∷ 9 ∷ 9 ∷ 9 ∷ 9 ∷ 2 ∷ 9 ∷ 9 ∷ 9 ∷ 9 ∷ 9 ∷ []) ∷
    (answered_row 16 example_tables (3 ∷ 16 ∷ 20 ∷ []) is 11 ∷ 16 ∷ []) ∷
    (answered_row 16 (tables (2 ∷ 4 ∷ []) (10 ∷ 8 ∷ []) (0 ∷ 0 ∷ []) (2 ∷ 12 ∷ [])) (1 ∷ 3 ∷ []) is 11 ∷ 1 ∷ []) ∷
    -- intervals 1 and 3 cannot be left: 16 and 11 of a later record come first; 12 with the lower one; and records that
    -- lie elsewhere are answered. A move that would reach n
    (answered_row 16 lost_holder (3 ∷ 2 ∷ []) is 16 ∷ 1 ∷ []) ∷
    (answered_row 16 lost_holder (2 ∷ 3 ∷ 99 ∷ []) is 11 ∷ 99 ∷ []) ∷
    (answered_row 16 lost_holder (0 ∷ 3 ∷ 7 ∷ []) is 12 ∷ 1 ∷ []) ∷
    (answered_row 16 lost_holder (0 ∷ 1 ∷ 4 ∷ []) is 0 ∷ 2 ∷ []) ∷
    (answered_row 15 (measured_by (2 ∷ 2 ∷ 2 ∷ 2 ∷ 4 ∷ 3 ∷ [])) (0 ∷ 1 ∷ []) is 12 ∷ 0 ∷ []) ∷
    -- the length of interval 4 is wrong: find and inverse test all of them before the place, and questions before places that fall;
    -- the lowest is given
    (found_row (find_of 16 wrong_four 11) is 12 ∷ 4 ∷ []) ∷
    (found_row (find_of 16 wrong_four 99) is 12 ∷ 4 ∷ []) ∷
    (found_row (find_of 16 (measured_by (2 ∷ 2 ∷ 2 ∷ 1 ∷ 5 ∷ 4 ∷ [])) 99) is 12 ∷ 3 ∷ []) ∷
    (found_row (find_of 16 (measured_by (2 ∷ 2 ∷ 2 ∷ 2 ∷ 4 ∷ 3 ∷ [])) 0) is 12 ∷ 5 ∷ []) ∷
    (found_row (find_of 16 (measured_by (2 ∷ 2 ∷ 2 ∷ 2 ∷ 4 ∷ [])) 11) is 9 ∷ 0 ∷ []) ∷
    (found_row (find_of 16 listed_tables 11) is 0 ∷ 4 ∷ []) ∷
    (found_row (find_of 16 listed_tables 12) is 0 ∷ 5 ∷ []) ∷
    (inverted_row (inverse_of 16 wrong_four 9) is 12 ∷ 4 ∷ []) ∷
    (answered_row 16 wrong_four (3 ∷ 2 ∷ []) is 12 ∷ 4 ∷ []) ∷
    (answered_row 16 wrong_four [] is 12 ∷ 4 ∷ []) ∷
    (left_row 16 wrong_four (3 ∷ []) is 3 ∷ 9 ∷ 9 ∷ 9 ∷ 9 ∷ 9 ∷ []) ∷
    -- a move from interval 4 is refused before its place is tested, one that leads there is made, and the next one is refused; a
    -- bookmark stays there; an interval's weight reads its own length alone, and so do the starts under its image
    (moved_row (move_of 16 wrong_four 4 11) is 12 ∷ 4 ∷ []) ∷
    (moved_row (move_of 16 wrong_four 4 99) is 12 ∷ 4 ∷ []) ∷
    (moved_row (move_of 16 wrong_four 3 7) is 0 ∷ 9 ∷ 4 ∷ 1 ∷ 1 ∷ []) ∷
    (moved_row (moves_of 16 wrong_four 0 4 99) is 12 ∷ 4 ∷ []) ∷
    (moved_row (moves_of 16 wrong_four 2 5 14) is 0 ∷ 8 ∷ 4 ∷ 0 ∷ 3 ∷ []) ∷
    (moved_row (moves_of 16 wrong_four 3 5 14) is 12 ∷ 4 ∷ []) ∷
    (trail_row (served_trail 16 wrong_four 3 (fresh 14 5 999)) is
    0 ∷ 6 ∷ 3 ∷ 0 ∷ 2 ∷ 6 ∷ 3 ∷ 0 ∷ 1 ∷ 2 ∷ 0 ∷ 8 ∷ 4 ∷ 0 ∷ 1 ∷ 8 ∷ 4 ∷ 0 ∷ 2 ∷ 3 ∷ 12 ∷ 4 ∷ 8 ∷ 4 ∷ 0 ∷ 2 ∷ 3 ∷ []) ∷
    (found_row (weight_of 16 wrong_four 4) is 12 ∷ 4 ∷ []) ∷
    (found_row (weight_of 16 wrong_four 5) is 0 ∷ 2 ∷ []) ∷
    (stretched_row (under_of 16 wrong_four 4) is 12 ∷ 4 ∷ []) ∷
    -- starts that fall, or stand twice: no length is right there, and an interval that has a right one can be left
    (moved_row (move_of 16 mixed_starts 1 9) is 12 ∷ 1 ∷ []) ∷
    (moved_row (move_of 16 (tables (0 ∷ 4 ∷ 4 ∷ []) (0 ∷ 4 ∷ 8 ∷ []) (0 ∷ 1 ∷ 2 ∷ []) (4 ∷ 0 ∷ 12 ∷ [])) 1 4) is 12 ∷ 1 ∷ []) ∷
    (moved_row (move_of 16 mixed_starts 2 9) is 0 ∷ 9 ∷ 2 ∷ 5 ∷ 3 ∷ []) ∷
    (answered_row 16 mixed_starts (0 ∷ 5 ∷ 9 ∷ 13 ∷ []) is 12 ∷ 1 ∷ []) ∷
    -- the next list, from the identity to the last of three places; entries beyond its runs stay
    (next_row 3 single (nines 3) (nines 3) is 0 ∷ 3 ∷ 0 ∷ 1 ∷ 2 ∷ 0 ∷ 2 ∷ 1 ∷ []) ∷
    (next_row 3 (runs (0 ∷ 1 ∷ 2 ∷ []) (0 ∷ 2 ∷ 1 ∷ [])) (nines 3) (nines 3) is 0 ∷ 3 ∷ 0 ∷ 1 ∷ 2 ∷ 1 ∷ 0 ∷ 2 ∷ []) ∷
    (next_row 3 (runs (0 ∷ 1 ∷ 2 ∷ []) (1 ∷ 0 ∷ 2 ∷ [])) (nines 3) (nines 3) is 0 ∷ 2 ∷ 0 ∷ 2 ∷ 9 ∷ 1 ∷ 0 ∷ 9 ∷ []) ∷
    (next_row 3 (runs (0 ∷ 2 ∷ []) (1 ∷ 0 ∷ [])) (nines 3) (nines 4) is 0 ∷ 2 ∷ 0 ∷ 1 ∷ 9 ∷ 2 ∷ 0 ∷ 9 ∷ 9 ∷ []) ∷
    (next_row 3 (runs (0 ∷ 1 ∷ []) (2 ∷ 0 ∷ [])) (nines 3) (nines 3) is 0 ∷ 3 ∷ 0 ∷ 1 ∷ 2 ∷ 2 ∷ 1 ∷ 0 ∷ []) ∷
    (next_row 3 (runs (0 ∷ 1 ∷ 2 ∷ []) (2 ∷ 1 ∷ 0 ∷ [])) (nines 3) (nines 3) is 18 ∷ 0 ∷ 9 ∷ 9 ∷ 9 ∷ 9 ∷ 9 ∷ 9 ∷ []) ∷
    (lists_row (lists_from 3 (nines 3) (nines 3) 9 single) is
    0 ∷ 0 ∷ 0 ∷ 1 ∷ 2 ∷ 0 ∷ 2 ∷ 1 ∷ 0 ∷ 1 ∷ 2 ∷ 1 ∷ 0 ∷ 2 ∷
    0 ∷ 2 ∷ 1 ∷ 0 ∷ 0 ∷ 1 ∷ 2 ∷ 0 ∷ 0 ∷ 1 ∷ 2 ∷ 2 ∷ 1 ∷ 0 ∷ []) ∷
    -- of a list whose runs are not maximal; of one place; and of seven, where five values are reversed
    (next_row 4 (runs (0 ∷ 1 ∷ 2 ∷ 3 ∷ []) (0 ∷ 1 ∷ 2 ∷ 3 ∷ [])) (nines 4) (nines 4) is
    0 ∷ 3 ∷ 0 ∷ 2 ∷ 3 ∷ 9 ∷ 0 ∷ 3 ∷ 2 ∷ 9 ∷ []) ∷
    (next_row 1 single (nines 1) (nines 1) is 18 ∷ 0 ∷ 9 ∷ 9 ∷ []) ∷
    (next_row 7 (runs (0 ∷ 1 ∷ 2 ∷ 3 ∷ 4 ∷ 5 ∷ 6 ∷ []) (2 ∷ 3 ∷ 6 ∷ 5 ∷ 4 ∷ 1 ∷ 0 ∷ [])) (nines 7) (nines 7) is
    0 ∷ 5 ∷ 0 ∷ 1 ∷ 2 ∷ 4 ∷ 5 ∷ 9 ∷ 9 ∷ 2 ∷ 4 ∷ 0 ∷ 3 ∷ 5 ∷ 9 ∷ 9 ∷ []) ∷
    -- 6 before 17, 17 before 8 and before any place is looked at, 8 with n before 18
    (next_row 8 (halves (0 ∷ 1 ∷ [])) [] [] is 6 ∷ 0 ∷ []) ∷
    (next_row 8 single [] [] is 17 ∷ 8 ∷ []) ∷
    (next_row 4294967295 furthest_down [] [] is 17 ∷ 4294967295 ∷ []) ∷
    (next_row 2 (runs (0 ∷ 1 ∷ []) (1 ∷ 0 ∷ [])) (nines 1) (nines 2) is 8 ∷ 2 ∷ 9 ∷ 9 ∷ 9 ∷ []) ∷
    (next_row 3 single (nines 3) (nines 2) is 8 ∷ 3 ∷ 9 ∷ 9 ∷ 9 ∷ 9 ∷ 9 ∷ []) ∷
    -- how large the example will be: K and the cuts; 8 with B, and nothing changed
    (forecast_row 16 example 2 12 is 0 ∷ 6 ∷ 1 ∷ zeros 10 2) ∷
    (forecast_row 16 example 2 9 is 8 ∷ 10 ∷ nines 9) ∷
    -- the least degree for 6, 5 and 4 entries; as many zeros as d 2 asks for
    (degree_row 16 example 6 12 is 0 ∷ 2 ∷ 6 ∷ zeros 10 2) ∷
    (degree_row 16 example 5 12 is 0 ∷ 3 ∷ 5 ∷ zeros 10 2) ∷
    (degree_row 16 example 4 12 is 19 ∷ 4 ∷ zeros 10 2) ∷
    -- balancing into tables of 9 with a working table of 10; into one table too short for K; and a short working table first
    (balance_row 16 example 2 9 9 9 9 10 is
    0 ∷ 6 ∷ 0 ∷ 2 ∷ 4 ∷ 6 ∷ 8 ∷ 12 ∷ 9 ∷ 9 ∷ 9 ∷ 14 ∷ 12 ∷ 10 ∷ 8 ∷ 0 ∷ 4 ∷ 9 ∷ 9 ∷ 9 ∷
    5 ∷ 5 ∷ 4 ∷ 4 ∷ 0 ∷ 2 ∷ 9 ∷ 9 ∷ 9 ∷ 2 ∷ 2 ∷ 2 ∷ 2 ∷ 4 ∷ 4 ∷ 9 ∷ 9 ∷ 9 ∷ zeros 10 0) ∷
    (balance_row 16 example 2 6 6 5 6 12 is 8 ∷ 6 ∷ (nines 23 ++ zeros 10 2)) ∷
    (balance_row 16 example 2 6 6 6 5 12 is 8 ∷ 6 ∷ (nines 23 ++ zeros 10 2)) ∷
    (balance_row 16 example 2 5 5 5 5 9 is 8 ∷ 10 ∷ nines 29) ∷
    -- at d 64 B and K are both 5: the two refusals look alike, and only that by K clears the working table
    (balance_row 16 example 64 5 5 5 4 6 is 8 ∷ 5 ∷ (nines 19 ++ zeros 5 1)) ∷
    (balance_row 16 example 64 5 5 5 4 4 is 8 ∷ 5 ∷ nines 23) ∷
    []

pub keys_hold : map computed keys ≡ map given keys
unfolding judge map_done and_then unmatched unordered out_of_range overlap overlaps list_tests tests_up_to misshapen mismatch outside unheld broken passed found_at unfindable starts_read walk_count step_to step_of find_of move_of onwards moves_of plain_move plain_moves sends source_of inverse_of unplaced under_first under_count weight_of under_of overflows bookmark_of mark_after marking_of served_trail falls_at unfindable_at broken_at answers_of filled_in records_after cutting balanced filled breaks maximal_runs values_of last_ascent last_above changed successor falls next_runs next_of lists_from planned_of cleared_by forecast_of least_degree_of balance_of filled_tables
keys_hold = refl

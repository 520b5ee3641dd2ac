-- The three demands, in our words, and what is promised of the forecast beside them. Their proofs are in proofs/, apart from what
-- they say. That every call stays in bounds and ends is what the checker proves of each function; here stands what its contract's
-- definitions come to. What is promised of legal lists beside them stands in lists/specs/LegalLists, of small lists in
-- permutations/specs/SmallLists, and of long files in listings/specs/Listing.
use Rattle.std.specs.Prelude.{ℕ, suc, ◌+◌, ◌*◌, ◌^◌, ◌≤◌, ◌<◌, ◌≡◌, true, false, ◌↔◌, ◌⊎◌, List, [], ◌∷◌, ◌++◌, map, length, replicate, Result}
use Rattle.outcomes.specs.Refusal.{says}
use Rattle.outcomes.specs.declared.Refusal.{Refusal}
use Rattle.questions.specs.declared.Unanswered.{Unanswered}
use Rattle.order.specs.Lists.{All, Strict}
use Rattle.outcomes.specs.Outcome.{done, refused, any_short, Long, over}
use Rattle.runs.specs.Runs.{Runs, count_of, start_of, run_at, map_of, power_of, carry_back}
use Rattle.runs.specs.Legal.{Legal, DisjointIntervals, IntervalSequence, SplitPermutation}
use Rattle.runs.specs.Weight.{under, weight}
use Rattle.runs.specs.Check.{max_runs, check_tests, check_of, write_tests}
use Rattle.lists.specs.Inverse.{inverse_runs, inverse_list_of, InverseListed}
use Rattle.permutations.specs.Next.{next_tests, next_runs, next_of, NextListed}
use Rattle.tables.specs.Tables.{Tables, size_of, links_of, lengths_of, tables_of, max_intervals, all_columns, misshapen, wrong_at, all_lengths}
use Rattle.tables.specs.Parts.{Measured}
use Rattle.walks.specs.Move.{find_tests, locate_tests, move_tests, found_at, step_of, stay_at, find_of, move_of, moves_of, Stopped, ReadsTo, LiesIn}
use Rattle.preimages.specs.Inverse.{source_of, inverse_tests, inverse_of}
use Rattle.weights.specs.Under.{under_tests, under_count, weight_of, under_at, under_of, starts_under_of}
use Rattle.walks.specs.Linked.{linked_find, linked_move, linked_moves}
use Rattle.walks.specs.declared.Step.{Step}
use Rattle.bookmarks.specs.Bookmark.{bookmark_tests, bookmark_of, fresh, with_distance, Advances, marking, marked_says, marking_of}
use Rattle.bookmarks.specs.declared.Bookmark.{Bookmark}
use Rattle.bookmarks.specs.declared.Marked.{Marked}
use Rattle.questions.specs.Questions.{answered_says, places_of, place_at, question_tests, found_last, answers_of, filled_in, records_after, Answers}
use Rattle.questions.specs.Agree.{Agrees, OnePass}
use Rattle.questions.specs.Plain.{plain_answers, plain_question}
use Rattle.questions.specs.declared.Question.{Question}
use Rattle.cuts.specs.Balance.{cutting, balanced, bound_of, size_at}
use Rattle.plans.specs.Working.{working_size, plan_tests, planned_of}
use Rattle.balance.specs.Lent.{Lent, lent_columns, Room, first_of, balance_tests, balance_of, Balances}
use Rattle.forecasts.specs.Sizing.{forecast_at, forecast_of, Forecasts}
use Rattle.forecasts.specs.declared.BalancedSize.{BalancedSize}
use Rattle.forecasts.specs.Seeking.{least_at, degree_tests, least_degree_of, Seeks}
use Rattle.forecasts.specs.declared.LeastDegree.{LeastDegree}
use Rattle.files.specs.Words.{header_of}
use Rattle.files.specs.File.{file_tests, file_of}
use Rattle.files.specs.Right.{RightFile}
use Rattle.files.specs.declared.Header.{Header}
use Rattle.demands.specs.Judged.{Judged}
use Rattle.demands.specs.Calls.{Call, total, moves_in, all_moves, count_of_move, count_in, all_counts, Bounded}
use Rattle.walks.specs.Plain.{max_count, plain_move, plain_moves}
use Rattle.demands.specs.PlainWalk.{plain_walk, walk_counts, plain_trail, standing}
use Rattle.demands.specs.Served.{served, Made, call_of, reply_of, InTurn, served_trail, Advancing}

-- DEMAND 1. Whatever numbers stand in a list, a file, tables, a bookmark or questions, a call does its work or gives the
-- number of the first condition that applies, in an order that is fixed; and a refused call leaves all that was lent as it
-- was, but for the working table after two refusals, 8 with K in balancing and 19 in the search for a degree. The numbers are 1
-- to 15, 16 for questions, 17 and 18 for the next list, and 19 for that search.

-- A working table after a call at degree d that was refused. Where the tests up to its own refuse the list, the degree or this
-- table, it is as it was. Where they pass, the refusal is the one named, `number` with `place`, and its first B entries are 0.
abbrev pub KeptUnless : ℕ → ℕ → ℕ → Runs → ℕ → List ℕ → List ℕ → (given at : ℕ) → Type 0
KeptUnless number place n r d entry exit given at =
    ((planned_of n r d (length entry) ≡ refused given at) × (exit ≡ entry))
    ⊎ ((planned_of n r d (length entry) ≡ done tt) × (given ≡ number) × (at ≡ place)
    × (exit ≡ over (replicate (working_size d (count_of r)) 0) entry))

pub record Demand1 : Type 0 where
  pub check : (n : ℕ) (r : Runs) → Judged (1 ∷ 2 ∷ 3 ∷ 4 ∷ 5 ∷ 6 ∷ []) (check_tests n r) tt (check_of n r)
  pub inverse_list : (n : ℕ) (r : Runs) (a b : List ℕ)
      → Judged (1 ∷ 2 ∷ 3 ∷ 4 ∷ 5 ∷ 6 ∷ 8 ∷ []) (write_tests n r (a ∷ b ∷ [])) (inverse_runs r) (inverse_list_of n r a b)
  pub balance : (n : ℕ) (r : Runs) (d : ℕ) (l : Lent)
      → Judged (1 ∷ 2 ∷ 3 ∷ 4 ∷ 5 ∷ 6 ∷ 7 ∷ 8 ∷ 8 ∷ []) (balance_tests n r d l) (tables_of n (balanced d n r)) (balance_of n r d l)
  pub forecast : (n : ℕ) (r : Runs) (d room : ℕ)
      → Judged (1 ∷ 2 ∷ 3 ∷ 4 ∷ 5 ∷ 6 ∷ 7 ∷ 8 ∷ []) (plan_tests n r d room) (forecast_at n r d) (forecast_of n r d room)
  pub least_degree : (n : ℕ) (r : Runs) (entries room : ℕ)
      → Judged (1 ∷ 2 ∷ 3 ∷ 4 ∷ 5 ∷ 6 ∷ 8 ∷ 19 ∷ []) (degree_tests n r entries room) (least_at n r entries) (least_degree_of n r entries room)
  -- find, inverse and questions test all lengths right after 9: that is the first 12
  pub find : (n : ℕ) (t : Tables) (i : ℕ)
      → Judged (9 ∷ 12 ∷ 11 ∷ []) (find_tests n t i) (found_at t.links i) (find_of n t i)
  -- a move tests the length of its interval between 10 and 11: the first of two 12s
  pub move : (n : ℕ) (t : Tables) (x i : ℕ)
      → Judged (9 ∷ 10 ∷ 12 ∷ 11 ∷ 12 ∷ []) (move_tests n t x i) (step_of t.links x i) (move_of n t x i)
  -- a repeated move of no moves; any other is refused exactly where that one is, or where it cannot leave an interval on
  -- the way
  pub no_move : (n : ℕ) (t : Tables) (x i : ℕ)
      → Judged (9 ∷ 10 ∷ 12 ∷ 11 ∷ []) (locate_tests n t x i) (stay_at t.links.list.starts x i) (moves_of n t 0 x i)
  pub moves : (n : ℕ) (t : Tables) (m x i k p : ℕ)
      → (moves_of n t m x i ≡ refused k p) ↔ ((moves_of n t 0 x i ≡ refused k p) ⊎ Stopped n t m x i k p)
  pub inverse : (n : ℕ) (t : Tables) (j : ℕ)
      → Judged (9 ∷ 12 ∷ 11 ∷ 14 ∷ []) (inverse_tests n t j)
      (record { place = carry_back t.links.list (source_of t j) j; interval = source_of t j }) (inverse_of n t j)
  -- 12 of the length, and of the rest
  pub weight : (n : ℕ) (t : Tables) (x : ℕ)
      → Judged (9 ∷ 10 ∷ 12 ∷ 12 ∷ []) (under_tests n t x) (under_count t x) (weight_of n t x)
  -- starts under: where they stand and how many they are, by the same tests; handed back, they are those entries by definition,
  -- none where the weight is refused, and else as many as it says
  pub under : (n : ℕ) (t : Tables) (x : ℕ)
      → Judged (9 ∷ 10 ∷ 12 ∷ 12 ∷ []) (under_tests n t x) (under_at t x) (under_of n t x)
  pub under_refused : (n : ℕ) (t : Tables) (x k p : ℕ) → weight_of n t x ≡ refused k p → starts_under_of n t x ≡ []
  pub under_size : (n : ℕ) (t : Tables) (x w : ℕ) → weight_of n t x ≡ done w → length (starts_under_of n t x) ≡ w
  pub bookmark : (n : ℕ) (t : Tables) (b : Bookmark)
      → Judged (9 ∷ 10 ∷ 12 ∷ 11 ∷ 12 ∷ 13 ∷ []) (bookmark_tests n t b) (step_of t.links b.interval b.place)
      (bookmark_of n t b)
  -- questions together: 16 before 11, and each over all records before the next
  pub questions : (n : ℕ) (t : Tables) (ps : List ℕ)
      → Judged (9 ∷ 12 ∷ 16 ∷ 11 ∷ 12 ∷ []) (question_tests n t ps) (found_last t.links ps (length ps)) (answers_of n t ps)
  -- Which of two 12s is meant, told for itself: where a length is wrong in tables of the right shape, that is what is given, whatever
  -- the place, the number of moves or the records. Of all lengths it is the lowest, and else that of the interval handed in.
  pub find_wrong : (n : ℕ) (t : Tables) → misshapen n t ≡ false → (all_lengths n t).applies ≡ true
      → (i : ℕ) → find_of n t i ≡ refused 12 (all_lengths n t).place
  pub inverse_wrong : (n : ℕ) (t : Tables) → misshapen n t ≡ false → (all_lengths n t).applies ≡ true
      → (j : ℕ) → inverse_of n t j ≡ refused 12 (all_lengths n t).place
  pub questions_wrong : (n : ℕ) (t : Tables) → misshapen n t ≡ false → (all_lengths n t).applies ≡ true
      → (ps : List ℕ) → answers_of n t ps ≡ refused 12 (all_lengths n t).place
  pub move_wrong : (n : ℕ) (t : Tables) (x : ℕ) → misshapen n t ≡ false → x < size_of t.links → wrong_at n t x ≡ true
      → (i : ℕ) → move_of n t x i ≡ refused 12 x
  pub moves_wrong : (n : ℕ) (t : Tables) (x : ℕ) → misshapen n t ≡ false → x < size_of t.links → wrong_at n t x ≡ true
      → (m i : ℕ) → moves_of n t m x i ≡ refused 12 x
  pub weight_wrong : (n : ℕ) (t : Tables) (x : ℕ) → misshapen n t ≡ false → x < size_of t.links → wrong_at n t x ≡ true
      → weight_of n t x ≡ refused 12 x
  pub under_wrong : (n : ℕ) (t : Tables) (x : ℕ) → misshapen n t ≡ false → x < size_of t.links → wrong_at n t x ≡ true
      → under_of n t x ≡ refused 12 x
  pub bookmark_wrong : (n : ℕ) (t : Tables) (b : Bookmark) → misshapen n t ≡ false → b.interval < size_of t.links
      → wrong_at n t b.interval ≡ true → bookmark_of n t b ≡ refused 12 b.interval
  -- the next list: its own 17 and 18, and 8 between them
  pub next_list : (n : ℕ) (r : Runs) (a b : List ℕ)
      → Judged (1 ∷ 2 ∷ 3 ∷ 4 ∷ 5 ∷ 6 ∷ 17 ∷ 8 ∷ 18 ∷ []) (next_tests n r a b) (next_runs n r) (next_of n r a b)
  -- a file has an order of its own
  pub file : (most : ℕ) (bytes : List ℕ)
      → Judged (15 ∷ 1 ∷ 2 ∷ 15 ∷ 15 ∷ 15 ∷ 3 ∷ 4 ∷ 5 ∷ 6 ∷ 7 ∷ []) (file_tests most bytes) (header_of bytes) (file_of most bytes)
  -- what is lent, after a refusal
  pub inverse_list_kept : (n : ℕ) (r : Runs) (a b a' b' : List ℕ) (o : Result (Unit {0}) Refusal) → InverseListed n r a b a' b' o
      → (k p : ℕ) → says o ≡ refused k p → (a' ≡ a) × (b' ≡ b)
  -- of balancing: the four tables, always; the working table unless the refusal is 8 with K
  pub balance_kept : (n : ℕ) (r : Runs) (d : ℕ) (entry exit : Lent) (o : Result ℕ Refusal) → Balances n r d entry exit o
      → (k p : ℕ) → says o ≡ refused k p
      → (exit.tables ≡ entry.tables) × KeptUnless 8 (size_at n r d) n r d entry.working exit.working k p
  pub forecast_kept : (n : ℕ) (r : Runs) (d : ℕ) (entry exit : List ℕ) (o : Result BalancedSize Refusal) → Forecasts n r d entry exit o
      → (k p : ℕ) → says o ≡ refused k p → exit ≡ entry
  -- of the search, whose working table is that of degree 2: the same unless it is 19
  pub least_degree_kept : (n : ℕ) (r : Runs) (entries : ℕ) (entry exit : List ℕ) (o : Result LeastDegree Refusal) → Seeks n r entries entry exit o
      → (k p : ℕ) → says o ≡ refused k p → KeptUnless 19 entries n r 2 entry exit k p
  pub bookmark_kept : (n : ℕ) (t : Tables) (b : Bookmark) (m : Result Step Refusal) (left : Bookmark) → Advances n t b m left
      → (k p : ℕ) → says m ≡ refused k p → left ≡ b
  pub next_list_kept : (n : ℕ) (r : Runs) (a b a' b' : List ℕ) (x : Result ℕ Refusal) → NextListed n r a b a' b' x
      → (k p : ℕ) → says x ≡ refused k p → (a' ≡ a) × (b' ≡ b)
  pub questions_kept : (n : ℕ) (t : Tables) (qs : List Question) (a : Result ℕ Unanswered) (left : List Question) → Answers n t qs a left
      → (k p : ℕ) → answered_says a ≡ refused k p → left ≡ qs

-- DEMAND 2. The lists that are accepted are the disjoint interval sequences, as Nishimoto and Tabei define them, of at most
-- 16,384 runs. Find, moves, repeated moves, bookmarks, inverse and questions together through their tables give the
-- sequence's function.

-- the walks through the tables of the list t give the function of the list r
pub record Through (n : ℕ) (r t : Runs) : Type 0 where
  -- no test of a length applies to them
  pub lengths : (x : ℕ) → x < count_of t → wrong_at n (tables_of n t) x ≡ false
  pub find : (p : ℕ) → p < n → find_of n (tables_of n t) p ≡ done (run_at n t p)
  pub move : (p : ℕ) → p < n → move_of n (tables_of n t) (run_at n t p) p ≡ done (plain_move n r t p)
  pub moves : (m p : ℕ) → p < n
      → (moves_of n (tables_of n t) m (run_at n t p) p ≡ done (plain_moves n r t m p)) × ((plain_moves n r t m p).place ≡ power_of n r m p)
  -- a bookmark at p whose counters have room, with any distance g: its answer, and the bookmark that is left
  pub bookmark : (p g m c : ℕ) → p < n → m + 1 < 2 ^ 32 → c + (plain_move n r t p).count < 2 ^ 64
      → marking_of n (tables_of n t) (with_distance g (standing n r t p m c))
      ≡ marking (done (plain_move n r t p)) (standing n r t (map_of n r p) (m + 1) (c + (plain_move n r t p).count))
  -- m moves of one that is fresh at p, with any distance g: each answer, and the bookmark after it; the same of calls of `advance` by
  -- their contract. The last of m + 1 leads from the place that m moves reach to the next, as long as the counter of moves has room.
  -- The counter of starts then has room too.
  pub trail : (m p g : ℕ) → p < n → served_trail n (tables_of n t) m (fresh p (run_at n t p) g) ≡ plain_trail n r t m p 0 0
  pub advances : (p g : ℕ) → p < n → (ms : List Marked) → Advancing n (tables_of n t) (fresh p (run_at n t p) g) ms
      → map marked_says ms ≡ plain_trail n r t (length ms) p 0 0
  pub trail_end : (m p : ℕ) → suc m < 2 ^ 32
      → plain_trail n r t (suc m) p 0 0
      ≡ plain_trail n r t m p 0 0
      ++ (marking (done (plain_move n r t (power_of n r m p)))
      (standing n r t (power_of n r (suc m) p) (suc m) (plain_moves n r t (suc m) p).count) ∷ [])
  pub inverse : (p : ℕ) → p < n
      → inverse_of n (tables_of n t) (map_of n r p) ≡ done (record { place = p; interval = run_at n t p })
  -- the size that weight gives is the weight of t's interval, and the starts handed back are those under its image
  pub weighs : (x : ℕ) → x < count_of t → weight_of n (tables_of n t) x ≡ done (weight n t x)
  pub handed : (x : ℕ) → x < count_of t → starts_under_of n (tables_of n t) x ≡ under n t x
  -- questions together: the answer, and the records left, filled in by the function of r and the starts of t; the only refusals
  -- are those of places that fall or are not below n
  pub questions : (ps : List ℕ) → answers_of n (tables_of n t) ps ≡ plain_answers n t ps
  pub records : (qs : List Question)
      → records_after (filled_in (links_of n t)) (answers_of n (tables_of n t) (places_of qs)) qs
      ≡ records_after (plain_question n r t) (plain_answers n t (places_of qs)) qs
  -- the function maps the places one to one onto themselves
  pub onto : (q : ℕ) → q < n → (p : ℕ) × (p < n) × (map_of n r p ≡ q)
  pub inside : (p : ℕ) → p < n → map_of n r p < n
  pub one_to_one : (p q : ℕ) → p < n → q < n → map_of n r p ≡ map_of n r q → p ≡ q

pub record Demand2 : Type 0 where
  pub accepted : (n : ℕ) (r : Runs) → (check_of n r ≡ done tt) ↔ ((count_of r ≤ max_runs) × IntervalSequence n r)
  -- the same in the words of source document 002
  pub accepted_disjoint : (n : ℕ) (r : Runs) → (check_of n r ≡ done tt) ↔ ((count_of r ≤ max_runs) × DisjointIntervals n r)
  -- and in those of source document 001: the list splits a permutation, which is then its function
  pub accepted_split : (n : ℕ) (r : Runs)
      → (check_of n r ≡ done tt) ↔ ((count_of r ≤ max_runs) × ((π : ℕ → ℕ) × SplitPermutation n π r))
  pub split_function : (n : ℕ) (π : ℕ → ℕ) (r : Runs) → SplitPermutation n π r → (p : ℕ) → p < n → map_of n r p ≡ π p
  -- a file is accepted if and only if its header, its list and its degree are right; its header is then given
  pub accepted_file : (bytes : List ℕ) (h : Header) → (file_of max_runs bytes ≡ done h) ↔ ((h ≡ header_of bytes) × RightFile bytes)
  pub own_tables : (n : ℕ) (r : Runs) → check_of n r ≡ done tt → Through n r r
  -- so it is of each legal list whose tables pass 9, which has up to 32,768 runs
  pub legal_tables : (n : ℕ) (r : Runs) → Legal n r → count_of r ≤ max_intervals → Through n r r
  pub balanced_tables : (n : ℕ) (r : Runs) (d : ℕ) → check_of n r ≡ done tt → 2 ≤ d → d ≤ 64 → Through n r (balanced d n r)
  -- The count that a move answers, on any tables: the index of the interval reached minus the holder, which is not above it, and one
  -- more unless that interval is the table's last. So it is for a bookmark, which adds it to its own, and for a question's record; a
  -- repeated move's is the sum (`onwards`).
  pub move_reads : (n : ℕ) (t : Tables) (x i : ℕ) (s : Step) → move_of n t x i ≡ done s → ReadsTo t.links x s.interval s.count
  pub bookmark_reads : (n : ℕ) (t : Tables) (b : Bookmark) (m : Result Step Refusal) (left : Bookmark) → Advances n t b m left
      → (s : Step) → says m ≡ done s
      → ReadsTo t.links b.interval s.interval s.count × (left.count ≡ b.count + s.count)
  pub questions_read : (n : ℕ) (t : Tables) (qs : List Question) (a : Result ℕ Unanswered) (left : List Question) → Answers n t qs a left
      → (c : ℕ) → answered_says a ≡ done c → All (λ q. ReadsTo t.links q.interval q.to_interval q.count) left
  -- The distance that a call answers, on any tables: the interval reached is one of the table's, its start is not above the place
  -- reached, the difference is exact, and it is below the interval's length as the starts tell it. A bookmark holds the same from
  -- its first move on.
  pub move_distance : (n : ℕ) (t : Tables) (x i : ℕ) (s : Step) → move_of n t x i ≡ done s
      → LiesIn n t.links s.interval s.place s.distance
  pub moves_distance : (n : ℕ) (t : Tables) (m x i : ℕ) (s : Step) → moves_of n t m x i ≡ done s
      → LiesIn n t.links s.interval s.place s.distance
  pub bookmark_distance : (n : ℕ) (t : Tables) (b : Bookmark) (m : Result Step Refusal) (left : Bookmark) → Advances n t b m left
      → (s : Step) → says m ≡ done s
      → LiesIn n t.links s.interval s.place s.distance × LiesIn n t.links left.interval left.place left.distance
  pub questions_distance : (n : ℕ) (t : Tables) (qs : List Question) (a : Result ℕ Unanswered) (left : List Question) → Answers n t qs a left
      → (c : ℕ) → answered_says a ≡ done c → All (λ q. LiesIn n t.links q.to_interval q.to_place q.distance) left
  -- the one that a bookmark held before is not read, on any tables: with any other the answer is the same, and where the move is
  -- made, so is the bookmark that it leaves
  pub distance_unread : (n : ℕ) (t : Tables) (b : Bookmark) (g : ℕ) → bookmark_of n t (with_distance g b) ≡ bookmark_of n t b
  pub distance_forgotten : (n : ℕ) (t : Tables) (b : Bookmark) (g : ℕ) (s : Step) → bookmark_of n t b ≡ done s
      → marking_of n t (with_distance g b) ≡ marking_of n t b
  -- questions that are answered together, on any tables: each record agrees with find and move done alone
  pub questions_agree : (n : ℕ) (t : Tables) (qs : List Question) (a : Result ℕ Unanswered) (left : List Question) → Answers n t qs a left
      → (c : ℕ) → answered_says a ≡ done c → All (Agrees n t) left
  -- where they are refused with 11, so is find alone for the place given, which is a record's; where with 12, so is find alone for
  -- every place, by the lengths, or a move alone from a record's place and the interval given, which find gives for it
  pub questions_unfound : (n : ℕ) (t : Tables) (qs : List Question) (a : Result ℕ Unanswered) (left : List Question) → Answers n t qs a left
      → (p : ℕ) → answered_says a ≡ refused 11 p
      → (j : ℕ) × (j < length (places_of qs)) × (place_at (places_of qs) j ≡ p) × (find_of n t p ≡ refused 11 p)
  pub questions_unmoved : (n : ℕ) (t : Tables) (qs : List Question) (a : Result ℕ Unanswered) (left : List Question) → Answers n t qs a left
      → (x : ℕ) → answered_says a ≡ refused 12 x
      → ((i : ℕ) → find_of n t i ≡ refused 12 x)
      ⊎ ((j : ℕ) × (j < length (places_of qs)) × (find_of n t (place_at (places_of qs) j) ≡ done x)
      × (move_of n t x (place_at (places_of qs) j) ≡ refused 12 x))
  -- where they are answered, one pass over the places finds each record's interval and counts the answer, the last one's
  pub questions_pass : (n : ℕ) (t : Tables) (qs : List Question) (a : Result ℕ Unanswered) (left : List Question) → Answers n t qs a left
      → (c : ℕ) → answered_says a ≡ done c → OnePass t.links (places_of qs) left c
  -- Lengths, on any tables of matched counts. Where all are right the starts rise and lie below n, and find and repeated moves are
  -- those through the first three columns; so is a move where that of its interval, if there is one, is right.
  pub lengths_rise : (n : ℕ) (t : Tables) → Measured n t
      → Strict t.links.list.starts × All (λ s. s < n) t.links.list.starts
  -- the starts and n then tell the lengths
  pub lengths_told : (n : ℕ) (t : Tables) → length t.lengths ≡ size_of t.links → Measured n t
      → t.lengths ≡ lengths_of n t.links.list.starts
  pub find_linked : (n : ℕ) (t : Tables) (i : ℕ) → length t.lengths ≡ size_of t.links → Measured n t
      → find_of n t i ≡ linked_find n t.links i
  pub move_linked : (n : ℕ) (t : Tables) (x i : ℕ) → length t.lengths ≡ size_of t.links
      → (x < size_of t.links → wrong_at n t x ≡ false) → move_of n t x i ≡ linked_move n t.links x i
  pub moves_linked : (n : ℕ) (t : Tables) (m x i : ℕ) → length t.lengths ≡ size_of t.links → Measured n t
      → moves_of n t m x i ≡ linked_moves n t.links m x i
  -- and repeated moves that are made are those, whatever the other lengths
  pub made_linked : (n : ℕ) (t : Tables) (m x i : ℕ) (s : Step) → length t.lengths ≡ size_of t.links
      → moves_of n t m x i ≡ done s → linked_moves n t.links m x i ≡ done s

-- DEMAND 3. An accepted list of k runs, a degree from 2 to 64, a working table of at least B entries and other tables of at least
-- K, which is at most B: balancing fits and leaves the same permutation. Any list of calls through the filled entries, refused
-- ones included, is answered as the plain walk answers it, each move reading at most 2d starts; and so for the moves of one
-- bookmark, and for questions together.

-- The tables τ serve, at degree d, the plain walk over the list r and the balanced list t, from any place p and the
-- interval of t that has it.
pub record Serves (n : ℕ) (r t : Runs) (d : ℕ) (τ : Tables) : Type 0 where
  -- they are the tables of t, so that all of demand 2 holds through them, and t has the permutation of r
  pub filled : τ ≡ tables_of n t
  pub same_permutation : (p : ℕ) → p < n → map_of n τ.links.list p ≡ map_of n r p
  -- balancing cuts runs: each start of r is a start of t
  pub cuts_only : (x : ℕ) → x < count_of r → (y : ℕ) × (y < count_of t) × (start_of t y ≡ start_of r x)
  -- "While one is heavy": at the end none is, which is the first bound of theorem 1 in source document 001. No limit on the number of
  -- cuts has ended them: with any higher one the list is the same.
  pub light : (x : ℕ) → x < count_of t → weight n t x < 2 * d
  pub unlimited : (cuts : ℕ) → count_of r ≤ cuts → cutting cuts d n r ≡ t
  -- One claim about the whole list of calls, each of which meets its contract: the answers are the plain walk's. A call counts at most
  -- 2d for each of its moves, and so do all together.
  pub same_calls : (p : ℕ) → p < n → (ms : List Made) → InTurn n τ p (run_at n t p) ms
      → map reply_of ms ≡ plain_walk n r t p (map call_of ms)
  pub call_bounds : (p : ℕ) → p < n → (ms : List Made) → InTurn n τ p (run_at n t p) ms
      → All (λ m. count_in (reply_of m) ≤ moves_in (call_of m) * max_count d) ms
  pub call_total : (p : ℕ) → p < n → (ms : List Made) → InTurn n τ p (run_at n t p) ms
      → all_counts (map reply_of ms) ≤ all_moves (map call_of ms) * max_count d
  -- the same claim over the definitions that these contracts cite
  pub same_replies : (p : ℕ) → p < n → (cs : List Call) → served n τ p (run_at n t p) cs ≡ plain_walk n r t p cs
  -- call by call: one count for each single move, those inside a repeated move too; their sum is what the reply counts
  pub move_counts : (p : ℕ) → p < n → (cs : List Call) → map length (walk_counts n r t p cs) ≡ map moves_in cs
  pub reply_counts : (p : ℕ) → p < n → (cs : List Call)
      → map count_in (served n τ p (run_at n t p) cs) ≡ map total (walk_counts n r t p cs)
  pub each_move : (p : ℕ) → p < n → (cs : List Call) → All (All (λ c. c ≤ max_count d)) (walk_counts n r t p cs)
  pub total_of_moves : (p : ℕ) → p < n → (cs : List Call) → all_counts (served n τ p (run_at n t p) cs) ≤ all_moves cs * max_count d
  -- m moves of a bookmark that is fresh at p, with any distance g: each answer, the bookmark after it, whose five numbers are the
  -- plain walk's, and the bounds of both
  pub same_trail : (p g : ℕ) → p < n → (m : ℕ) → served_trail n τ m (fresh p (run_at n t p) g) ≡ plain_trail n r t m p 0 0
  pub trail_bounds : (p g : ℕ) → p < n → (m : ℕ) → All (Bounded (max_count d)) (served_trail n τ m (fresh p (run_at n t p) g))
  pub trail_total : (p g : ℕ) → p < n → (m : ℕ)
      → total (map (λ w. count_of_move w.answer) (served_trail n τ m (fresh p (run_at n t p) g))) ≤ m * max_count d
  -- the same over the contract of `advance`: any number of calls on that one bookmark
  pub same_advances : (p g : ℕ) → p < n → (ms : List Marked) → Advancing n τ (fresh p (run_at n t p) g) ms
      → map marked_says ms ≡ plain_trail n r t (length ms) p 0 0
  pub advance_bounds : (p g : ℕ) → p < n → (ms : List Marked) → Advancing n τ (fresh p (run_at n t p) g) ms
      → All (λ m. Bounded (max_count d) (marked_says m)) ms
  pub advance_total : (p g : ℕ) → p < n → (ms : List Marked) → Advancing n τ (fresh p (run_at n t p) g) ms
      → total (map (λ m. count_of_move (says m.moved)) ms) ≤ length ms * max_count d
  -- Questions together, over the contract of `answer` and for any records: the answer, and each record as the plain walk's find
  -- and move would fill it in. Where they are answered, the count of each record, and all of them together.
  pub same_questions : (qs : List Question) (a : Result ℕ Unanswered) (left : List Question) → Answers n τ qs a left
      → (answered_says a ≡ plain_answers n t (places_of qs))
      × (left ≡ records_after (plain_question n r t) (plain_answers n t (places_of qs)) qs)
  pub question_bounds : (qs : List Question) (a : Result ℕ Unanswered) (left : List Question) → Answers n τ qs a left
      → (c : ℕ) → answered_says a ≡ done c → All (λ q. q.count ≤ max_count d) left
  pub question_total : (qs : List Question) (a : Result ℕ Unanswered) (left : List Question) → Answers n τ qs a left
      → (c : ℕ) → answered_says a ≡ done c → total (map (λ q. q.count) left) ≤ length left * max_count d

-- balancing into lent tables with this much room, and what is promised of the tables that it fills
abbrev pub BalancesFor : (ℕ → Runs → ℕ → Lent → Type 0) → Type 0
BalancesFor Enough =
    (n : ℕ) (r : Runs) (d : ℕ) (entry exit : Lent) (answer : Result ℕ Refusal)
    → Balances n r d entry exit answer
    → check_of n r ≡ done tt → 2 ≤ d → d ≤ 64 → Enough n r d entry
    → (k : ℕ) × (says answer ≡ done k) × (k ≤ bound_of d (count_of r)) × Serves n r (balanced d n r) d (first_of k exit)

-- K entries are enough; and so are B in all that is lent, which is document 01's own form
abbrev pub Demand3 : Type 0
Demand3 = BalancesFor Room × BalancesFor (λ n r d l. Long (bound_of d (count_of r)) (lent_columns l))

-- THE FORECAST of what balancing does, and the search for a degree. On each list that they accept the forecast is right: balancing
-- at that degree takes tables of K entries and no shorter ones, and what it fills has K intervals. The degree that is answered
-- fits and no lower one does; one is answered wherever one fits, and 19 is given exactly where none does.
pub record Foretold : Type 0 where
  pub forecast : (n : ℕ) (r : Runs) (d room : ℕ) → check_of n r ≡ done tt → 2 ≤ d → d ≤ 64 → working_size d (count_of r) ≤ room
      → forecast_of n r d room ≡ done (forecast_at n r d)
  -- each cut adds an interval
  pub cuts : (n : ℕ) (r : Runs) (d room : ℕ) (f : BalancedSize) → forecast_of n r d room ≡ done f → f.intervals ≡ count_of r + f.cuts
  -- balancing with a working table of B entries, into tables of as many as were forecast, or of which one has fewer
  pub balancing : (n : ℕ) (r : Runs) (d room : ℕ) (f : BalancedSize) → forecast_of n r d room ≡ done f
      → (entry exit : Lent) (answer : Result ℕ Refusal) → Balances n r d entry exit answer
      → working_size d (count_of r) ≤ length entry.working
      → (Long f.intervals (all_columns entry.tables) → says answer ≡ done f.intervals)
      × (any_short f.intervals (all_columns entry.tables) ≡ true → says answer ≡ refused 8 f.intervals)
  pub least : (n : ℕ) (r : Runs) (entries room : ℕ) (a : LeastDegree) → least_degree_of n r entries room ≡ done a
      → (2 ≤ a.degree) × (a.degree ≤ 64) × (a.intervals ≡ size_at n r a.degree) × (a.intervals ≤ entries)
      × ((e : ℕ) → 2 ≤ e → e < a.degree → entries < size_at n r e)
  pub answered : (n : ℕ) (r : Runs) (entries room e : ℕ) → check_of n r ≡ done tt → working_size 2 (count_of r) ≤ room
      → 2 ≤ e → e ≤ 64 → size_at n r e ≤ entries → least_degree_of n r entries room ≡ done (least_at n r entries)
  pub none : (n : ℕ) (r : Runs) (entries room p : ℕ) → (least_degree_of n r entries room ≡ refused 19 p)
      ↔ ((check_of n r ≡ done tt) × (working_size 2 (count_of r) ≤ room) × (p ≡ entries)
      × ((e : ℕ) → 2 ≤ e → e ≤ 64 → entries < size_at n r e))

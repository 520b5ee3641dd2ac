-- Questions together, on any tables and any records (document 02, A.1, with the distance of A.2, in each record the count of A.4,
-- and the test of all lengths of A.7).
use Rattle.std.specs.Prelude.{ℕ, zero, suc, ◌-◌, ◌≡◌, Bool, Result, Ok, Err, List, [], ◌∷◌, map, length, get_or, ltb}
use Rattle.outcomes.specs.Outcome.{Outcome, done, refused, Test, test, judge}
use Rattle.outcomes.specs.Refusal.{refusal_says}
use Rattle.outcomes.specs.Search.{first_below, any_below}
use Rattle.runs.specs.Check.{lowest}
use Rattle.tables.specs.Tables.{Links, Tables, shape_test, all_lengths, broken}
use Rattle.walks.specs.Move.{found_at, unfindable, step_of}
use Rattle.walks.specs.declared.Step.{Step}
use Rattle.questions.specs.declared.Question.{Question}
use Rattle.questions.specs.declared.Unanswered.{Unanswered}
use Rattle.questions.specs.declared.Unanswered.TheVariants.{PlaceOrder, Refused}

-- the outcome that each answer is. The trade's word for 16 is unsorted.
abbrev pub unanswered_says : Unanswered → Outcome ℕ
unanswered_says (PlaceOrder i) = refused 16 i
unanswered_says (Refused r) = refusal_says r

abbrev pub answered_says : Result ℕ Unanswered → Outcome ℕ
answered_says (Ok c) = done c
answered_says (Err u) = unanswered_says u

-- the places of the records
abbrev pub places_of : List Question → List ℕ
places_of qs = map (λ (q : Question). q.place) qs

abbrev pub place_at : List ℕ → ℕ → ℕ
place_at ps i = get_or ps i 0

-- The conditions on the record at index i. 16: its place is below the one before; the first record has none before it.
unfoldable pub falls_at : List ℕ → ℕ → Bool
falls_at ps i = ltb (place_at ps i) (place_at ps (i - 1))

-- 11, as find has it
unfoldable pub unfindable_at : ℕ → Links → List ℕ → ℕ → Bool
unfindable_at n k ps i = unfindable n k.list.starts (place_at ps i)

-- 12, as a move from the place and the interval found has it once all lengths are right
unfoldable pub broken_at : ℕ → Links → List ℕ → ℕ → Bool
broken_at n k ps i = broken n k (found_at k (place_at ps i)) (place_at ps i)

-- The tests: the tables' own, which are 9 and 12 of all lengths; then 16, with the index of the lowest record that it applies to;
-- then 11 over all records, then 12 over all records, each for the lowest record that it applies to. With 11 its place is given,
-- and with 12 the interval found for it, as document 01's table has it for a single call.
abbrev pub order_test : List ℕ → Test
order_test ps = lowest 16 (falls_at ps) (length ps)

abbrev pub find_test : ℕ → Links → List ℕ → Test
find_test n k ps =
    test 11 (any_below (unfindable_at n k ps) (length ps)) (place_at ps (first_below (unfindable_at n k ps) (length ps)))

abbrev pub move_test : ℕ → Links → List ℕ → Test
move_test n k ps =
    test 12 (any_below (broken_at n k ps) (length ps)) (found_at k (place_at ps (first_below (broken_at n k ps) (length ps))))

abbrev pub question_tests : ℕ → Tables → List ℕ → List Test
question_tests n t ps = shape_test n t ∷ all_lengths n t ∷ order_test ps ∷ find_test n t.links ps ∷ move_test n t.links ps ∷ []

-- f of the last of the first k places, or 0 where k is 0; so the interval of the last of the first k records
abbrev pub last_by : (ℕ → ℕ) → List ℕ → ℕ → ℕ
last_by f ps zero = 0
last_by f ps (suc k) = f (place_at ps k)

abbrev pub found_last : Links → List ℕ → ℕ → ℕ
found_last k ps i = last_by (found_at k) ps i

-- The answer: the starts passed in finding, which is one count, equal to the last record's interval, or 0 where there is no
-- record (specs/Agree: one pass counts as many).
unfoldable pub answers_of : ℕ → Tables → List ℕ → Outcome ℕ
answers_of n t ps = judge (question_tests n t ps) (found_last t.links ps (length ps))

-- a record by its numbers: a place, the interval that has it, and a step
abbrev pub question : ℕ → ℕ → Step → Question
question p x s =
    record { place = p; interval = x; to_place = s.place; to_interval = s.interval; count = s.count; distance = s.distance }

-- A record filled in: its place, the interval that find gives, and the step of the move from there.
unfoldable pub filled_in : Links → Question → Question
filled_in k q = question q.place (found_at k q.place) (step_of k (found_at k q.place) q.place)

-- the records after an answer: each one by f, or all as they were
unfoldable pub records_after : (Question → Question) → Outcome ℕ → List Question → List Question
records_after f (done c) qs = map f qs
records_after f (refused k p) qs = qs

-- what the call promises: the answer, and the records that it leaves of qs
pub record Answers (n : ℕ) (t : Tables) (qs : List Question) (a : Result ℕ Unanswered) (left : List Question) : Type 0 where
  pub says : answered_says a ≡ answers_of n t (places_of qs)
  pub records : left ≡ records_after (filled_in t.links) (answers_of n t (places_of qs)) qs

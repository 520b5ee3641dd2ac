-- What questions together come to by a list's function and the starts of a list, with no holders: what they give through
-- the tables of a legal list (proofs/LegalQuestions).
use Rattle.std.specs.Prelude.{ℕ, Bool, List, [], ◌∷◌, length, leb}
use Rattle.outcomes.specs.Outcome.{Outcome, Test, test, judge}
use Rattle.outcomes.specs.Search.{first_below, any_below}
use Rattle.runs.specs.Runs.{Runs, run_at}
use Rattle.walks.specs.Plain.{plain_move}
use Rattle.questions.specs.declared.Question.{Question}
use Rattle.questions.specs.Questions.{place_at, last_by, order_test, question}

-- the place of the record at index i is not below n
unfoldable pub beyond : ℕ → List ℕ → ℕ → Bool
beyond n ps i = leb n (place_at ps i)

-- the interval of t that has the last of the first k places, or 0 where k is 0
abbrev pub plain_last : ℕ → Runs → List ℕ → ℕ → ℕ
plain_last n t ps k = last_by (run_at n t) ps k

abbrev pub range_test : ℕ → List ℕ → Test
range_test n ps = test 11 (any_below (beyond n ps) (length ps)) (place_at ps (first_below (beyond n ps) (length ps)))

-- The answer: 16 where a place falls, with the index of the lowest such record; else 11 where a place is not below n, with
-- the place of the lowest such record; else the interval of t that has the last place. 9 and 12 are not among its tests.
unfoldable pub plain_answers : ℕ → Runs → List ℕ → Outcome ℕ
plain_answers n t ps = judge (order_test ps ∷ range_test n ps ∷ []) (plain_last n t ps (length ps))

-- A record filled in: its place, the interval of t that has it, and the move by the function of r.
unfoldable pub plain_question : ℕ → Runs → Runs → Question → Question
plain_question n r t q = question q.place (run_at n t q.place) (plain_move n r t q.place)

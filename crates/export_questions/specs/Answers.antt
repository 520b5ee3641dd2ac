-- The answer struct for each outcome: number 0 and the count where the call is done; else the number of the refusal, what
-- is given with it, and 0 for the count.
use Rattle.std.specs.Prelude.{ℕ, ◌≡◌, List}
use Rattle.outcomes.specs.Outcome.{Outcome, done, refused}
use Rattle.tables.specs.Tables.{Tables}
use Rattle.questions.specs.Questions.{places_of, answers_of, filled_in, records_after}
use Rattle.questions.specs.declared.Question.{Question}
use Rattle.export_questions.specs.declared.QuestionsAnswer.{QuestionsAnswer}

abbrev pub questions_answer : Outcome ℕ → QuestionsAnswer
questions_answer (done c) = record { number = 0; count = c; place = 0 }
questions_answer (refused k p) = record { number = k; count = 0; place = p }

-- what the call promises: the answer, and the records that it leaves of qs
pub record AnswersHost (n : ℕ) (t : Tables) (qs : List Question) (r : QuestionsAnswer) (left : List Question)
    : Type 0 where
  pub says : r ≡ questions_answer (answers_of n t (places_of qs))
  pub records : left ≡ records_after (filled_in t.links) (answers_of n t (places_of qs)) qs

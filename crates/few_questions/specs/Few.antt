-- What becomes of few records.
use Rattle.std.specs.Prelude.{ℕ, ◌≡◌, Result, List, take, drop}
use Rattle.tables.specs.Tables.{Tables}
use Rattle.questions.specs.Questions.{Answers}
use Rattle.questions.specs.declared.Question.{Question}
use Rattle.questions.specs.declared.Unanswered.{Unanswered}

-- the first k of the records qs are answered as questions together, and the rest stay as they were
pub record AnswersFew (n : ℕ) (t : Tables) (k : ℕ) (qs : List Question) (a : Result ℕ Unanswered) (left : List Question)
    : Type 0 where
  pub asked : Answers n t (take k qs) a (take k left)
  pub kept : drop k left ≡ drop k qs

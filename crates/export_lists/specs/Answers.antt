-- The answer struct for each outcome: number 0 and the values where the call is done; else the number and the place of
-- the refusal, and 0 in every other field.
use Rattle.outcomes.specs.Outcome.{Outcome, done, refused}
use Rattle.export_lists.specs.declared.ListAnswer.{ListAnswer}

-- check and the inverse list have no values
abbrev pub list_answer : {A : Type 0} → Outcome A → ListAnswer
list_answer (done a) = record { number = 0; place = 0 }
list_answer (refused k p) = record { number = k; place = p }

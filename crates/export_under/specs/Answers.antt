-- The answer struct for each outcome: number 0, and where the stretch begins and how many starts it has, where the call is done;
-- else the number and the place of the refusal, and 0 in every other field.
use Rattle.outcomes.specs.Outcome.{Outcome, done, refused}
use Rattle.weights.specs.declared.Stretch.{Stretch}
use Rattle.export_under.specs.declared.UnderAnswer.{UnderAnswer}

abbrev pub under_answer : Outcome Stretch → UnderAnswer
under_answer (done s) = record { number = 0; place = 0; first = s.first; count = s.count }
under_answer (refused k p) = record { number = k; place = p; first = 0; count = 0 }

-- The answer struct for each outcome: number 0 and the values where the call is done; else the number and the place of
-- the refusal, and 0 in every other field.
use Rattle.std.specs.Prelude.{ℕ}
use Rattle.outcomes.specs.Outcome.{Outcome, done, refused}
use Rattle.walks.specs.declared.Step.{Step}
use Rattle.preimages.specs.declared.Source.{Source}
use Rattle.export_walks.specs.declared.IntervalAnswer.{IntervalAnswer}
use Rattle.export_walks.specs.declared.WeightAnswer.{WeightAnswer}
use Rattle.export_walks.specs.declared.MoveAnswer.{MoveAnswer}
use Rattle.export_walks.specs.declared.MovesAnswer.{MovesAnswer}

-- find gives the place that it was asked about, with its interval
abbrev pub find_answer : ℕ → Outcome ℕ → IntervalAnswer
find_answer i (done x) = record { number = 0; place = i; interval = x }
find_answer i (refused k p) = record { number = k; place = p; interval = 0 }

-- inverse gives the preimage, with its interval
abbrev pub inverse_answer : Outcome Source → IntervalAnswer
inverse_answer (done s) = record { number = 0; place = s.place; interval = s.interval }
inverse_answer (refused k p) = record { number = k; place = p; interval = 0 }

-- weight has no place
abbrev pub weight_answer : Outcome ℕ → WeightAnswer
weight_answer (done w) = record { number = 0; place = 0; weight = w }
weight_answer (refused k p) = record { number = k; place = p; weight = 0 }

abbrev pub move_answer : Outcome Step → MoveAnswer
move_answer (done s) = record { number = 0; place = s.place; interval = s.interval; distance = s.distance; count = s.count }
move_answer (refused k p) = record { number = k; place = p; interval = 0; distance = 0; count = 0 }

abbrev pub moves_answer : Outcome Step → MovesAnswer
moves_answer (done s) = record { number = 0; place = s.place; interval = s.interval; distance = s.distance; count = s.count }
moves_answer (refused k p) = record { number = k; place = p; interval = 0; distance = 0; count = 0 }

-- The answer struct for each outcome of a file's check: number 0 and what the header says where it is done; else the number and
-- the place of the refusal, and 0 in every other field.
use Rattle.outcomes.specs.Outcome.{Outcome, done, refused}
use Rattle.files.specs.declared.Header.{Header}
use Rattle.export_files.specs.declared.FileAnswer.{FileAnswer}

abbrev pub file_answer : Outcome Header → FileAnswer
file_answer (done h) = record { number = 0; place = 0; n = h.n; k = h.k; d = h.d }
file_answer (refused k p) = record { number = k; place = p; n = 0; k = 0; d = 0 }

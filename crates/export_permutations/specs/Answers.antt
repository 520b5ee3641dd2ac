-- The answer struct for each outcome: number 0 and the run count where the call is done; else the number and the place of the
-- refusal, and 0 for the count.
use Rattle.std.specs.Prelude.{ℕ, ◌≡◌, List}
use Rattle.outcomes.specs.Outcome.{Outcome, done, refused, map_done, filled}
use Rattle.runs.specs.Runs.{Runs, count_of}
use Rattle.permutations.specs.Next.{next_of}
use Rattle.export_permutations.specs.declared.RunsAnswer.{RunsAnswer}

abbrev pub runs_answer : Outcome ℕ → RunsAnswer
runs_answer (done k) = record { number = 0; place = 0; runs = k }
runs_answer (refused k p) = record { number = k; place = p; runs = 0 }

-- what a call promises that comes to the outcome o: the answer, and both lent tables at exit
pub record RunsAnswered (o : Outcome Runs) (starts images starts' images' : List ℕ) (answer : RunsAnswer) : Type 0 where
  pub says : answer ≡ runs_answer (map_done count_of o)
  pub starts_at_exit : starts' ≡ filled (λ q. q.starts) o starts
  pub images_at_exit : images' ≡ filled (λ q. q.images) o images

-- what the call of the next list promises
abbrev pub NextAnswered : ℕ → Runs → List ℕ → List ℕ → List ℕ → List ℕ → RunsAnswer → Type 0
NextAnswered n r starts images = RunsAnswered (next_of n r starts images) starts images

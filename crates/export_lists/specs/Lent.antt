-- What the export that writes promises: the answer, and of the lent tables at exit what the library promises.
use Rattle.std.specs.Prelude.{ℕ, ◌≡◌, List}
use Rattle.outcomes.specs.Outcome.{filled}
use Rattle.runs.specs.Runs.{Runs}
use Rattle.lists.specs.Inverse.{inverse_list_of}
use Rattle.export_lists.specs.Answers.{list_answer}
use Rattle.export_lists.specs.declared.ListAnswer.{ListAnswer}

pub record InverseListAnswered (n : ℕ) (r : Runs) (starts images starts' images' : List ℕ) (answer : ListAnswer)
    : Type 0 where
  pub says : answer ≡ list_answer (inverse_list_of n r starts images)
  pub starts_at_exit : starts' ≡ filled (λ q. q.starts) (inverse_list_of n r starts images) starts
  pub images_at_exit : images' ≡ filled (λ q. q.images) (inverse_list_of n r starts images) images

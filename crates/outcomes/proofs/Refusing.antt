-- Laws of answers, for a refusal that goes up by `?`.
use Rattle.std.specs.Prelude.{◌≡◌, Result, Ok, Err}
use Rattle.std.specs.Result.{IsErrAnd}
use Rattle.std.proofs.lemmas.Result.{err_from_is_err_and}
use Rattle.outcomes.specs.Outcome.{Outcome}
use Rattle.outcomes.specs.Refusal.{refusal_says, says}
use Rattle.outcomes.specs.declared.Refusal.{Refusal}

-- the answer r that `?` makes of refusal x says what x says
pub goes_up : {A : Type 0} (r : Result A Refusal) (o : Outcome A) (x : Refusal) → IsErrAnd r (λ y. y ≡ x) → refusal_says x ≡ o
    → says r ≡ o
goes_up r o x e f = let p = err_from_is_err_and r e in rw (p.1, p.2) f

-- Too many places or runs are refused; else what the check says, or what comes after it.
use Rattle.std.proofs.Common.{arith}
use Rattle.std.proofs.lemmas.Result.{err_from_is_err_and}
use Rattle.permutations.proofs.Outcomes.{listed_large, listed_more_runs, listed_refused, listed_later}
use Rattle.permutations.proofs.next_list.Goals as goal
use Rattle.permutations.proofs.next_list.Goals.{then-list-gt-MOST_PLACES-via-then-list-gt-MOST_PLACES, then-list-gt-MOST_PLACES-via-else-list-gt-MOST_PLACES+then-list-gt-MAX_PLACES}

pub returns-then-list-gt-MOST_PLACES-clause-listed : goal.returns-then-list-gt-MOST_PLACES-clause-listed
returns-then-list-gt-MOST_PLACES-clause-listed c =
    elim c.then-list-gt-MOST_PLACES.branch [
      | then-list-gt-MOST_PLACES-via-then-list-gt-MOST_PLACES w ↦
          listed_large _ _ _ _ _ c.refuse.ensures (omega arith)
      | then-list-gt-MOST_PLACES-via-else-list-gt-MOST_PLACES+then-list-gt-MAX_PLACES w ↦
          listed_more_runs _ _ _ _ _ c.refuse.ensures (omega arith) (omega arith)
    ]

pub returns-in_err-check_few-clause-listed : goal.returns-in_err-check_few-clause-listed
returns-in_err-check_few-clause-listed c =
    let p = err_from_is_err_and c.from_residual.result c.from_residual.ensures.1 in
    rw (p.1, p.2) (listed_refused _ _ _ _ _ c.in_err-check_few.ensures)

pub returns-clause-listed : goal.returns-clause-listed
returns-clause-listed c = listed_later _ _ _ _ _ _ _ c.in_ok-check_few.ensures c.next_accepted.ensures.written

-- One law for each way to return.
use Rattle.std.proofs.Common.{refl, arith}
use Rattle.runs.specs.Runs.{runs_in}
use Rattle.runs.proofs.WritesList.{starts_short, images_short}
use Rattle.folds.proofs.Heads.{folded_no_more}
use Rattle.folds.proofs.Outcomes.{fold_written}
use Rattle.folds.proofs.fold_accepted.Goals as goal
use Rattle.folds.proofs.fold_accepted.Goals.{then-to-k-via-then-to-k, then-to-k-via-else-to-k+then-to-k-2}

pub returns-then-to-k-clause-written : goal.returns-then-to-k-clause-written
returns-then-to-k-clause-written c =
    elim c.then-to-k.branch [
      | then-to-k-via-then-to-k w ↦ starts_short _ _ _ _ _ _ _ refl (omega arith)
      | then-to-k-via-else-to-k+then-to-k-2 w ↦ images_short _ _ _ _ _ _ _ refl (omega arith) (omega arith)
    ]

pub overflow_cast-result-2 : goal.overflow_cast-result-2
overflow_cast-result-2 c =
    omega (arith, c.write_folded-count.ensures.written.counted, folded_no_more (runs_in c.args.list), c.requires.1)

pub returns-clause-written : goal.returns-clause-written
returns-clause-written c = fold_written _ _ _ (omega arith) (omega arith) _ _ _ c.write_folded-count.ensures.written

-- One law for each way to return.
use Rattle.std.proofs.Common.{arith}
use Rattle.permutations.proofs.Placing.{small, values_writable}
use Rattle.permutations.proofs.Outcomes.{starts_short, images_short, later_written}
use Rattle.permutations.proofs.next_accepted.Goals as goal
use Rattle.permutations.proofs.next_accepted.Goals.{then-to-size-via-then-to-size, then-to-size-via-else-to-size+then-to-size-2}

pub returns-then-to-size-clause-written : goal.returns-then-to-size-clause-written
returns-then-to-size-clause-written c =
    elim c.then-to-size.branch [
      | then-to-size-via-then-to-size w ↦ starts_short _ _ _ _ c.requires.1 (omega arith)
      | then-to-size-via-else-to-size+then-to-size-2 w ↦ images_short _ _ _ _ c.requires.1 (omega arith) (omega arith)
    ]

pub of_places-values-requires : goal.of_places-values-requires
of_places-values-requires c = small _ _ c.requires.0 c.requires.1

pub write_next-requires : goal.write_next-requires
write_next-requires c =
    values_writable _ _ _ c.of_places-values.ensures (small _ _ c.requires.0 c.requires.1) _ _ (omega arith) (omega arith)

pub returns-clause-written : goal.returns-clause-written
returns-clause-written c =
    later_written _ _ _ _ _ _ _ _ c.requires.1 (omega arith) (omega arith) c.of_places-values.ensures c.write_next.ensures.written

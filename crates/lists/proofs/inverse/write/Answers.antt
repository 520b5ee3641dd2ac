-- Test 8 refuses, or the order by image serves both calls of `gather`.
use Rattle.std.proofs.Common.{refl, arith}
use Rattle.runs.proofs.WritesList.{starts_short, images_short}
use Rattle.lists.proofs.Writing.{ordered_gathers, written}
use Rattle.lists.proofs.inverse.write.Goals as goal
use Rattle.lists.proofs.inverse.write.Goals.{then-to-k-via-then-to-k, then-to-k-via-else-to-k+then-to-k-2}

pub returns-then-to-k-clause-listed : goal.returns-then-to-k-clause-listed
returns-then-to-k-clause-listed c =
    elim c.then-to-k.branch [
      | then-to-k-via-then-to-k w ↦ starts_short _ _ _ _ _ _ _ refl (omega arith)
      | then-to-k-via-else-to-k+then-to-k-2 w ↦ images_short _ _ _ _ _ _ _ refl (omega arith) (omega arith)
    ]

pub gather-requires : goal.gather-requires
gather-requires c =
    let o = c.requires.0 in
    ordered_gathers _ _ o _ _ o.paired (omega arith)

pub gather-requires-2 : goal.gather-requires-2
gather-requires-2 c =
    let o = c.requires.0 in
    ordered_gathers _ _ o _ _ (omega arith) (omega arith)

pub returns-clause-listed : goal.returns-clause-listed
returns-clause-listed c = written _ _ _ (omega arith) (omega arith) _ _ _ c.requires.0 c.gather.ensures c.gather-2.ensures

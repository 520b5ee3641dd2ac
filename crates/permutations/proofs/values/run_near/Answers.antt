use Rattle.std.proofs.Common.{arith}
use Rattle.permutations.proofs.Placing.{near_next}
use Rattle.permutations.proofs.values.run_near.Goals as goal

pub returns-then-list-x : goal.returns-then-list-x
returns-then-list-x c = near_next _ _ _ _ c.requires (omega arith) (omega arith)

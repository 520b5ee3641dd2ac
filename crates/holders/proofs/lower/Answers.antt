use Rattle.holders.proofs.Holding.{not_below_less}
use Rattle.holders.proofs.lower.Goals as goal

pub overflow_sub-result : goal.overflow_sub-result
overflow_sub-result c = (not_below_less _ _ _ c.requires _ c.from.ensures).0

pub returns : goal.returns
returns c = (not_below_less _ _ _ c.requires _ c.from.ensures).1

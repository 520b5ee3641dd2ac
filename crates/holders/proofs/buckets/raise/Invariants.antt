use Rattle.holders.proofs.Noting.{Raising}
use Rattle.holders.proofs.buckets.raise.Given as goal

abbrev pub invariant-loop-top : goal.invariant-loop-top
invariant-loop-top l = Raising l.fn.tops l.tops l.most l.top-index

-- The values up to p are written.
use Rattle.order.proofs.Filling.{Filling}
use Rattle.permutations.specs.Next.{changed}
use Rattle.permutations.proofs.after.change.Given as goal

abbrev pub invariant-loop-p : goal.invariant-loop-p
invariant-loop-p l = Filling (changed l.values l.ascent l.other) l.initial.after l.after l.p

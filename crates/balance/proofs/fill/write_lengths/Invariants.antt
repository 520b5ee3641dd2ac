-- The lengths of the first x intervals are written.
use Rattle.order.proofs.Filling.{Filling}
use Rattle.tables.specs.Tables.{lengths_of}
use Rattle.balance.proofs.fill.write_lengths.Given as goal

abbrev pub invariant-loop-x : goal.invariant-loop-x
invariant-loop-x l = Filling (lengths_of l.n l.starts) l.initial.to l.to l.x

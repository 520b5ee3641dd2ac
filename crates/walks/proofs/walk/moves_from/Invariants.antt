-- The place lies in its interval, and standing there is what so many moves come to.
use Rattle.walks.proofs.Moves.{Walking}
use Rattle.walks.specs.Move.{stand_at}
use Rattle.tables.specs.Tables.{tables_in}
use Rattle.walks.proofs.walk.moves_from.Given as goal

abbrev pub invariant-loop : goal.invariant-loop
invariant-loop l = Walking l.table.n (tables_in l.table) l.x l.i l.m (stand_at l.table.starts.now l.interval l.place l.count) l.counter

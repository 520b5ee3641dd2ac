-- Test 12 has seen that the holder is an interval, and starts at the image or below it.
use Rattle.std.proofs.Common.{rules}
use Rattle.weights.proofs.Stretches.{first_is}
use Rattle.tables.proofs.Passing.{held_is}
use Rattle.weights.proofs.first.Goals as goal

pub bounds-table-h : goal.bounds-table-h
bounds-table-h c = let h = held_is _ _ c.requires.held in search rules

pub one_unless_equal-requires : goal.one_unless_equal-requires
one_unless_equal-requires c = let h = held_is _ _ c.requires.held in search rules

pub returns : goal.returns
returns c = first_is _ _ _ c.one_unless_equal.ensures.0

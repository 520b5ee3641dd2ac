-- Where the values ascend, the next ones stand in `changed`, and `folds` writes their list.
use Rattle.std.proofs.Common.{arith}
use Rattle.permutations.proofs.Ascents.{found_ascent, change}
use Rattle.permutations.proofs.Writing.{written_last, written_few, written_next, ready}
use Rattle.permutations.proofs.write_next.Goals as goal

pub returns-in_default-clause-written : goal.returns-in_default-clause-written
returns-in_default-clause-written c = written_last _ _ _ c.requires c.in_default.ensures

pub last_above-other-requires : goal.last_above-other-requires
last_above-other-requires c = (found_ascent _ _ c.in-Some.ensures).1

pub change-changed-requires : goal.change-changed-requires
change-changed-requires c =
    (change _ _ _ (found_ascent _ _ c.in-Some.ensures).1 c.last_above-other.ensures, c.requires.few)

pub overflow_cast-result : goal.overflow_cast-result
overflow_cast-result c =
    let r = ready _ _ _ c.requires _ c.in-Some.ensures _ c.last_above-other.ensures _ c.change-changed.ensures in
    omega (arith, written_few _ _ _ _ r _ _ _ c.write_folded-count.ensures.written)

pub returns-clause-written : goal.returns-clause-written
returns-clause-written c =
    let r = ready _ _ _ c.requires _ c.in-Some.ensures _ c.last_above-other.ensures _ c.change-changed.ensures in
    written_next _ _ _ _ r _ _ _ c.write_folded-count.ensures.written

-- There is no next interval, or it starts above the place, or the walk goes on behind it.
use Rattle.std.proofs.Common.{suc, ◌+◌, length, arith}
use Rattle.order.proofs.Laws.{bit_lt, bit_ge}
use Rattle.walks.proofs.Reached.{passed_is, passed_more, passed_stop, passed_none}
use Rattle.walks.proofs.StartsRead.{walked_by}
use Rattle.walks.proofs.reaching.walk_from.Goals as goal

pub returns-then-starts-next : goal.returns-then-starts-next
returns-then-starts-next c =
    let a = c.args in
    let l = a.starts.now in
    walked_by _ _ _ (omega arith) _ _ (omega (arith, passed_none l a.x a.i (omega arith)))
    (omega (arith, bit_ge (suc a.x) (length l) (omega arith)))

pub returns-then-i-starts : goal.returns-then-i-starts
returns-then-i-starts c =
    let a = c.args in
    let l = a.starts.now in
    walked_by _ _ _ (omega arith) _ _ (omega (arith, passed_stop l a.x a.i (omega arith) (omega arith)))
    (omega (arith, bit_lt (suc a.x) (length l) (omega arith)))

pub returns : goal.returns
returns c =
    let a = c.args in
    walked_by _ _ _ (omega arith) _ _
    (omega (
      arith,
      c.stretch_length.ensures.0,
      passed_is a.starts.now (a.x + 1) a.i,
      passed_more a.starts.now a.x a.i (omega arith) (omega arith),
    ))
    c.read_to.ensures

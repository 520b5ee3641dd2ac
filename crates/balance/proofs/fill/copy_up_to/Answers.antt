use Rattle.std.proofs.Common.{◌≡◌, suc, ◌+◌, leb, arith}
use borrow.Author.Tests.{le-leb, lt-leb}
use Rattle.order.proofs.Leading.{leading_more, leading_stop}
use Rattle.balance.proofs.Copying.{copying_next}
use Rattle.balance.proofs.fill.copy_up_to.Goals as goal

pub loop-i-preserved : goal.loop-i-preserved
loop-i-preserved c =
    let a = c.args in
    let l = c.loop-i in
    let z : a.x + (l.i + 1) ≡ suc (a.x + l.i) = omega arith in (
      copying_next _ _ _ _ _ _ l.invariant.0 (omega arith),
      copying_next _ _ _ _ _ _ l.invariant.1 (omega arith),
      rw z (omega (
        arith,
        l.invariant.2,
        leading_more (λ e. leb e a.most) a.list.starts.now (a.x + l.i) (omega arith) (le-leb _ _ c.if-most-start.false),
      )),
    )

pub returns-then-most-start : goal.returns-then-most-start
returns-then-most-start c =
    let a = c.args in
    let l = c.loop-i in (
      omega (
        arith,
        l.invariant.2,
        leading_stop (λ e. leb e a.most) a.list.starts.now (a.x + l.i) (omega arith) (lt-leb _ _ c.if-most-start.true),
      ),
      l.invariant.0.is,
      l.invariant.1.is,
    )

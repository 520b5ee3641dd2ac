use Rattle.std.proofs.Common.{◌+◌, arith}
use Rattle.order.proofs.Laws.{count_le_length}
use Rattle.cuts.proofs.Looking.{below_stop, below_go}
use Rattle.cuts.proofs.marks.starts_below.Goals as goal

pub overflow_add-from : goal.overflow_add-from
overflow_add-from c = omega (arith, count_le_length c.args.to c.args.entries.starts.now)

pub returns-then-to-entry_or : goal.returns-then-to-entry_or
returns-then-to-entry_or c =
    let a = c.args in
    let l = c.loop-passed in
    let s = below_stop a.entries.starts.now c.requires.0 a.entries.n a.to (a.from + l.passed) (omega (arith, c.entry_or.ensures)) in
    record { few = omega arith; below = l.invariant; stopped = λ z. omega (arith, l.invariant) }

pub loop-passed-preserved : goal.loop-passed-preserved
loop-passed-preserved c =
    let a = c.args in
    let g = below_go a.entries.starts.now c.requires.0 a.entries.n a.to (a.from + c.loop-passed.passed) c.requires.2
    (omega (arith, c.entry_or.ensures)) in
    omega arith

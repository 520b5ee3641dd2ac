-- By what the starts tell (proofs/Looking).
use Rattle.std.proofs.Common.{arith}
use Rattle.order.proofs.Laws.{strict_sorted, count_le_length}
use Rattle.cuts.proofs.Looking.{starts_ahead, starts_light, starts_within, starts_heavy}
use Rattle.cuts.proofs.marks.look_at_starts.Goals as goal

pub starts_below-passed-requires : goal.starts_below-passed-requires
starts_below-passed-requires c = (
  strict_sorted c.args.entries.starts.now c.requires.0.known.starts_rise,
  starts_ahead _ _ _ _ _ _ c.requires.0 c.requires.1,
  c.requires.0.within,
)

pub overflow_add-result : goal.overflow_add-result
overflow_add-result c = omega (arith, c.starts_below-passed.ensures.below, count_le_length c.args.to c.args.entries.starts.now)

pub returns-then-passed-d : goal.returns-then-passed-d
returns-then-passed-d c =
    starts_light _ _ _ _ _ _ c.requires.0 c.requires.1 _ c.starts_below-passed.ensures c.if-passed-d.true

pub overflow_add-result-2 : goal.overflow_add-result-2
overflow_add-result-2 c =
    let w = starts_within _ _ _ _ _ _ c.requires.0 c.requires.1 _ c.starts_below-passed.ensures c.if-passed-d.false in omega arith

pub offset_bounds-entries-from : goal.offset_bounds-entries-from
offset_bounds-entries-from c =
    let w = starts_within _ _ _ _ _ _ c.requires.0 c.requires.1 _ c.starts_below-passed.ensures c.if-passed-d.false in omega arith

pub overflow_add-result-3 : goal.overflow_add-result-3
overflow_add-result-3 c =
    let w = starts_within _ _ _ _ _ _ c.requires.0 c.requires.1 _ c.starts_below-passed.ensures c.if-passed-d.false in omega arith

pub bounds-entries-from : goal.bounds-entries-from
bounds-entries-from c = starts_within _ _ _ _ _ _ c.requires.0 c.requires.1 _ c.starts_below-passed.ensures c.if-passed-d.false

pub returns : goal.returns
returns c =
    starts_heavy _ _ _ _ _ _ c.requires.0 c.requires.1 _ c.starts_below-passed.ensures c.if-passed-d.false

use Rattle.std.proofs.Common.{◌-◌, sym, ◌∙◌, arith}
use Rattle.permutations.proofs.Ascents.{some_place, no_place, ascent_end, ascent_hit, ascent_miss}
use Rattle.permutations.proofs.after.last_ascent.Goals as goal

pub returns-then-values-i : goal.returns-then-values-i
returns-then-values-i c =
    let q = c.loop-i in
    some_place _ _ (omega arith) (sym q.invariant ∙ ascent_hit _ (q.i - 1) (omega arith) c.if-values-i.true)

pub loop-i-preserved : goal.loop-i-preserved
loop-i-preserved c =
    let q = c.loop-i in
    sym (ascent_miss _ (q.i - 1) (omega arith) c.if-values-i.false) ∙ q.invariant

pub returns : goal.returns
returns c = no_place _ (sym c.loop-i.invariant ∙ ascent_end _ _ (omega arith))

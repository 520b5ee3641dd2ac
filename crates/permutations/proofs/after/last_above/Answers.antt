use Rattle.std.proofs.Common.{◌≡◌, ◌-◌, refl, sym, ap, ◌∙◌, arith}
use Rattle.permutations.specs.Values.{value_at}
use Rattle.permutations.specs.Next.{last_above}
use Rattle.permutations.proofs.Ascents.{above_hit, above_miss}
use Rattle.permutations.proofs.after.last_above.Goals as goal

pub loop-i-init : goal.loop-i-init
loop-i-init c = (omega (arith, c.requires.inside), refl)

pub returns-then-v-values : goal.returns-then-v-values
returns-then-v-values c =
    let q = c.loop-i in
    sym (above_hit _ _ (q.i - 1) (omega arith) c.if-v-values.true) ∙ q.invariant.1

pub loop-i-preserved : goal.loop-i-preserved
loop-i-preserved c =
    let q = c.loop-i in
    (omega arith, sym (above_miss _ _ (q.i - 1) (omega arith) c.if-v-values.false) ∙ q.invariant.1)

pub returns : goal.returns
returns c =
    let q = c.loop-i in
    let l = c.args.values.now in
    let a = c.args.ascent in
    let e : q.i - 1 ≡ a = omega arith in
    sym (above_hit l _ a c.requires.some c.requires.above)
    ∙ ap (last_above l (value_at l (a - 1))) (sym e) ∙ q.invariant.1

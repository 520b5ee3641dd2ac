-- The sign where there is one, and then the size.
use Rattle.text.proofs.Writing.{fits_first, fits_second, wrote_both}
use Rattle.text.proofs.Signs.{signed_minus, signed_plus}
use Rattle.text.proofs.Page.signed.Goals as goal

pub put-requires : goal.put-requires
put-requires c =
    fits_first _ _ _ _ (rw (signed_minus _ c.ranges.v _ c.unsigned_abs-size.ensures.value c.if-v-lt0.true) at c.requires.1)

pub decimal-requires : goal.decimal-requires
decimal-requires c =
    fits_second _ _ _ _ (rw (signed_minus _ c.ranges.v _ c.unsigned_abs-size.ensures.value c.if-v-lt0.true) at c.requires.1) _ _ c.put.ensures.wrote

pub returns-then-v-lt0-clause-wrote : goal.returns-then-v-lt0-clause-wrote
returns-then-v-lt0-clause-wrote c =
    let e = signed_minus _ c.ranges.v _ c.unsigned_abs-size.ensures.value c.if-v-lt0.true in
    rw e (wrote_both _ _ _ _ (rw e at c.requires.1) _ _ c.put.ensures.wrote _ _ c.decimal.ensures.wrote)

pub decimal-requires-else-v-lt0 : goal.decimal-requires-else-v-lt0
decimal-requires-else-v-lt0 c = rw (signed_plus _ c.ranges.v _ c.unsigned_abs-size.ensures.value c.if-v-lt0.false) at c.requires.1

pub returns-else-v-lt0-clause-wrote : goal.returns-else-v-lt0-clause-wrote
returns-else-v-lt0-clause-wrote c = rw (signed_plus _ c.ranges.v _ c.unsigned_abs-size.ensures.value c.if-v-lt0.false) c.decimal-else-v-lt0.ensures.wrote

-- The digits of a tenth of v, and then the last one.
use Rattle.std.proofs.Common.{arith}
use Rattle.text.proofs.Writing.{fits_first, fits_second, wrote_both}
use Rattle.text.proofs.Digits.{decimal_small, decimal_large}
use Rattle.text.proofs.Page.+decimal.Goals as goal

pub put-requires : goal.put-requires
put-requires t c = rw (decimal_small c.args.v c.if-v-lt10.true) at c.requires

pub returns-then-v-lt10-clause-wrote : goal.returns-then-v-lt10-clause-wrote
returns-then-v-lt10-clause-wrote t c = rw (decimal_small c.args.v c.if-v-lt10.true) c.put.ensures.wrote

pub decimal-requires : goal.decimal-requires
decimal-requires t c =
    (omega arith, fits_first _ _ _ _ (rw (decimal_large c.args.v c.if-v-lt10.false c.ranges.v.fits) at c.requires))

pub put-requires-else-v-lt10 : goal.put-requires-else-v-lt10
put-requires-else-v-lt10 t c =
    fits_second _ _ _ _ (rw (decimal_large c.args.v c.if-v-lt10.false c.ranges.v.fits) at c.requires) _ _ c.decimal.ensures.wrote

pub returns-else-v-lt10-clause-wrote : goal.returns-else-v-lt10-clause-wrote
returns-else-v-lt10-clause-wrote t c =
    let e = decimal_large c.args.v c.if-v-lt10.false c.ranges.v.fits in
    rw e (wrote_both _ _ _ _ (rw e at c.requires) _ _ c.decimal.ensures.wrote _ _ c.put-else-v-lt10.ensures.wrote)

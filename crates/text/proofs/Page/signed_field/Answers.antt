-- The integer, whose bits say it, and then the byte after it.
use Rattle.text.proofs.Writing.{fits_second, wrote_both}
use Rattle.text.proofs.Signs.{bits_back}
use Rattle.text.proofs.Page.signed_field.Goals as goal

pub put-requires : goal.put-requires
put-requires c = fits_second _ _ _ _ c.requires.1 _ _ (rw (bits_back _ c.ranges.v) at c.signed.ensures.wrote)

pub returns-clause-wrote : goal.returns-clause-wrote
returns-clause-wrote c =
    wrote_both _ _ _ _ c.requires.1 _ _ (rw (bits_back _ c.ranges.v) at c.signed.ensures.wrote) _ _ c.put.ensures.wrote

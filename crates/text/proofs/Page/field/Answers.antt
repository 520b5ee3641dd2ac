-- The digits, and then the byte after them.
use Rattle.text.proofs.Writing.{fits_second, wrote_both}
use Rattle.text.proofs.Page.field.Goals as goal

pub put-requires : goal.put-requires
put-requires c = fits_second _ _ _ _ c.requires _ _ (rw c.from.ensures at c.decimal.ensures.wrote)

pub returns-clause-wrote : goal.returns-clause-wrote
returns-clause-wrote c = wrote_both _ _ _ _ c.requires _ _ (rw c.from.ensures at c.decimal.ensures.wrote) _ _ c.put.ensures.wrote

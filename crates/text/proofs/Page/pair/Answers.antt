-- Two fields, one after the other.
use Rattle.text.proofs.Writing.{fits_second, wrote_both}
use Rattle.text.proofs.Page.pair.Goals as goal

pub field-requires-2 : goal.field-requires-2
field-requires-2 c = fits_second _ _ _ _ c.requires _ _ c.field.ensures.wrote

pub returns-clause-wrote : goal.returns-clause-wrote
returns-clause-wrote c = wrote_both _ _ _ _ c.requires _ _ c.field.ensures.wrote _ _ c.field-2.ensures.wrote

-- Two numbers, and then two more.
use Rattle.text.proofs.Writing.{fits_first, fits_second, wrote_both}
use Rattle.listings.proofs.Lengths.{head_parts}
use Rattle.listings.proofs.lines.head.Goals as goal

pub pair-requires : goal.pair-requires
pair-requires c = fits_first _ _ _ _ (rw head_parts at c.requires)

pub pair-requires-2 : goal.pair-requires-2
pair-requires-2 c = fits_second _ _ _ _ (rw head_parts at c.requires) _ _ c.pair.ensures.wrote

pub returns-clause-wrote : goal.returns-clause-wrote
returns-clause-wrote c = rw head_parts (wrote_both _ _ _ _ (rw head_parts at c.requires) _ _ c.pair.ensures.wrote _ _ c.pair-2.ensures.wrote)

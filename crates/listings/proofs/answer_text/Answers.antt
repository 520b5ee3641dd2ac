-- The definition's two cases.
use Rattle.listings.specs.Parts.{answer_text}
use Rattle.listings.proofs.answer_text.Goals as goal

pub table-requires : goal.table-requires
table-requires c = (c.requires.0 _ c.in-Ok.is, c.requires.1)

pub returns-in-Err-clause-wrote : goal.returns-in-Err-clause-wrote
unfolding answer_text
returns-in-Err-clause-wrote c = rw c.in-Err.is c.refusal_line.ensures.wrote

pub returns-in-Ok-clause-wrote : goal.returns-in-Ok-clause-wrote
unfolding answer_text
returns-in-Ok-clause-wrote c = rw c.in-Ok.is c.table.ensures.wrote

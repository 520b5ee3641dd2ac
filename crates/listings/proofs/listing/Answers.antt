-- A refused header is the text, and a header that was read leaves the body's.
use Rattle.files.proofs.Heading.{heading_laid}
use Rattle.listings.proofs.Listings.{listing_refused, listing_read}
use Rattle.listings.proofs.listing.Goals as goal

pub list_body-requires : goal.list_body-requires
list_body-requires c = (heading_laid _ _ _ c.in-Ok.ensures, c.requires)

pub returns-in-Err-clause-wrote : goal.returns-in-Err-clause-wrote
returns-in-Err-clause-wrote c = rw (listing_refused _ _ _ c.in-Err.ensures) c.refusal_line.ensures.wrote

pub returns-in-Ok-clause-wrote : goal.returns-in-Ok-clause-wrote
returns-in-Ok-clause-wrote c = rw (← listing_read _ _ c.in-Ok.ensures) c.list_body.ensures.wrote

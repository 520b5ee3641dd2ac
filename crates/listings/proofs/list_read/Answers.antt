-- The list that was read is the file's (`listing_body`).
use Rattle.listings.proofs.Listings.{listing_body}
use Rattle.listings.proofs.list_read.Goals as goal

pub returns-clause-wrote : goal.returns-clause-wrote
returns-clause-wrote c = rw (← listing_body _ c.args.h c.requires.0 _ c.read_list.ensures) c.list_runs.ensures.wrote

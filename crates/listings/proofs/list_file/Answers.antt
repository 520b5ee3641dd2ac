-- The page's first bytes are the listing, and are copied where there is room.
use Rattle.std.proofs.Common.{sym}
use lib.Seq.{length-take-le}
use Rattle.listings.proofs.Listings.{copied_within, list_copied}
use Rattle.listings.proofs.list_file.Goals as goal

pub returns : goal.returns
returns c =
    list_copied _ c.args.text.now _ _ _ c.listing.ensures.wrote _ c.fitting-count.ensures _ _ c.copy.ensures.counts c.copy.ensures.copied

pub slice_bounds-copy-end : goal.slice_bounds-copy-end
slice_bounds-copy-end c =
    sym (length-take-le _ _ (copied_within _ c.args.text.now _ _ _ c.listing.ensures.wrote _ c.fitting-count.ensures))

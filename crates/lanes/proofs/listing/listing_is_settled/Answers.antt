-- Bytes have one listing.
use Rattle.lanes.proofs.Settled.{listing_is_settled}
use Rattle.lanes.proofs.listing.listing_is_settled.Goals as goal

pub returns : goal.returns
returns c = listing_is_settled

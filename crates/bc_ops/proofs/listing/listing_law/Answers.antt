use Rattle.bc_ops.proofs.Lists as lemmas
use Rattle.bc_ops.proofs.listing.listing_law.Goals as goal

pub returns : goal.returns
returns c = record { one_list = lemmas.one_list; one_start = lemmas.one_listing }

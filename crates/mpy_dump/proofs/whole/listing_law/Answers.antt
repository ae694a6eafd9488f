use Rattle.mpy_dump.proofs.Once.{one_listing, some_listing}
use Rattle.mpy_dump.proofs.whole.listing_law.Goals as goal

pub returns-clause-some : goal.returns-clause-some
returns-clause-some c = some_listing

pub returns-clause-one : goal.returns-clause-one
returns-clause-one c = one_listing

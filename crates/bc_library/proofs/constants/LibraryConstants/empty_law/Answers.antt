use Rattle.std.proofs.Common.{◌≡◌, ℕ, List, [], Option, Some, refl}
use Rattle.bc_verify.specs.qstr_pool.Pool.{Texts}
use Rattle.bc_library.specs.Texts.{text_numbered}
use Rattle.bc_library.proofs.constants.LibraryConstants.empty_law.Goals as goal

empty : (pool : Texts) → text_numbered pool 1 ≡ Some []
unfolding text_numbered
empty pool = refl

pub returns : goal.returns
returns c = empty c.args.self.now.pool

use Rattle.std.proofs.Common.{sym}
use Rattle.bc_library.proofs.Pools.{below_first}
use Rattle.bc_library.proofs.constants.LibraryConstants.static_law.Goals as goal

pub returns : goal.returns
returns c = λ n low. sym (below_first c.args.self.now.pool n low)

use Rattle.bc_library.proofs.Objectless.{holds_none}
use Rattle.bc_library.proofs.constants.LibraryConstants.items_law.Goals as goal

pub returns : goal.returns
returns c = holds_none c.args.self.now

use Rattle.bc_progress.proofs.Whole.{library_verified}
use Rattle.bc_progress.proofs.library_law.Goals as goal

pub returns : goal.returns
returns c library each = library_verified library each

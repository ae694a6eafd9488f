use Rattle.bc_progress.specs.Slots.{anything}
use Rattle.bc_progress.proofs.Whole.{start_fits}
use Rattle.bc_progress.proofs.start_law.Goals as goal

pub returns : goal.returns
returns c plans library name m w follows e = start_fits anything plans library follows name m w e

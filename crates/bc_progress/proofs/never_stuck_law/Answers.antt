use Rattle.bc_progress.specs.Slots.{anything}
use Rattle.bc_progress.proofs.Whole.{never, steps_fit, start_fits}
use Rattle.bc_progress.proofs.never_stuck_law.Goals as goal

pub returns : goal.returns
returns c library name m w behind n v held e = never v.0 library _ behind (steps_fit v.0 library v.1 n _ (start_fits anything v.0 library v.1 name m w held)) e

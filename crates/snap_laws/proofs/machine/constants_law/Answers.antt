use Rattle.snap_laws.proofs.FileConstants.{constants_stay}
use Rattle.snap_laws.proofs.machine.constants_law.Goals as goal

pub returns : goal.returns
returns c r library of = constants_stay r library of

use Rattle.snap_kept.proofs.FileConstants.{constants_are}
use Rattle.snap_kept.proofs.constants_law.Goals as goal

pub returns : goal.returns
returns c library of = constants_are library of

use Rattle.snap_kept.proofs.Marking.{none_kept}
use Rattle.snap_kept.proofs.entries_law.Goals as goal

pub returns : goal.returns
returns c library heap frame is = none_kept frame.position frame.entries is.held is.marked

use Rattle.bc_flow.proofs.Never.{never_stuck}
use Rattle.bc_flow.proofs.walk.progress.Goals as goal

pub returns : goal.returns
returns c = never_stuck

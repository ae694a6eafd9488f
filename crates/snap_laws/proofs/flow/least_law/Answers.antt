use Rattle.snap_laws.proofs.Least.{is_good}
use Rattle.snap_laws.proofs.flow.least_law.Goals as goal

pub returns : goal.returns
returns c code a b s least holds good = is_good a b (least b holds) code s good

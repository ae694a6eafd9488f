use Rattle.std.proofs.Common.{sym}
use Rattle.prim_walks.proofs.OneSteps.{truth_other}
use Rattle.prim_walks.proofs.ones.is_one_truth.Goals as goal

pub returns-in_default : goal.returns-in_default
returns-in_default c heap texts tuples = sym (truth_other heap texts tuples c.args.x c.args.b c.in_default.not-Bool)

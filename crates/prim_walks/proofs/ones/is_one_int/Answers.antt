use Rattle.std.proofs.Common.{sym}
use Rattle.prim_walks.proofs.OneSteps.{int_other}
use Rattle.prim_walks.proofs.ones.is_one_int.Goals as goal

pub returns-in_default : goal.returns-in_default
returns-in_default c heap texts tuples = sym (int_other heap texts tuples c.args.x c.args.b c.in_default.not-Int)

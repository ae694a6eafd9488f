use Rattle.frame_exits.proofs.Plains.{no_zero}
use Rattle.frame_exits.proofs.operands.is_zero.Goals as goal

pub returns-in_default : goal.returns-in_default
returns-in_default c texts tuples heap = no_zero texts tuples heap c.args.v c.in_default.not-Bool c.in_default.not-Int

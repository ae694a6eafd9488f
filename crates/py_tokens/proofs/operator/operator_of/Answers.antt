use Rattle.std.proofs.Common.{refl}
use Rattle.py_tokens.proofs.Operators.{op_spells}
use Rattle.py_tokens.proofs.operator.operator_of.Goals as goal

pub returns-in-Some : goal.returns-in-Some
returns-in-Some c operator = op_spells c.args.text.now c.in-Some.op operator ((c.in-Some.ensures c.in-Some.op).0 refl)

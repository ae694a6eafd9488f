use Rattle.std.proofs.Common.{◌∙◌}
use Rattle.py_values.proofs.Shifted.{right_is}
use Rattle.py_values.proofs.small_int.SmallInt.shr.Goals as goal

pub returns : goal.returns
returns c =
    c.checked.ensures ∙ right_is c.args.self c.args.other c.value.result c.from.result c.in_ok-bits.bits c.value.ensures.small c.value.ensures.value c.in_ok-bits.ensures c.from.ensures

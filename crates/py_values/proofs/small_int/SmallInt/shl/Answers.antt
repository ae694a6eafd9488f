use Rattle.std.proofs.Common.{◌∙◌}
use Rattle.py_values.proofs.Shifted.{left_fits, left_is}
use Rattle.py_values.proofs.small_int.SmallInt.shl.Goals as goal

pub overflow_mul-from : goal.overflow_mul-from
overflow_mul-from c =
    left_fits c.args.self c.args.other c.value.result c.from.result c.in_ok-factor.field-0 c.value.ensures.small c.value.ensures.value c.in_ok-factor.ensures c.from.ensures

pub returns : goal.returns
returns c =
    c.checked.ensures ∙ left_is c.args.self c.args.other c.value.result c.from.result c.in_ok-factor.field-0 c.value.ensures.small c.value.ensures.value c.in_ok-factor.ensures c.from.ensures

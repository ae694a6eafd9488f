use Rattle.std.proofs.Common.{◌∙◌, ap}
use Rattle.py_values.specs.Small.{checked}
use Rattle.py_values.proofs.TwosComplement.{and_result}
use Rattle.py_values.proofs.small_int.SmallInt.and.Goals as goal

pub returns : goal.returns
returns c =
    let a = c.value.ensures in
    let b = c.value-2.ensures in
    c.checked.ensures ∙ ap checked (and_result c.args.self c.args.other c.value.result c.value-2.result c.from.result a.value b.value a.small b.small c.from.ensures)

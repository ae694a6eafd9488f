use Rattle.std.proofs.Common.{ap, ◌∙◌}
use Rattle.py_expressions.specs.Reading.{is_new}
use Rattle.py_expressions.proofs.Tabled.{new_key}
use Rattle.py_expressions.proofs.name_table.NameTable.insert.Goals as goal

pub returns-clause-tells : goal.returns-clause-tells
returns-clause-tells c =
    c.in_ok-insert.ensures.added ∙ (new_key c.self.inside.names.keys c.in_ok-from_slice.field-0 c.args.name.now c.in_ok-from_slice.ensures.items
    ∙ ap (is_new c.args.name.now) c.self.view_is)

use Rattle.std.proofs.Common.{sym, ap, ◌∙◌}
use Rattle.prim_walks.specs.py_values.Names.{builtin_name}
use Rattle.prim_walks.specs.py_primitives.Builtins.{globals}
use Rattle.snap_states.specs.Decoded.{called, others}
use Rattle.snap_states.proofs.Calling.{called_first, called_last}
use Rattle.snap_states.proofs.naming.builtin_called.Goals as goal

pub returns-in-Some : goal.returns-in-Some
returns-in-Some c =
    sym (called_first builtin_name c.args.name.now globals others c.in-Some.b
    (ap (called builtin_name c.args.name.now) (sym c.global_builtins.ensures) ∙ sym c.first_builtin.ensures ∙ c.in-Some.is))

pub returns-in-None : goal.returns-in-None
returns-in-None c =
    c.first_builtin-in-None.ensures ∙ ap (called builtin_name c.args.name.now) c.other_builtins.ensures
    ∙ sym (called_last builtin_name c.args.name.now globals others
    (ap (called builtin_name c.args.name.now) (sym c.global_builtins.ensures) ∙ sym c.first_builtin.ensures ∙ c.in-None.is))

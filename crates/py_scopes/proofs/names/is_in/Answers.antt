use Rattle.std.proofs.Common.{sym, ap, ◌∙◌}
use Rattle.py_scopes.specs.Names.{has}
use Rattle.py_scopes.proofs.Tables.{any_names, names_at, names_past}
use Rattle.py_scopes.proofs.names.is_in.Goals as goal

pub returns-then-f-sets : goal.returns-then-f-sets
returns-then-f-sets c = ap (has c.args.name.now) (sym (names_past c.args.sets.now c.args.f c.if-f-sets.true))

pub returns : goal.returns
returns c =
    c.contains.ensures ∙ (any_names c.args.name.now c.index-sets-f.result.keys
    ∙ ap (has c.args.name.now) (sym (names_at c.args.sets.now c.args.f c.index-sets-f.result c.if-f-sets.false c.index-sets-f.is)))

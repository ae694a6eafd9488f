use Rattle.std.proofs.Common.{sym, ap, ◌∙◌}
use Rattle.py_scopes.specs.Names.{has, names_in}
use Rattle.py_scopes.proofs.Tables.{already, names-added}
use Rattle.py_scopes.proofs.names.add.Goals as goal

pub returns-then-is_in-clause-names : goal.returns-then-is_in-clause-names
returns-then-is_in-clause-names c g =
    already c.args.sets.now.items c.args.f g c.args.name.now
    (ap (λ sets. has c.args.name.now (names_in sets c.args.f)) (sym c.deref.ensures.value) ∙ (sym c.is_in.ensures ∙ c.if-is_in.true))

pub returns-clause-names : goal.returns-clause-names
returns-clause-names c g =
    names-added c.args.sets.now.items c.args.f g c.index_mut.result.now c.insert.new.self c.in_ok-from_slice.field-0 c.args.name.now
    c.requires c.index_mut.ensures.value c.in_ok-insert.ensures.keys c.in_ok-from_slice.ensures.items

use Rattle.std.proofs.Common.{sym, ap, ◌∙◌, refl}
use Rattle.std.specs.Prelude.{option_copied}
use Rattle.std.proofs.lemmas.Result.{on_ok_weaker}
use Rattle.py_scopes.proofs.Walks.{empty_list, not_empty, outside, nameless, named}
use Rattle.py_scopes.proofs.names.tell.Goals as goal

pub returns-then-is_empty-clause-names : goal.returns-then-is_empty-clause-names
returns-then-is_empty-clause-names c front e =
    outside c.args.tells c.args.sets.now.items c.args.sets.now.items c.args.event.now c.args.around.now front
    (empty_list c.args.around.now (sym c.is_empty.ensures ∙ c.if-is_empty.true)) e

pub returns-in-None-clause-names : goal.returns-in-None-clause-names
returns-in-None-clause-names c front e =
    nameless c.args.tells c.args.sets.now.items c.args.sets.now.items c.args.event.now c.args.around.now front
    (sym c.told.ensures ∙ ap option_copied c.in-None.is) e

pub returns-in-Some-clause-names : goal.returns-in-Some-clause-names
returns-in-Some-clause-names c =
    on_ok_weaker c.add.result
    (λ says front e.
    named c.args.tells c.args.sets.now.items c.add.new.sets.items c.args.event.now c.args.around.now front c.in-Some.name.now _
    (not_empty c.args.around.now (sym c.is_empty.ensures ∙ c.if-is_empty.false)) refl
    (sym c.told.ensures ∙ ap option_copied c.in-Some.is) says e)
    c.add.ensures.names

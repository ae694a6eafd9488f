use Rattle.std.proofs.Common.{ℕ, List, sym, ap, ◌∙◌}
use Rattle.prim_operators.specs.mpy_base.Val.{Val}
use Rattle.prim_operators.specs.arena_objects.Iterables.{or_nothing}
use Rattle.prim_operators.specs.py_primitives.Faults.{NoAttribute}
use Rattle.prim_operators.specs.py_primitives.Outcome.{raises}
use Rattle.prim_operators.specs.prim_walks.Plain.{plain, plain_heap}
use Rattle.prim_operators.proofs.prim_faults_lemmas.Outcomes.{raises_outcome}
use Rattle.prim_assignments.proofs.ItemUses.{set_unnamed}
use Rattle.prim_assignments.proofs.attributes.set_attr.Goals as goal

pub returns-in_default : goal.returns-in_default
returns-in_default g c =
    let texts = g.C.Constants.text_of c.args.consts.now in
    let tuples = g.C.Constants.items_of c.args.consts.now in
    let h = c.args.arena.now in
    let heap = plain_heap texts tuples h in
    let name = or_nothing (texts c.args.name) in
    raises_outcome texts tuples h _ _ c.requires.all_told c.requires.name
    (set_unnamed texts tuples h name (plain texts tuples c.args.v) c.args.object c.in_default.not-Module c.requires.object_leads
    ∙ ap (λ (t : List ℕ). raises {A = Val} (NoAttribute t name) heap) (sym (c.type_of.ensures texts tuples)))

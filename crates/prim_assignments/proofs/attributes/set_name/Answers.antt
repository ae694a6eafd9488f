use Rattle.std.proofs.Common.{ℕ, List, Some, None, sym, ap, ◌∙◌, subst}
use Rattle.prim_operators.specs.mpy_base.Val.{Val}
use Rattle.prim_operators.specs.arena_objects.Iterables.{or_nothing}
use Rattle.prim_operators.specs.py_primitives.Faults.{NoAttribute}
use Rattle.prim_operators.specs.py_primitives.Outcome.{Outcome, raises}
use Rattle.prim_operators.specs.prim_walks.Plain.{plain, plain_heap}
use Rattle.prim_operators.specs.prim_faults.Outcomes.{IsOutcome}
use Rattle.prim_operators.proofs.prim_faults_lemmas.Outcomes.{raises_outcome}
use Rattle.prim_operators.proofs.AttributeUses.{by_namespace}
use Rattle.prim_assignments.proofs.ItemUses.{set_named, set_nameless}
use Rattle.prim_assignments.proofs.attributes.set_name.Goals as goal

pub type_of-requires : goal.type_of-requires
type_of-requires g c = record { meets = c.requires.is_module; small = tt }

pub returns-in-Some : goal.returns-in-Some
returns-in-Some g c =
    let texts = g.C.Constants.text_of c.args.consts.now in
    let tuples = g.C.Constants.items_of c.args.consts.now in
    let h = c.args.arena.now in
    let read = c.module_parts-namespace in
    let parts = by_namespace h c.args.m.cell read.result.0 read.result.1 (Some c.in-Some.names) read.ensures.parts c.in-Some.is in
    subst (λ (o : Outcome Val). IsOutcome texts tuples h c.put_pair.new.arena c.put_pair.result o)
    (sym (set_named texts tuples h (or_nothing (texts c.args.name)) (plain texts tuples c.args.v) c.args.m.cell read.result.0 c.in-Some.names.cell parts)) c.put_pair.ensures

pub returns-in-None : goal.returns-in-None
returns-in-None g c =
    let texts = g.C.Constants.text_of c.args.consts.now in
    let tuples = g.C.Constants.items_of c.args.consts.now in
    let h = c.args.arena.now in
    let heap = plain_heap texts tuples h in
    let name = or_nothing (texts c.args.name) in
    let read = c.module_parts-namespace in
    let parts = by_namespace h c.args.m.cell read.result.0 read.result.1 None read.ensures.parts c.in-None.is in
    raises_outcome texts tuples h _ _ c.requires.all_told c.requires.name
    (set_nameless texts tuples h name (plain texts tuples c.args.v) c.args.m.cell read.result.0 parts
    ∙ ap (λ (t : List ℕ). raises {A = Val} (NoAttribute t name) heap) (sym (c.type_of.ensures texts tuples)))

use Rattle.std.proofs.Common.{ℕ, List, sym, ap, ◌∙◌, subst}
use Rattle.prim_faults.specs.mpy_base.Val.{Val}
use Rattle.prim_faults.specs.arena_objects.Iterables.{or_nothing}
use Rattle.prim_faults.specs.py_primitives.Faults.{NoAttribute}
use Rattle.prim_faults.specs.py_primitives.Outcome.{Outcome, raises}
use Rattle.prim_faults.specs.py_primitives.Uses.{Attribute, gives_attribute}
use Rattle.prim_faults.specs.prim_walks.Plain.{plain, plain_heap}
use Rattle.prim_faults.specs.Outcomes.{IsOutcome}
use Rattle.prim_faults.proofs.Outcomes.{gives_outcome, raises_outcome}
use Rattle.prim_operators.proofs.attributes.get_attr.Goals as goal

pub returns-in-Found : goal.returns-in-Found
returns-in-Found g c =
    let texts = g.C.Constants.text_of c.args.consts.now in
    let tuples = g.C.Constants.items_of c.args.consts.now in
    let h = c.args.arena.now in
    let heap = plain_heap texts tuples h in
    let name = or_nothing (texts c.args.name) in
    gives_outcome texts tuples h c.in-Found.v _ c.requires.all_told c.in-Found.ensures.known.leads c.in-Found.ensures.known.told
    (ap (λ (a : Attribute). gives_attribute heap (plain texts tuples c.args.object) name a) (sym c.in-Found.ensures.plain))

pub returns-in-Method : goal.returns-in-Method
returns-in-Method g c =
    let texts = g.C.Constants.text_of c.args.consts.now in
    let tuples = g.C.Constants.items_of c.args.consts.now in
    let h = c.args.arena.now in
    let heap = plain_heap texts tuples h in
    let name = or_nothing (texts c.args.name) in
    subst (λ (o : Outcome Val). IsOutcome texts tuples h c.bind_method.new.arena c.bind_method.result o)
    (ap (λ (a : Attribute). gives_attribute heap (plain texts tuples c.args.object) name a) c.in-Method.ensures.plain) c.bind_method.ensures

pub returns-in-Absent : goal.returns-in-Absent
returns-in-Absent g c =
    let texts = g.C.Constants.text_of c.args.consts.now in
    let tuples = g.C.Constants.items_of c.args.consts.now in
    let h = c.args.arena.now in
    let heap = plain_heap texts tuples h in
    let name = or_nothing (texts c.args.name) in
    raises_outcome texts tuples h _ _ c.requires.all_told c.requires.name
    (ap (λ (a : Attribute). gives_attribute heap (plain texts tuples c.args.object) name a) (sym c.in-Absent.ensures.plain)
    ∙ ap (λ (t : List ℕ). raises {A = Val} (NoAttribute t name) heap) (sym (c.type_of.ensures texts tuples)))

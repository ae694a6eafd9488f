use Rattle.std.proofs.Common.{ℕ, List, sym, ap, ◌∙◌, lit<}
use Rattle.mpy_base.specs.Val.{PlainWorld}
use Rattle.prim_methods.specs.arena_heap.declared.value.Value.TheVariants as values
use Rattle.prim_methods.specs.arena_objects.Iterables.{or_nothing}
use Rattle.prim_raising.specs.py_effects.py_primitives.Faults.{NoAttribute}
use Rattle.prim_raising.specs.py_effects.py_primitives.Uses.{Attribute}
use Rattle.prim_raising.specs.py_effects.Effect.{Effect, faults}
use Rattle.prim_raising.specs.py_effects.Names.{Looked, looked_up}
use Rattle.prim_methods.specs.prim_walks.Plain.{plain}
use Rattle.prim_methods.specs.prim_faults.Sights.{world_over}
use Rattle.prim_names.proofs.attributes.load_method.Goals as goal

pub attribute_of-requires-clause-leads : goal.attribute_of-requires-clause-leads
attribute_of-requires-clause-leads g c = (c.requires.stands.known 0 values.None (lit< tt)).leads

pub type_of-requires : goal.type_of-requires
type_of-requires g c = (c.requires.stands.known 0 values.None (lit< tt)).leads

pub returns-in-Found : goal.returns-in-Found
returns-in-Found g c =
    let texts = g.C.Constants.text_of c.args.consts.now in
    let tuples = g.C.Constants.items_of c.args.consts.now in
    let h = c.args.arena.now in
    let is = λ (w : PlainWorld). ap (λ (a : Attribute). looked_up (world_over texts tuples w h) (plain texts tuples c.args.object) (or_nothing (texts c.args.name)) a) c.in-Found.ensures.plain in
    record {
      answer = λ w. ap (λ (e : Effect Looked). e.answer) (is w);
      world = λ w. ap (λ (e : Effect Looked). e.world) (is w);
      visits = λ w. sym (ap (λ (e : Effect Looked). e.visits) (is w));
      known = c.in-Found.ensures.known;
    }

pub returns-in-Method : goal.returns-in-Method
returns-in-Method g c =
    let texts = g.C.Constants.text_of c.args.consts.now in
    let tuples = g.C.Constants.items_of c.args.consts.now in
    let h = c.args.arena.now in
    let is = λ (w : PlainWorld). ap (λ (a : Attribute). looked_up (world_over texts tuples w h) (plain texts tuples c.args.object) (or_nothing (texts c.args.name)) a) c.in-Method.ensures.plain in
    record {
      answer = λ w. ap (λ (e : Effect Looked). e.answer) (is w);
      world = λ w. ap (λ (e : Effect Looked). e.world) (is w);
      visits = λ w. sym (ap (λ (e : Effect Looked). e.visits) (is w));
      known = (c.requires.stands.known 0 values.None (lit< tt), c.in-Method.ensures.known);
    }

pub returns-in-Absent : goal.returns-in-Absent
returns-in-Absent g c =
    let texts = g.C.Constants.text_of c.args.consts.now in
    let tuples = g.C.Constants.items_of c.args.consts.now in
    let h = c.args.arena.now in
    let name = or_nothing (texts c.args.name) in
    let is = λ (w : PlainWorld). ap (λ (t : List ℕ). faults {A = Looked} (NoAttribute t name) (world_over texts tuples w h)) (c.type_of.ensures texts tuples)
    ∙ ap (λ (a : Attribute). looked_up (world_over texts tuples w h) (plain texts tuples c.args.object) name a) c.in-Absent.ensures.plain in
    record {
      answer = λ w. ap (λ (e : Effect Looked). e.answer) (is w);
      world = λ w. ap (λ (e : Effect Looked). e.world) (is w);
      visits = λ w. sym (ap (λ (e : Effect Looked). e.visits) (is w));
      known = c.requires.name;
    }

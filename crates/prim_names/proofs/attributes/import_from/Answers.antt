use Rattle.std.proofs.Common.{◌≡◌, ℕ, List, Bool, true, false, cond, refl, sym, ap, lit<}
use Rattle.mpy_base.specs.World.{Object, MethodObject}
use Rattle.mpy_base.specs.Weights.{used, does_fit, cells_of, bytes_of, with_made}
use Rattle.mpy_base.specs.Val.{Val, At}
use Rattle.prim_methods.specs.arena_heap.declared.value.Value.TheVariants as values
use Rattle.prim_methods.specs.arena_objects.Iterables.{or_nothing}
use Rattle.prim_raising.specs.py_effects.py_values.Shown.{PlainHeap}
use Rattle.prim_raising.specs.py_effects.py_primitives.Outcome.{gives, is_full, making}
use Rattle.prim_raising.specs.py_effects.py_primitives.Uses.{Attribute}
use Rattle.prim_raising.specs.py_effects.Effect.{on_heap}
use Rattle.prim_raising.specs.py_effects.Names.{imported_from}
use Rattle.prim_methods.specs.prim_walks.Plain.{plain, plain_heap}
use Rattle.prim_methods.specs.prim_faults.declared.fault.Fault.TheVariants as arena_faults
use Rattle.prim_methods.specs.prim_faults.Sights.{world_over}
use Rattle.prim_raising.proofs.Effects.{heap_effect, value_effect, fault_effect}
use Rattle.prim_names.proofs.attributes.import_from.Goals as goal

by_fit : (heap : PlainHeap) (n cells bytes : ℕ) (new : PlainHeap) (b : Bool) → (cond b (gives (At n) new) (is_full heap cells bytes)).visits ≡ 0
by_fit heap n cells bytes new true = refl
by_fit heap n cells bytes new false = refl

-- a making makes no visits
no_visits : (heap : PlainHeap) (method : Object Val (List ℕ)) → (making heap method).visits ≡ 0
no_visits heap o = by_fit heap (used heap) (cells_of o) (bytes_of o) (with_made heap o) (does_fit heap (cells_of o) (bytes_of o))

pub attribute_of-requires-clause-leads : goal.attribute_of-requires-clause-leads
attribute_of-requires-clause-leads g c = (c.requires.stands.known 0 values.None (lit< tt)).leads

pub bind_method-requires-clause-leads : goal.bind_method-requires-clause-leads
bind_method-requires-clause-leads g c = (c.requires.stands.known 0 values.None (lit< tt)).leads

pub bind_method-requires-clause-told : goal.bind_method-requires-clause-told
bind_method-requires-clause-told g c = (c.requires.stands.known 0 values.None (lit< tt)).told

pub returns-in-Found : goal.returns-in-Found
returns-in-Found g c =
    let texts = g.C.Constants.text_of c.args.consts.now in
    let tuples = g.C.Constants.items_of c.args.consts.now in
    let h = c.args.arena.now in
    value_effect texts tuples h c.in-Found.v _ c.requires.stands.all_told c.in-Found.ensures.known.leads c.in-Found.ensures.known.told
    (λ w. ap (λ (a : Attribute). on_heap (world_over texts tuples w h) (imported_from (plain_heap texts tuples h) (plain texts tuples c.args.object) (or_nothing (texts c.args.name)) a)) (sym c.in-Found.ensures.plain))

pub returns-in-Method : goal.returns-in-Method
returns-in-Method g c =
    let texts = g.C.Constants.text_of c.args.consts.now in
    let tuples = g.C.Constants.items_of c.args.consts.now in
    let h = c.args.arena.now in
    let heap = plain_heap texts tuples h in
    let object = plain texts tuples c.args.object in
    heap_effect texts tuples h c.bind_method.new.arena c.bind_method.result (making heap (MethodObject object c.in-Method.method)) _ c.bind_method.ensures
    (no_visits heap (MethodObject object c.in-Method.method))
    (λ w. ap (λ (a : Attribute). on_heap (world_over texts tuples w h) (imported_from heap object (or_nothing (texts c.args.name)) a)) (sym c.in-Method.ensures.plain))

pub returns-in-Absent : goal.returns-in-Absent
returns-in-Absent g c =
    let texts = g.C.Constants.text_of c.args.consts.now in
    let tuples = g.C.Constants.items_of c.args.consts.now in
    let h = c.args.arena.now in
    fault_effect texts tuples h (arena_faults.NotImported c.args.name) _ c.requires.stands.all_told c.requires.name
    (λ w. ap (λ (a : Attribute). on_heap (world_over texts tuples w h) (imported_from (plain_heap texts tuples h) (plain texts tuples c.args.object) (or_nothing (texts c.args.name)) a)) (sym c.in-Absent.ensures.plain))

use Rattle.std.proofs.Common.{ap, ◌∙◌, sym, lit<}
use Rattle.mpy_base.specs.Val.{Val, Str, At}
use Rattle.prim_methods.specs.arena_heap.declared.value.Value.TheVariants as values
use Rattle.prim_methods.specs.arena_objects.Iterables.{or_nothing}
use Rattle.prim_raising.specs.py_effects.py_primitives.Outcome.{Outcome}
use Rattle.prim_raising.specs.py_effects.Effect.{on_heap}
use Rattle.prim_raising.specs.py_effects.py_primitives.Uses.{set_item}
use Rattle.prim_methods.specs.prim_walks.Plain.{plain, plain_heap}
use Rattle.prim_methods.specs.prim_faults.Sights.{world_over}
use Rattle.prim_raising.proofs.Effects.{heap_effect}
use Rattle.prim_names.proofs.Stores.{put_visits, set_name}
use Rattle.prim_names.proofs.globals.store_global.Goals as goal

pub set_item-requires-clause-leads : goal.set_item-requires-clause-leads
set_item-requires-clause-leads g c = (c.requires.stands.known 0 values.None (lit< tt)).leads

pub set_item-requires-clause-told : goal.set_item-requires-clause-told
set_item-requires-clause-told g c = (c.requires.stands.known 0 values.None (lit< tt)).told

pub returns : goal.returns
returns g c =
    let texts = g.C.Constants.text_of c.args.consts.now in
    let tuples = g.C.Constants.items_of c.args.consts.now in
    let h = c.args.arena.now in
    let name = or_nothing (texts c.args.name) in
    let v = plain texts tuples c.args.v in
    let set = set_name texts tuples h c.args.names name v (record { meets = c.requires.names; small = tt }) in
    let heap = plain_heap texts tuples h in
    heap_effect texts tuples h c.set_item.new.arena c.set_item.result (set_item heap (At c.args.names.cell) (Str name) v) _ c.set_item.ensures
    (ap (λ (r : Outcome Val). r.visits) set ∙ put_visits heap c.args.names.cell (Str name) v)
    (λ w. ap (λ (r : Outcome Val). on_heap (world_over texts tuples w h) r) (sym set))

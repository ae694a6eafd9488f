use Rattle.std.proofs.Common.{ℕ, List, ap, ◌∙◌, sym, lit<}
use Rattle.prim_methods.specs.arena_heap.declared.value.Value.TheVariants as values
use Rattle.prim_raising.specs.py_effects.py_primitives.Faults.{NotAssignable}
use Rattle.prim_raising.specs.py_effects.Effect.{faults}
use Rattle.mpy_base.specs.Val.{Val}
use Rattle.prim_raising.specs.py_effects.py_primitives.Uses.{set_item}
use Rattle.prim_methods.specs.prim_walks.Plain.{plain, plain_heap}
use Rattle.prim_methods.specs.prim_faults.declared.fault.Fault.TheVariants as arena_faults
use Rattle.prim_methods.specs.prim_faults.Sights.{world_over}
use Rattle.prim_raising.proofs.Effects.{heap_effect, fault_effect}
use Rattle.prim_names.proofs.Stores.{set_visits, stored_dict, stored_nowhere}
use Rattle.prim_names.proofs.pairs.store_pair.Goals as goal

pub container_of-requires : goal.container_of-requires
container_of-requires g c = (c.requires.known 0 values.None (lit< tt)).leads

pub set_item-requires : goal.set_item-requires
set_item-requires g c =
    let object = c.requires.known 0 values.None (lit< tt) in
    let key = c.requires.known 1 values.None (lit< tt) in
    let v = c.requires.known 2 values.None (lit< tt) in
    record { object_leads = object.leads; object_told = object.told; index_leads = key.leads; index_told = key.told; leads = v.leads; told = v.told; all_told = c.requires.all_told }

pub type_of-requires : goal.type_of-requires
type_of-requires g c = (c.requires.known 0 values.None (lit< tt)).leads

pub returns-in-Dict : goal.returns-in-Dict
returns-in-Dict g c =
    let texts = g.C.Constants.text_of c.args.consts.now in
    let tuples = g.C.Constants.items_of c.args.consts.now in
    let h = c.args.arena.now in
    let leads = (c.requires.known 0 values.None (lit< tt)).leads in
    let key = plain texts tuples c.args.key in
    let v = plain texts tuples c.args.v in
    heap_effect texts tuples h c.set_item.new.arena c.set_item.result (set_item (plain_heap texts tuples h) (plain texts tuples c.args.object) key v) _ c.set_item.ensures
    (set_visits texts tuples h c.args.object c.in-Dict.field-0 key v c.in-Dict.ensures leads)
    (λ w. stored_dict texts tuples h w c.args.object c.in-Dict.field-0 key v c.in-Dict.ensures leads)

pub returns-in_default : goal.returns-in_default
returns-in_default g c =
    let texts = g.C.Constants.text_of c.args.consts.now in
    let tuples = g.C.Constants.items_of c.args.consts.now in
    let h = c.args.arena.now in
    let leads = (c.requires.known 0 values.None (lit< tt)).leads in
    fault_effect texts tuples h (arena_faults.NotAssignable c.type_of.result) _ c.requires.all_told tt
    (λ w. stored_nowhere texts tuples h w c.args.object (plain texts tuples c.args.key) (plain texts tuples c.args.v) c.container_of.result c.container_of.ensures c.in_default.not-Dict leads
    ∙ ap (λ (t : List ℕ). faults {A = Val} (NotAssignable t) (world_over texts tuples w h)) (sym (c.type_of.ensures texts tuples)))

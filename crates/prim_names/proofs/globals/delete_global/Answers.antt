use Rattle.std.proofs.Common.{ℕ, Option, Ok, Err, refl, sym, ap, ◌∙◌, subst}
use Rattle.prim_methods.specs.arena_heap.declared.value.Value.{Value}
use Rattle.mpy_base.specs.World.{Heap}
use Rattle.mpy_base.specs.Val.{Val, Nil}
use Rattle.prim_methods.specs.arena_heap.declared.value.Value.TheVariants as values
use Rattle.prim_methods.specs.arena_objects.Iterables.{or_nothing}
use Rattle.prim_raising.specs.py_effects.py_values.Shown.{PlainHeap}
use Rattle.prim_raising.specs.py_effects.py_primitives.Outcome.{gives}
use Rattle.prim_raising.specs.py_effects.Effect.{does}
use Rattle.prim_raising.specs.py_effects.Names.{deleted_global, delete_global}
use Rattle.prim_methods.specs.prim_walks.Plain.{plain_heap}
use Rattle.prim_methods.specs.prim_faults.declared.fault.Fault.TheVariants as faults
use Rattle.prim_methods.specs.prim_faults.declared.stop.Stop.TheVariants.{Raises}
use Rattle.prim_methods.proofs.prim_faults_lemmas.Outcomes.{answered}
use Rattle.prim_methods.specs.prim_faults.Sights.{world_over}
use Rattle.prim_raising.specs.Worlds.{HasEffect}
use Rattle.prim_raising.proofs.Effects.{heap_effect, fault_effect}
use Rattle.prim_names.proofs.Namespaces.{named_there, named_nowhere, name_deleted}
use Rattle.prim_names.proofs.globals.delete_global.Goals as goal

pub returns-in-Some : goal.returns-in-Some
returns-in-Some g c =
    let texts = g.C.Constants.text_of c.args.consts.now in
    let tuples = g.C.Constants.items_of c.args.consts.now in
    let h = c.args.arena.now in
    let new = c.dict_delete.new.arena in
    let names = c.args.names.cell in
    let name = or_nothing (texts c.args.name) in
    let found = c.in-Some.ensures.found in
    let outcome = gives Nil (plain_heap texts tuples new) in
    heap_effect texts tuples h new (Ok values.None) outcome _
    (answered texts tuples h new values.None outcome c.in-Some.ensures.later c.in-Some.ensures.all_told (record { meets = tt; small = tt }) tt refl) refl
    (λ w. ap (λ (o : Option Val). deleted_global (world_over texts tuples w h) names name o)
    (named_there texts tuples h names c.requires.names c.sound_law.ensures c.requires.stands.all_told c.args.name c.requires.name w c.in-Some.field-0 found)
    ∙ ap (λ (heap : PlainHeap). does Nil (record w { heap = heap }))
    (name_deleted texts tuples h names c.requires.names c.sound_law.ensures c.requires.stands.all_told c.args.name c.requires.name new found.at found.stands (c.in-Some.ensures.deleted found.at found.stands)))

pub returns-in-None : goal.returns-in-None
returns-in-None g c =
    let texts = g.C.Constants.text_of c.args.consts.now in
    let tuples = g.C.Constants.items_of c.args.consts.now in
    let h = c.args.arena.now in
    let names = c.args.names.cell in
    let name = or_nothing (texts c.args.name) in
    subst (λ (new : Heap Value ℕ). HasEffect texts tuples h new (Err (Raises (faults.NoSuchName c.args.name))) (λ w see. delete_global w names (see.text c.args.name))) (sym c.in-None.ensures.unchanged)
    (fault_effect texts tuples h (faults.NoSuchName c.args.name) _ c.requires.stands.all_told c.requires.name
    (λ w. ap (λ (o : Option Val). deleted_global (world_over texts tuples w h) names name o)
    (named_nowhere texts tuples h names c.requires.names c.sound_law.ensures c.requires.stands.all_told c.args.name c.requires.name w c.in-None.ensures.none)))

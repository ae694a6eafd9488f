use Rattle.std.proofs.Common.{Option, sym, ap}
use Rattle.mpy_base.specs.declared.builtin.Builtin.{Builtin}
use Rattle.prim_methods.specs.arena_heap.declared.value.Value.TheVariants as values
use Rattle.prim_methods.specs.arena_objects.Iterables.{or_nothing}
use Rattle.prim_raising.specs.py_effects.Names.{built_in}
use Rattle.prim_methods.specs.prim_faults.declared.fault.Fault.TheVariants as faults
use Rattle.prim_methods.specs.prim_faults.Sights.{world_over}
use Rattle.prim_raising.proofs.Effects.{value_effect, fault_effect}
use Rattle.prim_names.proofs.globals.load_builtin.Goals as goal

pub returns-in-Some : goal.returns-in-Some
returns-in-Some g c =
    let texts = g.C.Constants.text_of c.args.consts.now in
    let tuples = g.C.Constants.items_of c.args.consts.now in
    let h = c.args._arena.now in
    let found = c.in-Some.ensures in
    value_effect texts tuples h (values.Built c.in-Some.b) _ c.requires.stands.all_told (record { meets = tt; small = tt }) tt
    (λ w. ap (λ (o : Option Builtin). built_in (world_over texts tuples w h) (or_nothing (texts c.args.name)) o) (sym found))

pub returns-in-None : goal.returns-in-None
returns-in-None g c =
    let texts = g.C.Constants.text_of c.args.consts.now in
    let tuples = g.C.Constants.items_of c.args.consts.now in
    let h = c.args._arena.now in
    let found = c.in-None.ensures in
    fault_effect texts tuples h (faults.NoSuchName c.args.name) _ c.requires.stands.all_told c.requires.name
    (λ w. ap (λ (o : Option Builtin). built_in (world_over texts tuples w h) (or_nothing (texts c.args.name)) o) (sym found))

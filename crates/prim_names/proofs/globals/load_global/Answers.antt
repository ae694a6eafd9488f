use Rattle.std.proofs.Common.{Option, ap}
use Rattle.mpy_base.specs.Val.{Val}
use Rattle.prim_methods.specs.arena_objects.Iterables.{or_nothing}
use Rattle.prim_raising.specs.py_effects.Names.{found_global}
use Rattle.prim_methods.specs.prim_faults.Sights.{world_over}
use Rattle.prim_raising.proofs.Effects.{value_effect, same_effect}
use Rattle.prim_names.proofs.Namespaces.{named_there, named_nowhere}
use Rattle.prim_names.proofs.globals.load_global.Goals as goal

pub returns-in-Some : goal.returns-in-Some
returns-in-Some g c =
    let texts = g.C.Constants.text_of c.args.consts.now in
    let tuples = g.C.Constants.items_of c.args.consts.now in
    let h = c.args.arena.now in
    let v = c.in-Some.v in
    value_effect texts tuples h v _ c.requires.stands.all_told c.in-Some.ensures.leads c.in-Some.ensures.told
    (λ w. ap (λ (o : Option Val). found_global (world_over texts tuples w h) (or_nothing (texts c.args.name)) o)
    (named_there texts tuples h c.args.names.cell c.requires.names c.sound_law.ensures c.requires.stands.all_told c.args.name c.requires.name w v c.in-Some.ensures.found))

pub returns-in-None : goal.returns-in-None
returns-in-None g c =
    let texts = g.C.Constants.text_of c.args.consts.now in
    let tuples = g.C.Constants.items_of c.args.consts.now in
    let h = c.args.arena.now in
    same_effect texts tuples h h c.load_builtin.result _ _
    (λ w. ap (λ (o : Option Val). found_global (world_over texts tuples w h) (or_nothing (texts c.args.name)) o)
    (named_nowhere texts tuples h c.args.names.cell c.requires.names c.sound_law.ensures c.requires.stands.all_told c.args.name c.requires.name w c.in-None.ensures.none))
    c.load_builtin.ensures

use Rattle.std.proofs.Common.{Option, ap, subst}
use Rattle.std.specs.Option.{option_map}
use Rattle.std.specs.Prelude.{IfSome}
use Rattle.prim_methods.specs.arena_heap.declared.value.Value.{Value}
use Rattle.prim_raising.specs.py_effects.Names.{assigned}
use Rattle.prim_methods.specs.prim_walks.Plain.{plain}
use Rattle.prim_methods.specs.prim_faults.declared.fault.Fault.TheVariants as faults
use Rattle.prim_methods.specs.prim_faults.Faults.{IsKnown}
use Rattle.prim_methods.specs.prim_faults.Sights.{world_over}
use Rattle.prim_raising.proofs.Effects.{value_effect, fault_effect}
use Rattle.prim_names.proofs.locals.assigned.Goals as goal

pub returns-in-Some : goal.returns-in-Some
returns-in-Some g c =
    let texts = g.C.Constants.text_of c.args._consts.now in
    let tuples = g.C.Constants.items_of c.args._consts.now in
    let h = c.args._arena.now in
    let known = subst (λ (o : Option Value). IfSome o (IsKnown texts tuples h.objects)) c.in-Some.is c.requires.known in
    value_effect texts tuples h c.in-Some.v _ c.requires.stands.all_told known.leads known.told
    (λ w. ap (λ (o : Option Value). assigned (world_over texts tuples w h) (option_map (plain texts tuples) o)) c.in-Some.is)

pub returns-in-None : goal.returns-in-None
returns-in-None g c =
    let texts = g.C.Constants.text_of c.args._consts.now in
    let tuples = g.C.Constants.items_of c.args._consts.now in
    let h = c.args._arena.now in
    fault_effect texts tuples h faults.Unassigned _ c.requires.stands.all_told tt
    (λ w. ap (λ (o : Option Value). assigned (world_over texts tuples w h) (option_map (plain texts tuples) o)) c.in-None.is)

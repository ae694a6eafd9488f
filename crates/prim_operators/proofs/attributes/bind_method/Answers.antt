use Rattle.std.proofs.Common.{[], refl}
use Rattle.std.proofs.lemmas.List.Elements.{All-nil, All-cons}
use Rattle.prim_faults.specs.mpy_base.World.{MethodObject}
use Rattle.prim_faults.specs.arena_heap.declared.value.Value.TheVariants as values
use Rattle.prim_faults.specs.arena_heap.Values.{ArenaObject}
use Rattle.prim_faults.specs.arena_heap.Constants.{IsTold}
use Rattle.prim_faults.specs.prim_walks.Plain.{plain_heap}
use Rattle.prim_faults.proofs.Outcomes.{made_outcome, refused_outcome}
use Rattle.prim_operators.proofs.attributes.bind_method.Goals as goal

pub returns-in-Ok : goal.returns-in-Ok
returns-in-Ok g c =
    let texts = g.C.Constants.text_of c.args.consts.now in
    let tuples = g.C.Constants.items_of c.args.consts.now in
    let h = c.args.arena.now in
    let heap = plain_heap texts tuples h in
    let o : ArenaObject = MethodObject c.args.object c.args.method in
    made_outcome texts tuples h c.make_method.new.self o c.requires.all_told _ refl _ (values.Method c.in-Ok.m) c.in-Ok.ensures.made refl
    (record { meets = c.in-Ok.ensures.kind; small = tt }) tt (All-cons (IsTold texts tuples) c.args.object [] c.requires.told (All-nil (IsTold texts tuples)))

pub returns-in-Err : goal.returns-in-Err
returns-in-Err g c =
    let texts = g.C.Constants.text_of c.args.consts.now in
    let tuples = g.C.Constants.items_of c.args.consts.now in
    let h = c.args.arena.now in
    let heap = plain_heap texts tuples h in
    let o : ArenaObject = MethodObject c.args.object c.args.method in
    refused_outcome texts tuples h c.make_method.new.self o c.requires.all_told _ refl c.in-Err.room c.in-Err.ensures.refused

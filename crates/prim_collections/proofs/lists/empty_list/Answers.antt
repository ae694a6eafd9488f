use Rattle.std.proofs.Common.{[], refl}
use Rattle.std.proofs.lemmas.List.Elements.{All-nil}
use Rattle.prim_builtins.specs.arena_heap.declared.value.Value.TheVariants as values
use Rattle.prim_builtins.specs.arena_heap.Constants.{IsTold}
use Rattle.prim_builtins.specs.mpy_base.World.{ListObject}
use Rattle.prim_builtins.specs.mpy_base.Weights.{room_for}
use Rattle.prim_builtins.proofs.prim_faults_lemmas.Outcomes.{made_outcome}
use Rattle.prim_collections.proofs.lists.empty_list.Goals as goal

pub returns-in-Ok : goal.returns-in-Ok
returns-in-Ok g c =
    let texts = g.C.Constants.text_of c.args._consts.now in
    let tuples = g.C.Constants.items_of c.args._consts.now in
    made_outcome texts tuples c.args.arena.now c.make_list.new.self (ListObject [] (room_for 0)) c.requires.all_told _ refl c.in-Ok.l.cell (values.List c.in-Ok.l) c.in-Ok.ensures.made refl
    (record { meets = c.in-Ok.ensures.kind; small = tt }) tt (All-nil (IsTold texts tuples))

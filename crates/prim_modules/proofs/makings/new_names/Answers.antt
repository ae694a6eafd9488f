use Rattle.std.proofs.Common.{[], refl}
use Rattle.std.proofs.lemmas.List.Elements.{All-nil}
use Rattle.mpy_base.specs.World.{DictObject}
use Rattle.prim_assignments.specs.arena_heap.declared.value.Value.TheVariants as values
use Rattle.prim_assignments.specs.arena_heap.Values.{ArenaObject}
use Rattle.prim_assignments.specs.arena_heap.Constants.{IsTold}
use Rattle.prim_assignments.proofs.prim_faults_lemmas.Outcomes.{made_outcome, refused_outcome}
use Rattle.prim_modules.proofs.makings.new_names.Goals as goal

pub returns-in-Ok : goal.returns-in-Ok
returns-in-Ok g c =
    let texts = g.C.Constants.text_of c.args._consts.now in
    let tuples = g.C.Constants.items_of c.args._consts.now in
    let o : ArenaObject = DictObject [] 4 in
    made_outcome texts tuples c.args.arena.now c.make_dict.new.self o c.requires _ refl _ (values.Dict c.in-Ok.d) c.in-Ok.ensures.made refl
    (record { meets = c.in-Ok.ensures.kind; small = tt }) tt (All-nil (IsTold texts tuples))

pub returns-in-Err : goal.returns-in-Err
returns-in-Err g c =
    let texts = g.C.Constants.text_of c.args._consts.now in
    let tuples = g.C.Constants.items_of c.args._consts.now in
    let o : ArenaObject = DictObject [] 4 in
    refused_outcome texts tuples c.args.arena.now c.make_dict.new.self o c.requires _ refl c.in-Err.room c.in-Err.ensures.refused

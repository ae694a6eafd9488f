use Rattle.std.proofs.Common.{ℕ, List, [], Option, refl, sym, ap}
use Rattle.std.proofs.lemmas.List.Elements.{All-nil, All-cons}
use Rattle.mpy_base.specs.World.{ExceptionObject}
use Rattle.prim_types.specs.arena_heap.declared.value.Value.TheVariants as values
use Rattle.prim_types.specs.arena_heap.Values.{ArenaObject}
use Rattle.prim_types.specs.arena_heap.Constants.{IsTold}
use Rattle.prim_types.specs.arena_objects.Iterables.{or_nothing}
use Rattle.prim_types.specs.py_primitives.Outcome.{making}
use Rattle.prim_types.specs.prim_walks.Plain.{plain, plain_heap}
use Rattle.prim_types.proofs.prim_faults_lemmas.Outcomes.{made_outcome, refused_outcome}
use Rattle.prim_raising.proofs.makings.make_exception.Goals as goal

pub returns-in-Ok : goal.returns-in-Ok
returns-in-Ok g c =
    let texts = g.C.Constants.text_of c.args.consts.now in
    let tuples = g.C.Constants.items_of c.args.consts.now in
    let h = c.args.arena.now in
    let o : ArenaObject = ExceptionObject c.args.kind c.args.args 1 0 1 in
    let is = ap (λ (s : Option (List ℕ)). making (plain_heap texts tuples h) (ExceptionObject c.args.kind (plain texts tuples c.args.args) (or_nothing s) 0 (or_nothing s))) (sym c.empty_law.ensures) in
    made_outcome texts tuples h c.make_exc.new.self o c.requires.all_told _ is _ (values.Exc c.in-Ok.x) c.in-Ok.ensures.made refl
    (record { meets = c.in-Ok.ensures.kind; small = tt }) tt (All-cons (IsTold texts tuples) c.args.args [] c.requires.told (All-nil (IsTold texts tuples)))

pub returns-in-Err : goal.returns-in-Err
returns-in-Err g c =
    let texts = g.C.Constants.text_of c.args.consts.now in
    let tuples = g.C.Constants.items_of c.args.consts.now in
    let h = c.args.arena.now in
    let o : ArenaObject = ExceptionObject c.args.kind c.args.args 1 0 1 in
    let is = ap (λ (s : Option (List ℕ)). making (plain_heap texts tuples h) (ExceptionObject c.args.kind (plain texts tuples c.args.args) (or_nothing s) 0 (or_nothing s))) (sym c.empty_law.ensures) in
    refused_outcome texts tuples h c.make_exc.new.self o c.requires.all_told _ is c.in-Err.room c.in-Err.ensures.refused

use Rattle.std.proofs.Common.{List, [], ◌∷◌, replicate, set, refl, ap, ◌∙◌}
use Rattle.std.proofs.lemmas.List.Elements.{All-nil, All-cons}
use Rattle.mpy_base.specs.World.{TupleObject, ATuple, items_of, with_tuple}
use Rattle.mpy_base.specs.Weights.{Made}
use Rattle.mpy_base.proofs.Worlds.{object_made}
use Rattle.prim_types.specs.arena_heap.declared.value.Value.{Value}
use Rattle.prim_types.specs.arena_heap.declared.value.Value.TheVariants as values
use Rattle.prim_types.specs.arena_heap.Constants.{IsTold}
use Rattle.prim_types.proofs.prim_faults_lemmas.Outcomes.{made_outcome, refused_outcome}
use Rattle.prim_types.proofs.prim_operators_lemmas.ItemFills.{tuple_made}
use Rattle.prim_raising.proofs.makings.make_single.Goals as goal

pub returns-in-Ok : goal.returns-in-Ok
returns-in-Ok g c =
    let texts = g.C.Constants.text_of c.args._consts.now in
    let tuples = g.C.Constants.items_of c.args._consts.now in
    let h = c.args.arena.now in
    let v = c.args.v in
    let made = c.make_tuple.new.self in
    let t = c.in-Ok.t in
    let new = c.tuple_fill.new.arena in
    let m : Made h made t.cell (TupleObject (replicate 1 values.None)) = c.in-Ok.ensures.made in
    let put = c.tuple_fill.ensures.filled ∙ ap (λ (xs : List Value). with_tuple made t.cell (set xs 0 v)) (ap items_of (object_made m)) in
    let whole = tuple_made (replicate 1 values.None) m new (v ∷ []) refl put in
    made_outcome texts tuples h new (TupleObject (v ∷ [])) c.requires.all_told _ refl t.cell (values.Tuple t) whole refl
    (record { meets = c.tuple_fill.ensures.later.keeps ATuple t.cell c.in-Ok.ensures.kind; small = tt }) tt
    (All-cons (IsTold texts tuples) v [] c.requires.told (All-nil (IsTold texts tuples)))

pub returns-in-Err : goal.returns-in-Err
returns-in-Err g c =
    let texts = g.C.Constants.text_of c.args._consts.now in
    let tuples = g.C.Constants.items_of c.args._consts.now in
    refused_outcome texts tuples c.args.arena.now c.make_tuple.new.self (TupleObject (c.args.v ∷ [])) c.requires.all_told _ refl c.in-Err.room c.in-Err.ensures.refused

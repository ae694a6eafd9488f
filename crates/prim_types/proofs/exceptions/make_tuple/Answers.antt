use Rattle.std.proofs.Common.{◌≡◌, ℕ, suc, ◌+◌, ◌<◌, length, replicate, refl, subst, arith}
use Rattle.std.proofs.lemmas.List.{length-replicate}
use Rattle.std.proofs.lemmas.List.Elements.{All-weaker}
use Rattle.mpy_base.specs.World.{TupleObject, ATuple}
use Rattle.mpy_base.specs.Weights.{Made, Refused}
use Rattle.mpy_base.specs.Val.{Val}
use Rattle.mpy_base.proofs.Worlds.{object_made}
use Rattle.prim_builtins.specs.arena_heap.declared.value.Value.{Value}
use Rattle.prim_builtins.specs.arena_heap.declared.value.Value.TheVariants as values
use Rattle.prim_builtins.proofs.arena_heap_lemmas.Sounds.{leads_later}
use Rattle.prim_builtins.specs.prim_walks.Plain.{plain, plain_heap}
use Rattle.prim_builtins.specs.prim_faults.Faults.{IsKnown}
use Rattle.prim_builtins.proofs.prim_faults_lemmas.Outcomes.{made_outcome, refused_outcome}
use Rattle.prim_builtins.proofs.prim_operators_lemmas.ItemFills.{told_nones, nones_made, tuple_made, tuple_making, held_told}
use Rattle.prim_types.proofs.exceptions.make_tuple.Goals as goal

pub fill_arguments-requires-clause-known : goal.fill_arguments-requires-clause-known
fill_arguments-requires-clause-known g c =
    let texts = g.C.Constants.text_of c.args.consts.now in
    let tuples = g.C.Constants.items_of c.args.consts.now in
    let h = c.args.arena.now in
    let later = c.make_tuple.ensures.later in
    let made = c.make_tuple.new.self in
    All-weaker (IsKnown texts tuples h.objects) (IsKnown texts tuples made.objects) (λ v k. record { leads = leads_later later v k.leads; told = k.told }) c.args.args.now c.requires.known

pub fill_arguments-requires-clause-all_told : goal.fill_arguments-requires-clause-all_told
fill_arguments-requires-clause-all_told g c =
    let texts = g.C.Constants.text_of c.args.consts.now in
    let tuples = g.C.Constants.items_of c.args.consts.now in
    let h = c.args.arena.now in
    told_nones texts tuples (length c.args.args.now) c.in-Ok.ensures.made c.requires.all_told

pub fill_arguments-requires-clause-room : goal.fill_arguments-requires-clause-room
fill_arguments-requires-clause-room g c = nones_made (length c.args.args.now) c.in-Ok.ensures.made

pub returns-in-Ok-clause-outcome : goal.returns-in-Ok-clause-outcome
returns-in-Ok-clause-outcome g c =
    let texts = g.C.Constants.text_of c.args.consts.now in
    let tuples = g.C.Constants.items_of c.args.consts.now in
    let h = c.args.arena.now in
    let heap = plain_heap texts tuples h in
    let target = c.args.args.now in
    let p : Value → Val = plain texts tuples in
    let len = length target in
    let made = c.make_tuple.new.self in
    let m : Made h made c.in-Ok.t.cell (TupleObject (replicate len values.None)) = c.in-Ok.ensures.made in
    let t = c.in-Ok.t in
    let new = c.fill_arguments.new.arena in
    let all : length (replicate len values.None) ≡ length target = length-replicate len values.None in
    let some : 0 < length target = omega (arith, c.if-count-eq0.false) in
    let whole = tuple_made (replicate len values.None) m new target all c.fill_arguments.ensures.filled in
    made_outcome texts tuples h new (TupleObject target) c.requires.all_told _ (tuple_making heap p target some) t.cell (values.Tuple t) whole refl
    (record { meets = c.fill_arguments.ensures.later.keeps ATuple t.cell c.in-Ok.ensures.kind; small = tt }) tt
    (held_told texts tuples new t.cell (TupleObject target) c.fill_arguments.ensures.all_told (object_made whole))

pub returns-in-Err-clause-outcome : goal.returns-in-Err-clause-outcome
returns-in-Err-clause-outcome g c =
    let texts = g.C.Constants.text_of c.args.consts.now in
    let tuples = g.C.Constants.items_of c.args.consts.now in
    let h = c.args.arena.now in
    let heap = plain_heap texts tuples h in
    let target = c.args.args.now in
    let p : Value → Val = plain texts tuples in
    let new = c.make_tuple.new.self in
    let some : 0 < length target = omega (arith, c.if-count-eq0.false) in
    let cells : 1 + length target ≡ suc (length target) = omega arith in
    let refused : Refused h new c.in-Err.room (suc (length target)) 0 = subst (λ (n : ℕ). Refused h new c.in-Err.room n 0) cells c.in-Err.ensures.refused in
    refused_outcome texts tuples h new (TupleObject target) c.requires.all_told _ (tuple_making heap p target some) c.in-Err.room refused

use Rattle.std.proofs.Common.{◌≡◌, ℕ, suc, ◌+◌, ◌<◌, List, length, replicate, refl, ap, ◌∙◌, subst, arith}
use Rattle.std.proofs.lemmas.List.{length-replicate}
use Rattle.prim_faults.specs.mpy_base.World.{TupleObject, ATuple, with_tuple}
use Rattle.prim_faults.specs.mpy_base.Weights.{Made, Refused}
use Rattle.prim_faults.specs.mpy_base.Val.{Val}
use Rattle.prim_faults.proofs.mpy_base_lemmas.Worlds.{object_made, used_made}
use Rattle.prim_faults.specs.arena_heap.declared.value.Value.{Value}
use Rattle.prim_faults.specs.arena_heap.declared.value.Value.TheVariants as values
use Rattle.prim_faults.specs.prim_walks.Plain.{plain, plain_heap}
use Rattle.prim_faults.proofs.Outcomes.{made_outcome, refused_outcome}
use Rattle.prim_operators.specs.Sources.{source_items}
use Rattle.prim_operators.proofs.ItemFills.{source_later, items_made, elsewhere_made, told_nones, nones_made, tuple_made, tuple_making, held_told}
use Rattle.prim_operators.proofs.item_joins.make_joined_tuple.Goals as goal

pub fill_tuple-requires-clause-known : goal.fill_tuple-requires-clause-known
fill_tuple-requires-clause-known g c =
    let texts = g.C.Constants.text_of c.args.consts.now in
    let tuples = g.C.Constants.items_of c.args.consts.now in
    let h = c.args.arena.now in
    let heap = plain_heap texts tuples h in
    let source = c.args.source in
    let target = source_items tuples h source in
    let p : Value → Val = plain texts tuples in
    let len = c.items_len-len.result in
    let made = c.make_tuple.new.self in
    let m : Made h made c.in-Ok.t.cell (TupleObject (replicate len values.None)) = c.in-Ok.ensures.made in
    let same = items_made texts tuples m source c.requires.known in
    source_later texts tuples c.make_tuple.ensures.later source c.requires.known

pub fill_tuple-requires-clause-all_told : goal.fill_tuple-requires-clause-all_told
fill_tuple-requires-clause-all_told g c =
    let texts = g.C.Constants.text_of c.args.consts.now in
    let tuples = g.C.Constants.items_of c.args.consts.now in
    let h = c.args.arena.now in
    let heap = plain_heap texts tuples h in
    let source = c.args.source in
    let target = source_items tuples h source in
    let p : Value → Val = plain texts tuples in
    let len = c.items_len-len.result in
    let made = c.make_tuple.new.self in
    let m : Made h made c.in-Ok.t.cell (TupleObject (replicate len values.None)) = c.in-Ok.ensures.made in
    let same = items_made texts tuples m source c.requires.known in
    told_nones texts tuples len m c.requires.all_told

pub fill_tuple-requires-clause-apart : goal.fill_tuple-requires-clause-apart
fill_tuple-requires-clause-apart g c =
    let texts = g.C.Constants.text_of c.args.consts.now in
    let tuples = g.C.Constants.items_of c.args.consts.now in
    let h = c.args.arena.now in
    let heap = plain_heap texts tuples h in
    let source = c.args.source in
    let target = source_items tuples h source in
    let p : Value → Val = plain texts tuples in
    let len = c.items_len-len.result in
    let made = c.make_tuple.new.self in
    let m : Made h made c.in-Ok.t.cell (TupleObject (replicate len values.None)) = c.in-Ok.ensures.made in
    let same = items_made texts tuples m source c.requires.known in
    elsewhere_made texts tuples m source c.requires.known

pub fill_tuple-requires-clause-items : goal.fill_tuple-requires-clause-items
fill_tuple-requires-clause-items g c =
    let texts = g.C.Constants.text_of c.args.consts.now in
    let tuples = g.C.Constants.items_of c.args.consts.now in
    let h = c.args.arena.now in
    let heap = plain_heap texts tuples h in
    let source = c.args.source in
    let target = source_items tuples h source in
    let p : Value → Val = plain texts tuples in
    let len = c.items_len-len.result in
    let made = c.make_tuple.new.self in
    let m : Made h made c.in-Ok.t.cell (TupleObject (replicate len values.None)) = c.in-Ok.ensures.made in
    let same = items_made texts tuples m source c.requires.known in
    omega (arith, used_made m, length-replicate len values.None, ap (λ (xs : List Value). length xs) same, c.items_len-len.ensures)

pub fill_tuple-requires-clause-room : goal.fill_tuple-requires-clause-room
fill_tuple-requires-clause-room g c =
    let texts = g.C.Constants.text_of c.args.consts.now in
    let tuples = g.C.Constants.items_of c.args.consts.now in
    let h = c.args.arena.now in
    let heap = plain_heap texts tuples h in
    let source = c.args.source in
    let target = source_items tuples h source in
    let p : Value → Val = plain texts tuples in
    let len = c.items_len-len.result in
    let made = c.make_tuple.new.self in
    let m : Made h made c.in-Ok.t.cell (TupleObject (replicate len values.None)) = c.in-Ok.ensures.made in
    let same = items_made texts tuples m source c.requires.known in
    omega (arith, used_made m, length-replicate len values.None, nones_made len m)

pub returns-in-Ok : goal.returns-in-Ok
returns-in-Ok g c =
    let texts = g.C.Constants.text_of c.args.consts.now in
    let tuples = g.C.Constants.items_of c.args.consts.now in
    let h = c.args.arena.now in
    let heap = plain_heap texts tuples h in
    let source = c.args.source in
    let target = source_items tuples h source in
    let p : Value → Val = plain texts tuples in
    let len = c.items_len-len.result in
    let made = c.make_tuple.new.self in
    let m : Made h made c.in-Ok.t.cell (TupleObject (replicate len values.None)) = c.in-Ok.ensures.made in
    let same = items_made texts tuples m source c.requires.known in
    let t = c.in-Ok.t in
    let new = c.fill_tuple.new.arena in
    let filled = c.fill_tuple.ensures.filled ∙ ap (λ (xs : List Value). with_tuple made t.cell xs) same in
    let all : length (replicate len values.None) ≡ length target = omega (arith, length-replicate len values.None, c.items_len-len.ensures) in
    let some : 0 < length target = omega (arith, c.if-len-eq0.false, c.items_len-len.ensures) in
    let whole = tuple_made (replicate len values.None) m new target all filled in
    made_outcome texts tuples h new (TupleObject target) c.requires.all_told _ (tuple_making heap p target some) t.cell (values.Tuple t) whole refl
    (record { meets = c.fill_tuple.ensures.later.keeps ATuple t.cell c.in-Ok.ensures.kind; small = tt }) tt
    (held_told texts tuples new t.cell (TupleObject target) c.fill_tuple.ensures.all_told (object_made whole))

pub returns-in-Err : goal.returns-in-Err
returns-in-Err g c =
    let texts = g.C.Constants.text_of c.args.consts.now in
    let tuples = g.C.Constants.items_of c.args.consts.now in
    let h = c.args.arena.now in
    let heap = plain_heap texts tuples h in
    let source = c.args.source in
    let target = source_items tuples h source in
    let p : Value → Val = plain texts tuples in
    let new = c.make_tuple.new.self in
    let some : 0 < length target = omega (arith, c.if-len-eq0.false, c.items_len-len.ensures) in
    let cells : 1 + c.items_len-len.result ≡ suc (length target) = omega (arith, c.items_len-len.ensures) in
    let refused : Refused h new c.in-Err.room (suc (length target)) 0 = subst (λ (n : ℕ). Refused h new c.in-Err.room n 0) cells c.in-Err.ensures.refused in
    refused_outcome texts tuples h new (TupleObject target) c.requires.all_told _ (tuple_making heap p target some) c.in-Err.room refused

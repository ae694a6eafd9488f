use Rattle.std.proofs.Common.{◌≡◌, ℕ, suc, ◌+◌, List, [], length, map, refl, sym, ap, ◌∙◌, subst, arith}
use Rattle.std.proofs.lemmas.List.{length-map}
use Rattle.prim_faults.specs.mpy_base.World.{ListObject, AList, with_list}
use Rattle.prim_faults.specs.mpy_base.Weights.{Made, Refused, room_for}
use Rattle.prim_faults.specs.mpy_base.Val.{Val}
use Rattle.prim_faults.proofs.mpy_base_lemmas.Rooms.{room_is}
use Rattle.prim_faults.proofs.mpy_base_lemmas.Worlds.{object_made, used_made}
use Rattle.prim_faults.specs.arena_heap.declared.value.Value.{Value}
use Rattle.prim_faults.specs.arena_heap.declared.value.Value.TheVariants as values
use Rattle.prim_faults.specs.py_primitives.Outcome.{making}
use Rattle.prim_faults.specs.prim_walks.Plain.{plain, plain_heap}
use Rattle.prim_faults.proofs.Outcomes.{made_outcome, refused_outcome}
use Rattle.prim_operators.specs.Sources.{source_items}
use Rattle.prim_operators.proofs.ItemFills.{source_later, items_made, elsewhere_made, told_empty, empty_made, room_made, list_made, held_told}
use Rattle.prim_operators.proofs.item_joins.make_joined_list.Goals as goal

pub fill_list-requires-clause-known : goal.fill_list-requires-clause-known
fill_list-requires-clause-known g c =
    let texts = g.C.Constants.text_of c.args.consts.now in
    let tuples = g.C.Constants.items_of c.args.consts.now in
    let h = c.args.arena.now in
    let heap = plain_heap texts tuples h in
    let source = c.args.source in
    let target = source_items tuples h source in
    let p : Value → Val = plain texts tuples in
    let len = c.items_len-len.result in
    let made = c.make_list.new.self in
    let m : Made h made c.in-Ok.l.cell (ListObject [] (room_for len)) = c.in-Ok.ensures.made in
    let same = items_made texts tuples m source c.requires.known in
    source_later texts tuples c.make_list.ensures.later source c.requires.known

pub fill_list-requires-clause-all_told : goal.fill_list-requires-clause-all_told
fill_list-requires-clause-all_told g c =
    let texts = g.C.Constants.text_of c.args.consts.now in
    let tuples = g.C.Constants.items_of c.args.consts.now in
    let h = c.args.arena.now in
    let heap = plain_heap texts tuples h in
    let source = c.args.source in
    let target = source_items tuples h source in
    let p : Value → Val = plain texts tuples in
    let len = c.items_len-len.result in
    let made = c.make_list.new.self in
    let m : Made h made c.in-Ok.l.cell (ListObject [] (room_for len)) = c.in-Ok.ensures.made in
    let same = items_made texts tuples m source c.requires.known in
    told_empty texts tuples m c.requires.all_told

pub fill_list-requires-clause-apart : goal.fill_list-requires-clause-apart
fill_list-requires-clause-apart g c =
    let texts = g.C.Constants.text_of c.args.consts.now in
    let tuples = g.C.Constants.items_of c.args.consts.now in
    let h = c.args.arena.now in
    let heap = plain_heap texts tuples h in
    let source = c.args.source in
    let target = source_items tuples h source in
    let p : Value → Val = plain texts tuples in
    let len = c.items_len-len.result in
    let made = c.make_list.new.self in
    let m : Made h made c.in-Ok.l.cell (ListObject [] (room_for len)) = c.in-Ok.ensures.made in
    let same = items_made texts tuples m source c.requires.known in
    elsewhere_made texts tuples m source c.requires.known

pub fill_list-requires-clause-items : goal.fill_list-requires-clause-items
fill_list-requires-clause-items g c =
    let texts = g.C.Constants.text_of c.args.consts.now in
    let tuples = g.C.Constants.items_of c.args.consts.now in
    let h = c.args.arena.now in
    let heap = plain_heap texts tuples h in
    let source = c.args.source in
    let target = source_items tuples h source in
    let p : Value → Val = plain texts tuples in
    let len = c.items_len-len.result in
    let made = c.make_list.new.self in
    let m : Made h made c.in-Ok.l.cell (ListObject [] (room_for len)) = c.in-Ok.ensures.made in
    let same = items_made texts tuples m source c.requires.known in
    let holds = (room_is len).holds in
    omega (arith, holds, used_made m, ap (λ (xs : List Value). length xs) same, c.items_len-len.ensures)

pub fill_list-requires-clause-empty : goal.fill_list-requires-clause-empty
fill_list-requires-clause-empty g c =
    let texts = g.C.Constants.text_of c.args.consts.now in
    let tuples = g.C.Constants.items_of c.args.consts.now in
    let h = c.args.arena.now in
    let heap = plain_heap texts tuples h in
    let source = c.args.source in
    let target = source_items tuples h source in
    let p : Value → Val = plain texts tuples in
    let len = c.items_len-len.result in
    let made = c.make_list.new.self in
    let m : Made h made c.in-Ok.l.cell (ListObject [] (room_for len)) = c.in-Ok.ensures.made in
    let same = items_made texts tuples m source c.requires.known in
    empty_made m

pub fill_list-requires-clause-room : goal.fill_list-requires-clause-room
fill_list-requires-clause-room g c =
    let texts = g.C.Constants.text_of c.args.consts.now in
    let tuples = g.C.Constants.items_of c.args.consts.now in
    let h = c.args.arena.now in
    let heap = plain_heap texts tuples h in
    let source = c.args.source in
    let target = source_items tuples h source in
    let p : Value → Val = plain texts tuples in
    let len = c.items_len-len.result in
    let made = c.make_list.new.self in
    let m : Made h made c.in-Ok.l.cell (ListObject [] (room_for len)) = c.in-Ok.ensures.made in
    let same = items_made texts tuples m source c.requires.known in
    let holds = (room_is len).holds in
    omega (arith, holds, room_made m)

pub returns-in-Ok : goal.returns-in-Ok
returns-in-Ok g c =
    let texts = g.C.Constants.text_of c.args.consts.now in
    let tuples = g.C.Constants.items_of c.args.consts.now in
    let h = c.args.arena.now in
    let heap = plain_heap texts tuples h in
    let source = c.args.source in
    let target = source_items tuples h source in
    let p : Value → Val = plain texts tuples in
    let len = c.items_len-len.result in
    let made = c.make_list.new.self in
    let m : Made h made c.in-Ok.l.cell (ListObject [] (room_for len)) = c.in-Ok.ensures.made in
    let same = items_made texts tuples m source c.requires.known in
    let l = c.in-Ok.l in
    let new = c.fill_list.new.arena in
    let filled = c.fill_list.ensures.filled ∙ ap (λ (xs : List Value). with_list made l.cell xs) same in
    let whole = list_made m new target filled in
    let is = ap (λ (n : ℕ). making heap (ListObject (map p target) (room_for n))) (length-map target p ∙ sym c.items_len-len.ensures) in
    made_outcome texts tuples h new (ListObject target (room_for len)) c.requires.all_told _ is l.cell (values.List l) whole refl
    (record { meets = c.fill_list.ensures.later.keeps AList l.cell c.in-Ok.ensures.kind; small = tt }) tt
    (held_told texts tuples new l.cell (ListObject target (room_for len)) c.fill_list.ensures.all_told (object_made whole))

pub returns-in-Err : goal.returns-in-Err
returns-in-Err g c =
    let texts = g.C.Constants.text_of c.args.consts.now in
    let tuples = g.C.Constants.items_of c.args.consts.now in
    let h = c.args.arena.now in
    let heap = plain_heap texts tuples h in
    let source = c.args.source in
    let target = source_items tuples h source in
    let p : Value → Val = plain texts tuples in
    let len = c.items_len-len.result in
    let new = c.make_list.new.self in
    let is = ap (λ (n : ℕ). making heap (ListObject (map p target) (room_for n))) (length-map target p ∙ sym c.items_len-len.ensures) in
    let cells : 3 + room_for len ≡ suc (2 + room_for len) = omega arith in
    let refused : Refused h new c.in-Err.room (suc (2 + room_for len)) 0 = subst (λ (n : ℕ). Refused h new c.in-Err.room n 0) cells c.in-Err.ensures.refused in
    refused_outcome texts tuples h new (ListObject target (room_for len)) c.requires.all_told _ is c.in-Err.room refused

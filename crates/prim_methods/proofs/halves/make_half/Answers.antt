use Rattle.std.proofs.Common.{◌≡◌, ℕ, ◌+◌, suc, List, [], length, map, refl, sym, ap, ◌∙◌, subst, arith}
use Rattle.std.proofs.lemmas.List.{length-map}
use Rattle.mpy_base.specs.World.{ListObject, ADict, kind_of, pairs_of, pairs_at, with_list}
use Rattle.mpy_base.specs.Weights.{Made, Refused, room_for}
use Rattle.mpy_base.proofs.Rooms.{room_is}
use Rattle.mpy_base.proofs.Worlds.{is_within, object_before, object_made}
use Rattle.prim_assignments.specs.arena_heap.declared.value.Value.{Value}
use Rattle.prim_assignments.specs.arena_heap.declared.value.Value.TheVariants as values
use Rattle.prim_assignments.specs.arena_heap.Constants.{IsTold}
use Rattle.prim_assignments.proofs.arena_objects_lemmas.Tolds.{told_pairs}
use Rattle.prim_builtins.specs.py_primitives.Outcome.{making}
use Rattle.prim_assignments.specs.prim_walks.Plain.{plain, plain_heap}
use Rattle.prim_assignments.proofs.prim_faults_lemmas.Outcomes.{made_outcome, refused_outcome}
use Rattle.prim_assignments.proofs.prim_operators_lemmas.ItemFills.{empty_made, room_made, list_made}
use Rattle.prim_methods.specs.Halves.{half_of}
use Rattle.prim_methods.proofs.DictHalves.{half_told}
use Rattle.prim_methods.proofs.halves.make_half.Goals as goal

pub fill-requires-clause-empty : goal.fill-requires-clause-empty
fill-requires-clause-empty g c = empty_made c.in-Ok.ensures.made

pub fill-requires-clause-room : goal.fill-requires-clause-room
fill-requires-clause-room g c =
    let h = c.args.arena.now in
    let d = c.args.d.cell in
    let pairs : List (Value × Value) = pairs_at h d in
    let made = c.make_list.new.self in
    let same : pairs_at made d ≡ pairs = ap pairs_of (object_before c.in-Ok.ensures.made d (is_within h.objects ADict d c.requires.dict)) in
    let holds = (room_is c.dict_len-count.result).holds in
    omega (arith, holds, room_made c.in-Ok.ensures.made, c.dict_len-count.ensures, ap (λ (ps : List (Value × Value)). length ps) same)

pub returns-in-Ok : goal.returns-in-Ok
returns-in-Ok g c =
    let texts = g.C.Constants.text_of c.args._consts.now in
    let tuples = g.C.Constants.items_of c.args._consts.now in
    let h = c.args.arena.now in
    let heap = plain_heap texts tuples h in
    let p = plain texts tuples in
    let d = c.args.d.cell in
    let l = c.in-Ok.l in
    let pairs : List (Value × Value) = pairs_at h d in
    let target = map (half_of c.args.half) pairs in
    let len = c.dict_len-count.result in
    let made = c.make_list.new.self in
    let m : Made h made l.cell (ListObject [] (room_for len)) = c.in-Ok.ensures.made in
    let new = c.fill.new.arena in
    let same : pairs_at made d ≡ pairs = ap pairs_of (object_before m d (is_within h.objects ADict d c.requires.dict)) in
    let filled : new ≡ with_list made l.cell target = c.fill.ensures ∙ ap (λ (ps : List (Value × Value)). with_list made l.cell (map (half_of c.args.half) ps)) same in
    let whole = list_made m new target filled in
    let count : length (map p target) ≡ len = length-map target p ∙ (length-map pairs (half_of c.args.half) ∙ sym c.dict_len-count.ensures) in
    let is = ap (λ (n : ℕ). making heap (ListObject (map p target) (room_for n))) count in
    made_outcome texts tuples h new (ListObject target (room_for len)) c.requires.all_told _ is l.cell (values.List l) whole refl
    (record { meets = ap kind_of (object_made whole); small = tt }) tt
    (half_told (IsTold texts tuples) c.args.half pairs (told_pairs texts tuples h d c.requires.dict c.requires.all_told))

pub returns-in-Err : goal.returns-in-Err
returns-in-Err g c =
    let texts = g.C.Constants.text_of c.args._consts.now in
    let tuples = g.C.Constants.items_of c.args._consts.now in
    let h = c.args.arena.now in
    let heap = plain_heap texts tuples h in
    let p = plain texts tuples in
    let pairs : List (Value × Value) = pairs_at h c.args.d.cell in
    let target = map (half_of c.args.half) pairs in
    let len = c.dict_len-count.result in
    let new = c.make_list.new.self in
    let count : length (map p target) ≡ len = length-map target p ∙ (length-map pairs (half_of c.args.half) ∙ sym c.dict_len-count.ensures) in
    let is = ap (λ (n : ℕ). making heap (ListObject (map p target) (room_for n))) count in
    let cells : 3 + room_for len ≡ suc (2 + room_for len) = omega arith in
    let refused : Refused h new c.in-Err.room (suc (2 + room_for len)) 0 = subst (λ (n : ℕ). Refused h new c.in-Err.room n 0) cells c.in-Err.ensures.refused in
    refused_outcome texts tuples h new (ListObject target (room_for len)) c.requires.all_told _ is c.in-Err.room refused

use Rattle.std.proofs.Common.{◌≡◌, ℕ, ◌+◌, suc, [], length, map, refl, ap, subst, arith}
use Rattle.std.proofs.lemmas.List.{length-map}
use Rattle.std.proofs.lemmas.List.Elements.{All-weaker}
use Rattle.mpy_base.specs.World.{ListObject, kind_of}
use Rattle.mpy_base.specs.Weights.{Made, Refused, room_for}
use Rattle.mpy_base.proofs.Rooms.{room_is}
use Rattle.mpy_base.proofs.Worlds.{object_made}
use Rattle.prim_methods.specs.arena_heap.declared.value.Value.TheVariants as values
use Rattle.prim_methods.specs.arena_heap.Values.{Leads}
use Rattle.prim_methods.specs.arena_heap.Constants.{IsTold}
use Rattle.prim_methods.proofs.arena_heap_lemmas.Sounds.{leads_later}
use Rattle.prim_raising.specs.py_effects.py_primitives.Outcome.{making}
use Rattle.prim_methods.specs.prim_walks.Plain.{plain, plain_heap}
use Rattle.prim_methods.specs.prim_faults.Faults.{IsKnown}
use Rattle.prim_methods.proofs.prim_faults_lemmas.Outcomes.{made_outcome, refused_outcome}
use Rattle.prim_methods.proofs.prim_operators_lemmas.ItemFills.{empty_made, room_made, list_made}
use Rattle.prim_names.proofs.displays.make_list.Goals as goal

pub fill-requires-clause-leads : goal.fill-requires-clause-leads
fill-requires-clause-leads g c =
    let texts = g.C.Constants.text_of c.args._consts.now in
    let tuples = g.C.Constants.items_of c.args._consts.now in
    let objects = c.args.arena.now.objects in
    All-weaker (IsKnown texts tuples objects) (Leads c.make_list.new.self.objects) (λ v k. leads_later c.make_list.ensures.later v k.leads) c.args.items.now c.requires.stands.known

pub fill-requires-clause-empty : goal.fill-requires-clause-empty
fill-requires-clause-empty g c = empty_made c.in-Ok.ensures.made

pub fill-requires-clause-room : goal.fill-requires-clause-room
fill-requires-clause-room g c =
    let holds = (room_is (length c.args.items.now)).holds in
    omega (arith, holds, room_made c.in-Ok.ensures.made)

pub returns-in-Ok : goal.returns-in-Ok
returns-in-Ok g c =
    let texts = g.C.Constants.text_of c.args._consts.now in
    let tuples = g.C.Constants.items_of c.args._consts.now in
    let h = c.args.arena.now in
    let p = plain texts tuples in
    let l = c.in-Ok.l in
    let target = c.args.items.now in
    let len = length target in
    let new = c.fill.new.arena in
    let m : Made h c.make_list.new.self l.cell (ListObject [] (room_for len)) = c.in-Ok.ensures.made in
    let whole = list_made m new target c.fill.ensures in
    let is = ap (λ (n : ℕ). making (plain_heap texts tuples h) (ListObject (map p target) (room_for n))) (length-map target p) in
    made_outcome texts tuples h new (ListObject target (room_for len)) c.requires.stands.all_told _ is l.cell (values.List l) whole refl
    (record { meets = ap kind_of (object_made whole); small = tt }) tt
    (All-weaker (IsKnown texts tuples h.objects) (IsTold texts tuples) (λ v k. k.told) target c.requires.stands.known)

pub returns-in-Err : goal.returns-in-Err
returns-in-Err g c =
    let texts = g.C.Constants.text_of c.args._consts.now in
    let tuples = g.C.Constants.items_of c.args._consts.now in
    let h = c.args.arena.now in
    let p = plain texts tuples in
    let target = c.args.items.now in
    let len = length target in
    let new = c.make_list.new.self in
    let is = ap (λ (n : ℕ). making (plain_heap texts tuples h) (ListObject (map p target) (room_for n))) (length-map target p) in
    let cells : 3 + room_for len ≡ suc (2 + room_for len) = omega arith in
    refused_outcome texts tuples h new (ListObject target (room_for len)) c.requires.stands.all_told _ is c.in-Err.room
    (subst (λ (n : ℕ). Refused h new c.in-Err.room n 0) cells c.in-Err.ensures.refused)

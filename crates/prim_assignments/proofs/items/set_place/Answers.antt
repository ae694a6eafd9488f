use Rattle.std.proofs.Common.{◌≡◌, ℕ, ◌<◌, List, map, set, length, Option, Some, None, sym, ap, ◌∙◌, subst, arith}
use Rattle.std.specs.Prelude.{IsSome, OnSome}
use Rattle.std.proofs.lemmas.List.{map-set}
use Rattle.std.proofs.lemmas.List.Elements.{All-set}
use Rattle.prim_operators.specs.mpy_base.World.{Heap, ListObject, AList, items_at, room_at, with_list, object}
use Rattle.prim_operators.specs.mpy_base.Val.{Val, Nil}
use Rattle.prim_operators.specs.arena_heap.declared.value.Value.{Value}
use Rattle.prim_operators.specs.arena_heap.declared.value.Value.TheVariants as values
use Rattle.prim_operators.specs.arena_heap.Constants.{IsTold}
use Rattle.prim_operators.specs.arena_objects.Keys.{AllTold}
use Rattle.prim_operators.proofs.arena_objects_lemmas.Gifts.{given_list}
use Rattle.prim_operators.proofs.arena_objects_lemmas.Tolds.{held_list}
use Rattle.prim_operators.specs.py_values.Shown.{PlainHeap}
use Rattle.prim_operators.specs.py_primitives.Outcome.{Outcome, gives}
use Rattle.prim_operators.specs.prim_walks.Plain.{plain, plain_heap}
use Rattle.prim_operators.proofs.prim_faults_lemmas.Heaps.{list_put}
use Rattle.prim_operators.proofs.prim_faults_lemmas.Outcomes.{answered, raises_outcome}
use Rattle.prim_operators.proofs.ItemFills.{told_put}
use Rattle.prim_operators.proofs.ItemsShown.{length_plain}
use Rattle.prim_assignments.proofs.items.set_place.Goals as goal

on_some : (o : Option (Unit {0})) (P : Type 0) → IsSome o → OnSome o P → P
on_some (Some u) P is holds = holds
on_some None P is holds = absurd cc

pub place_of-requires-clause-leads : goal.place_of-requires-clause-leads
place_of-requires-clause-leads g c = record { meets = c.requires.list; small = tt }

pub items_law-requires-clause-leads : goal.items_law-requires-clause-leads
items_law-requires-clause-leads g c = record { meets = c.requires.list; small = tt }

pub overflow_cast-at : goal.overflow_cast-at
overflow_cast-at g c =
    let texts = g.C.Constants.text_of c.args.consts.now in
    let tuples = g.C.Constants.items_of c.args.consts.now in
    let h = c.args.arena.now in
    let count = length_plain texts tuples h (values.List c.args.l) tt (record { meets = c.requires.list; small = tt }) tt in
    omega (arith, c.in-Ok.ensures.within, count, c.items_law.ensures.few)

pub returns-in-Ok : goal.returns-in-Ok
returns-in-Ok g c =
    let texts = g.C.Constants.text_of c.args.consts.now in
    let tuples = g.C.Constants.items_of c.args.consts.now in
    let h = c.args.arena.now in
    let heap = plain_heap texts tuples h in
    let l = c.args.l.cell in
    let at = c.in-Ok.at in
    let v = c.args.v in
    let items = items_at h l in
    let new = c.list_set-set.new.arena in
    let count = length_plain texts tuples h (values.List c.args.l) tt (record { meets = c.requires.list; small = tt }) tt ∙ ap (λ (xs : List Value). length xs) (given_list (object h.objects l) c.requires.list) in
    let within : at < length items = omega (arith, c.in-Ok.ensures.within, count) in
    let put : new ≡ with_list h l (set items at v) = on_some c.list_set-set.result _ (c.list_set-set.ensures.some.1 within) c.list_set-set.ensures.set in
    let told = told_put texts tuples h l AList c.requires.list c.requires.all_told (ListObject (set items at v) (room_at h l))
    (All-set (IsTold texts tuples) items at v c.requires.told (held_list (IsTold texts tuples) (object h.objects l) c.requires.list (c.requires.all_told.told l))) in
    let behind : with_list heap l (set (map (plain texts tuples) items) at (plain texts tuples v)) ≡ plain_heap texts tuples new =
    ap (λ (xs : List Val). with_list heap l xs) (sym (map-set (plain texts tuples) items at v)) ∙ (sym (list_put texts tuples h l (set items at v)) ∙ sym (ap (plain_heap texts tuples) put)) in
    let next : ℕ → Outcome Val = λ k. gives Nil (with_list heap l (set (map (plain texts tuples) items) k (plain texts tuples v))) in
    answered texts tuples h new values.None _ c.list_set-set.ensures.later (subst (λ (w : Heap Value ℕ). AllTold texts tuples w.objects) (sym put) told) (record { meets = tt; small = tt }) tt
    (c.in-Ok.ensures.place.follows next ∙ ap (λ (w : PlainHeap). gives Nil w) behind)

pub returns-in-Err : goal.returns-in-Err
returns-in-Err g c =
    let texts = g.C.Constants.text_of c.args.consts.now in
    let tuples = g.C.Constants.items_of c.args.consts.now in
    let h = c.args.arena.now in
    let heap = plain_heap texts tuples h in
    let l = c.args.l.cell in
    let next : ℕ → Outcome Val = λ k. gives Nil (with_list heap l (set (map (plain texts tuples) (items_at h l)) k (plain texts tuples c.args.v))) in
    raises_outcome texts tuples h c.in-Err.fault _ c.requires.all_told c.in-Err.ensures.fault.known (c.in-Err.ensures.fault.follows next)

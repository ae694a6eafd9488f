use Rattle.std.proofs.Common.{◌≡◌, ℕ, ◌<◌, ℤ, List, map, length, Option, Some, sym, ap, ◌∙◌, subst, arith}
use Rattle.std.specs.Prelude.{slice_get}
use Rattle.std.specs.Option.{option_map}
use Rattle.std.specs.List.{remove}
use Rattle.std.proofs.lemmas.List.{length-map}
use Rattle.std.proofs.lemmas.Option.{slice_get-get_or, slice_get-map}
use Rattle.mpy_base.specs.World.{Heap, ListObject, AList, items_at, room_at, with_list, object}
use Rattle.mpy_base.specs.Val.{Val, Int, At}
use Rattle.prim_assignments.specs.arena_heap.declared.value.Value.{Value}
use Rattle.prim_assignments.specs.arena_heap.declared.value.Value.TheVariants as values
use Rattle.prim_assignments.specs.arena_heap.Values.{IsSmall}
use Rattle.prim_assignments.specs.arena_heap.Constants.{IsTold}
use Rattle.prim_assignments.proofs.arena_heap_lemmas.Sounds.{leads_later}
use Rattle.prim_assignments.specs.arena_objects.Keys.{AllTold}
use Rattle.prim_assignments.proofs.arena_objects_lemmas.Gifts.{given_list, read_item}
use Rattle.prim_assignments.proofs.arena_objects_lemmas.RangeNumbers.{small_same}
use Rattle.prim_assignments.proofs.arena_objects_lemmas.Tolds.{told_items}
use Rattle.prim_builtins.specs.py_values.Shown.{PlainHeap}
use Rattle.prim_builtins.specs.py_primitives.Outcome.{gives}
use Rattle.prim_builtins.specs.py_primitives.Iterables.{or_nil}
use Rattle.prim_builtins.specs.py_primitives.Uses.{at_place}
use Rattle.prim_builtins.specs.py_primitives.Methods.{pop_at}
use Rattle.prim_assignments.specs.prim_walks.Plain.{plain, plain_heap}
use Rattle.prim_assignments.proofs.prim_faults_lemmas.Heaps.{list_put}
use Rattle.prim_assignments.proofs.prim_faults_lemmas.Outcomes.{answered, raises_outcome}
use Rattle.prim_assignments.proofs.prim_operators_lemmas.ItemFills.{told_put}
use Rattle.prim_assignments.proofs.prim_operators_lemmas.ItemsShown.{length_plain}
use Rattle.prim_assignments.proofs.prim_operators_lemmas.Removals.{map_remove, all_remove}
use Rattle.prim_builtins.proofs.SmallSame.{one_same}
use Rattle.prim_methods.proofs.ItemPops.{popped_from}
use Rattle.prim_methods.proofs.pops.pop_from.Goals as goal

pub items_law-requires-clause-leads : goal.items_law-requires-clause-leads
items_law-requires-clause-leads g c = record { meets = c.requires.list; small = tt }

pub place_of-requires-clause-leads : goal.place_of-requires-clause-leads
place_of-requires-clause-leads g c = record { meets = c.requires.list; small = tt }

pub place_of-requires-clause-index_leads : goal.place_of-requires-clause-index_leads
place_of-requires-clause-index_leads g c = record { meets = tt; small = subst IsSmall (sym (small_same c.args.number c.requires.small)) c.requires.small }

pub overflow_cast-at : goal.overflow_cast-at
overflow_cast-at g c =
    let texts = g.C.Constants.text_of c.args.consts.now in
    let tuples = g.C.Constants.items_of c.args.consts.now in
    let count = length_plain texts tuples c.args.arena.now (values.List c.args.l) tt (record { meets = c.requires.list; small = tt }) tt in
    omega (arith, c.in-Ok.ensures.within, count, c.items_law.ensures.few)

pub returns-in-Some : goal.returns-in-Some
returns-in-Some g c =
    let texts = g.C.Constants.text_of c.args.consts.now in
    let tuples = g.C.Constants.items_of c.args.consts.now in
    let h = c.args.arena.now in
    let heap = plain_heap texts tuples h in
    let p = plain texts tuples in
    let l = c.args.l.cell in
    let at = c.in-Ok.at in
    let items = items_at h l in
    let new = c.list_pop.new.arena in
    let v = c.in-Some.item in
    let got : slice_get items at ≡ Some v = sym c.in-Some.ensures.item in
    let popped : new ≡ with_list h l (remove items at) = c.in-Some.ensures.popped in
    let told_all = told_items texts tuples h l c.requires.list c.requires.all_told in
    let told = told_put texts tuples h l AList c.requires.list c.requires.all_told (ListObject (remove items at) (room_at h l)) (all_remove (IsTold texts tuples) items at told_all) in
    let behind : with_list heap l (remove (map p items) at) ≡ plain_heap texts tuples new =
    ap (λ (xs : List Val). with_list heap l xs) (sym (map_remove p items at)) ∙ (sym (list_put texts tuples h l (remove items at)) ∙ sym (ap (plain_heap texts tuples) popped)) in
    let read : slice_get (map p items) at ≡ Some (p v) = slice_get-map p items at ∙ ap (λ (o : Option Value). option_map p o) got in
    let some : 0 < length (map p items) = omega (arith, c.if-list_len-eq0.false, c.list_len.ensures, length-map items p) in
    answered texts tuples h new v _ c.list_pop.ensures.later (subst (λ (w : Heap Value ℕ). AllTold texts tuples w.objects) (sym popped) told)
    (leads_later c.list_pop.ensures.later v c.in-Some.ensures.leads) (read_item (IsTold texts tuples) items at v got told_all)
    (popped_from heap l (map p items) (Int c.args.number) some
    ∙ (sym (one_same (λ (z : ℤ). at_place heap (At l) (Int z) (pop_at heap l (map p items))) c.args.number c.requires.small)
    ∙ (c.in-Ok.ensures.place.follows (pop_at heap l (map p items))
    ∙ (ap (λ (o : Option Val). gives (or_nil o) (with_list heap l (remove (map p items) at))) read ∙ ap (λ (w : PlainHeap). gives (p v) w) behind))))

pub returns-in-Err : goal.returns-in-Err
returns-in-Err g c =
    let texts = g.C.Constants.text_of c.args.consts.now in
    let tuples = g.C.Constants.items_of c.args.consts.now in
    let h = c.args.arena.now in
    let heap = plain_heap texts tuples h in
    let p = plain texts tuples in
    let l = c.args.l.cell in
    let items = items_at h l in
    let some : 0 < length (map p items) = omega (arith, c.if-list_len-eq0.false, c.list_len.ensures, length-map items p) in
    raises_outcome texts tuples h c.in-Err.fault _ c.requires.all_told c.in-Err.ensures.fault.known
    (popped_from heap l (map p items) (Int c.args.number) some
    ∙ (sym (one_same (λ (z : ℤ). at_place heap (At l) (Int z) (pop_at heap l (map p items))) c.args.number c.requires.small) ∙ c.in-Err.ensures.fault.follows (pop_at heap l (map p items))))

pub unreachable-requires : goal.unreachable-requires
unreachable-requires g c =
    let texts = g.C.Constants.text_of c.args.consts.now in
    let tuples = g.C.Constants.items_of c.args.consts.now in
    let h = c.args.arena.now in
    let items = items_at h c.args.l.cell in
    let count = length_plain texts tuples h (values.List c.args.l) tt (record { meets = c.requires.list; small = tt }) tt ∙ ap (λ (xs : List Value). length xs) (given_list (object h.objects c.args.l.cell) c.requires.list) in
    let there = slice_get-get_or items c.in-Ok.at values.None (omega (arith, c.in-Ok.ensures.within, count)) in
    let none = c.in-None.is in
    let read = c.list_pop.ensures.item in
    cc

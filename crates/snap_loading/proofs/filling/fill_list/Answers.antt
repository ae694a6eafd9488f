use Rattle.std.proofs.Common.{◌≡◌, ℕ, suc, ◌+◌, ◌<◌, ◌≤◌, [], ◌∷◌, ◌++◌, length, map, take, Option, Some, refl, sym, ap, ◌∙◌, subst, arith}
use Rattle.mpy_base.specs.World.{Heap, Later, ListObject, AList, object, kind_of, items_of, room_of, items_at, room_at, with_object}
use Rattle.arena_heap.specs.declared.value.Value.{Value}
use Rattle.arena_heap.specs.Values.{ArenaObject, Leads}
use Rattle.arena_heap.proofs.Sounds.{leads_later}
use Rattle.snap_states.specs.Decoded.{value_of}
use Rattle.snap_loading.proofs.Putting.{take_next, take_none, take_whole, take_long, put_begins, put_within, put_there, put_later, list_step}
use Rattle.snap_loading.proofs.filling.fill_list.Goals as goal

pub loop-at-init : goal.loop-at-init
loop-at-init c =
    let h = c.args.arena.now in
    let n = c.args.l.cell in
    let f = value_of c.args.lookup.now.library.now c.args.lookup.now.snapshot.now in
    put_begins h n _ c.requires.begun
    ∙ ap (λ zs. with_object h n (ListObject zs (room_at h n))) (sym (take_none f c.args.items.now))

pub put_in_list-requires-clause-list : goal.put_in_list-requires-clause-list
put_in_list-requires-clause-list c =
    let h = c.args.arena.now in
    let n = c.args.l.cell in
    let lt = put_within h n _ AList c.requires.begun refl in
    ap (λ (w : Heap Value ℕ). kind_of (object w.objects n)) c.loop-at.invariant ∙ ap kind_of (put_there h n _ lt)

pub put_in_list-requires-clause-leads : goal.put_in_list-requires-clause-leads
put_in_list-requires-clause-leads c =
    let h = c.args.arena.now in
    let n = c.args.l.cell in
    let later : Later h.objects c.loop-at.arena.objects = subst (λ (w : Heap Value ℕ). Later h.objects w.objects) (sym c.loop-at.invariant) (put_later h n _ _ c.requires.begun refl) in
    leads_later later c.value_of-v.result (subst (Leads h.objects) (sym c.value_of-v.ensures) (c.requires.leads c.loop-at.at c.item_at-item.result.now c.item_at-item.ensures))

pub put_in_list-requires-clause-within : goal.put_in_list-requires-clause-within
put_in_list-requires-clause-within c =
    let h = c.args.arena.now in
    let n = c.args.l.cell in
    let f = value_of c.args.lookup.now.library.now c.args.lookup.now.snapshot.now in
    let le : c.loop-at.at ≤ length c.args.items.now = omega (arith, c.loop-at-test.true) in
    let lt = put_within h n _ AList c.requires.begun refl in
    let there : items_at c.loop-at.arena n ≡ map f (take c.loop-at.at c.args.items.now) = ap (λ (w : Heap Value ℕ). items_at w n) c.loop-at.invariant ∙ ap items_of (put_there h n _ lt) in
    let long : length (items_at c.loop-at.arena n) ≡ c.loop-at.at = ap length there ∙ take_long f c.args.items.now c.loop-at.at le in
    omega (arith, long, c.requires.few, le)

pub put_in_list-requires-clause-room : goal.put_in_list-requires-clause-room
put_in_list-requires-clause-room c =
    let h = c.args.arena.now in
    let n = c.args.l.cell in
    let f = value_of c.args.lookup.now.library.now c.args.lookup.now.snapshot.now in
    let le : c.loop-at.at ≤ length c.args.items.now = omega (arith, c.loop-at-test.true) in
    let lt = put_within h n _ AList c.requires.begun refl in
    let there : items_at c.loop-at.arena n ≡ map f (take c.loop-at.at c.args.items.now) = ap (λ (w : Heap Value ℕ). items_at w n) c.loop-at.invariant ∙ ap items_of (put_there h n _ lt) in
    let long : length (items_at c.loop-at.arena n) ≡ c.loop-at.at = ap length there ∙ take_long f c.args.items.now c.loop-at.at le in
    let roomy : room_at c.loop-at.arena n ≡ room_at h n = ap (λ (w : Heap Value ℕ). room_at w n) c.loop-at.invariant ∙ ap room_of (put_there h n _ lt) in
    omega (arith, long, roomy, c.requires.room, c.loop-at-test.true)

pub loop-at-preserved : goal.loop-at-preserved
loop-at-preserved c =
    let h = c.args.arena.now in
    let n = c.args.l.cell in
    let f = value_of c.args.lookup.now.library.now c.args.lookup.now.snapshot.now in
    let items = c.args.items.now in
    let k = c.loop-at.at in
    let le : k ≤ length items = omega (arith, c.loop-at-test.true) in
    let lt = put_within h n _ AList c.requires.begun refl in
    let on : suc k ≡ k + 1 = omega arith in
    let more : map f (take k items) ++ c.value_of-v.result ∷ [] ≡ map f (take (k + 1) items) =
    ap (λ v. map f (take k items) ++ v ∷ []) c.value_of-v.ensures ∙ (sym (take_next f items k c.item_at-item.result.now c.item_at-item.ensures) ∙ ap (λ j. map f (take j items)) on) in
    list_step h n (map f (take k items)) (room_at h n) k c.value_of-v.result c.loop-at.arena c.put_in_list.new.arena lt c.loop-at.invariant (sym (take_long f items k le)) c.put_in_list.ensures
    ∙ ap (λ zs. with_object h n (ListObject zs (room_at h n))) more

pub returns : goal.returns
returns c =
    let h = c.args.arena.now in
    let n = c.args.l.cell in
    let f = value_of c.args.lookup.now.library.now c.args.lookup.now.snapshot.now in
    let end : c.loop-at.at ≡ length c.args.items.now = omega arith in
    c.loop-at.invariant
    ∙ ap (λ zs. with_object h n (ListObject zs (room_at h n))) (ap (λ j. map f (take j c.args.items.now)) end ∙ take_whole f c.args.items.now)

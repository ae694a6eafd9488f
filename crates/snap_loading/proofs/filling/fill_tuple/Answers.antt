use Rattle.std.proofs.Common.{◌≡◌, ℕ, suc, ◌+◌, ◌-◌, ◌<◌, ◌≤◌, [], ◌∷◌, ◌++◌, length, map, take, replicate, Some, refl, sym, ap, ap₂, ◌∙◌, subst, arith, length-append}
use Rattle.std.proofs.lemmas.List.{append-nil, length-replicate}
use Rattle.mpy_base.specs.World.{Heap, Later, TupleObject, ATuple, object, kind_of, items_of, items_at, with_object}
use Rattle.arena_heap.specs.declared.value.Value.{Value}
use Rattle.arena_heap.specs.declared.value.Value.TheVariants as values
use Rattle.arena_heap.specs.Values.{Leads}
use Rattle.arena_heap.proofs.Sounds.{leads_later}
use Rattle.snap_states.specs.Decoded.{value_of}
use Rattle.snap_loading.proofs.Putting.{take_next, take_none, take_whole, take_long, put_begins, put_within, put_there, put_later, tuple_step}
use Rattle.snap_loading.proofs.filling.fill_tuple.Goals as goal

pub loop-at-init : goal.loop-at-init
loop-at-init c =
    let h = c.args.arena.now in
    let n = c.args.t.cell in
    let f = value_of c.args.lookup.now.library.now c.args.lookup.now.snapshot.now in
    let items = c.args.items.now in
    let all : length items ≡ length items - 0 = omega arith in
    put_begins h n _ c.requires.begun
    ∙ (ap (λ k. with_object h n (TupleObject (replicate k values.None))) all
    ∙ ap (λ zs. with_object h n (TupleObject (zs ++ replicate (length items - 0) values.None))) (sym (take_none f items)))

pub tuple_fill-requires-clause-tuple : goal.tuple_fill-requires-clause-tuple
tuple_fill-requires-clause-tuple c =
    let h = c.args.arena.now in
    let n = c.args.t.cell in
    let lt = put_within h n _ ATuple c.requires.begun refl in
    ap (λ (w : Heap Value ℕ). kind_of (object w.objects n)) c.loop-at.invariant ∙ ap kind_of (put_there h n _ lt)

pub tuple_fill-requires-clause-leads : goal.tuple_fill-requires-clause-leads
tuple_fill-requires-clause-leads c =
    let h = c.args.arena.now in
    let n = c.args.t.cell in
    let later : Later h.objects c.loop-at.arena.objects = subst (λ (w : Heap Value ℕ). Later h.objects w.objects) (sym c.loop-at.invariant) (put_later h n _ _ c.requires.begun refl) in
    leads_later later c.value_of-v.result (subst (Leads h.objects) (sym c.value_of-v.ensures) (c.requires.leads c.loop-at.at c.item_at-item.result.now c.item_at-item.ensures))

pub tuple_fill-requires-clause-within : goal.tuple_fill-requires-clause-within
tuple_fill-requires-clause-within c =
    let h = c.args.arena.now in
    let n = c.args.t.cell in
    let f = value_of c.args.lookup.now.library.now c.args.lookup.now.snapshot.now in
    let items = c.args.items.now in
    let k = c.loop-at.at in
    let le : k ≤ length items = omega (arith, c.loop-at-test.true) in
    let lt = put_within h n _ ATuple c.requires.begun refl in
    let held = map f (take k items) in
    let rest = replicate (length items - k) values.None in
    let there : items_at c.loop-at.arena n ≡ held ++ rest = ap (λ (w : Heap Value ℕ). items_at w n) c.loop-at.invariant ∙ ap items_of (put_there h n _ lt) in
    let long : length (items_at c.loop-at.arena n) ≡ length held + length rest = ap length there ∙ length-append held rest in
    let first : length held ≡ k = take_long f items k le in
    let second : length rest ≡ length items - k = length-replicate (length items - k) values.None in
    omega (arith, long, first, second, c.requires.few, le, c.loop-at-test.true)

pub loop-at-preserved : goal.loop-at-preserved
loop-at-preserved c =
    let h = c.args.arena.now in
    let n = c.args.t.cell in
    let f = value_of c.args.lookup.now.library.now c.args.lookup.now.snapshot.now in
    let items = c.args.items.now in
    let k = c.loop-at.at in
    let le : k ≤ length items = omega (arith, c.loop-at-test.true) in
    let lt = put_within h n _ ATuple c.requires.begun refl in
    let on : suc k ≡ k + 1 = omega arith in
    let one : length items - k ≡ suc (length items - (k + 1)) = omega (arith, c.loop-at-test.true) in
    let m = length items - (k + 1) in
    let more : map f (take k items) ++ c.value_of-v.result ∷ [] ≡ map f (take (k + 1) items) =
    ap (λ v. map f (take k items) ++ v ∷ []) c.value_of-v.ensures ∙ (sym (take_next f items k c.item_at-item.result.now c.item_at-item.ensures) ∙ ap (λ j. map f (take j items)) on) in
    let begun = c.loop-at.invariant ∙ ap (λ j. with_object h n (TupleObject (map f (take k items) ++ replicate j values.None))) one in
    tuple_step h n (map f (take k items)) m k c.value_of-v.result c.loop-at.arena c.tuple_fill.new.arena lt begun (sym (take_long f items k le)) c.tuple_fill.ensures.filled
    ∙ ap (λ zs. with_object h n (TupleObject (zs ++ replicate m values.None))) more

pub returns : goal.returns
returns c =
    let h = c.args.arena.now in
    let n = c.args.t.cell in
    let f = value_of c.args.lookup.now.library.now c.args.lookup.now.snapshot.now in
    let items = c.args.items.now in
    let end : c.loop-at.at ≡ length items = omega arith in
    let none : length items - c.loop-at.at ≡ 0 = omega (arith, end) in
    c.loop-at.invariant
    ∙ (ap₂ (λ j i. with_object h n (TupleObject (map f (take j items) ++ replicate i values.None))) end none
    ∙ ap (λ zs. with_object h n (TupleObject zs)) (append-nil (map f (take (length items) items)) ∙ take_whole f items))

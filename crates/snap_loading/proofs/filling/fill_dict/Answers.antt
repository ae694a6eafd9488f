use Rattle.std.proofs.Common.{◌≡◌, ℕ, suc, ◌+◌, ◌<◌, ◌≤◌, [], ◌∷◌, ◌++◌, length, map, take, Some, refl, sym, ap, ap₂, ◌∙◌, subst, arith}
use Rattle.mpy_base.specs.World.{Heap, Later, DictObject, ADict, object, kind_of, pairs_of, room_of, pairs_at, room_at, with_object}
use Rattle.arena_heap.specs.declared.value.Value.{Value}
use Rattle.arena_heap.specs.Values.{IsKey, Leads}
use Rattle.arena_heap.proofs.Sounds.{leads_later}
use Rattle.snap_states.specs.Decoded.{pair_of}
use Rattle.snap_loading.proofs.Putting.{take_next, take_none, take_whole, take_long, put_begins, put_within, put_there, put_later, dict_step}
use Rattle.snap_loading.proofs.filling.fill_dict.Goals as goal

pub loop-at-init : goal.loop-at-init
loop-at-init c =
    let h = c.args.arena.now in
    let n = c.args.d.cell in
    let f = pair_of c.args.lookup.now.library.now c.args.lookup.now.snapshot.now in
    put_begins h n _ c.requires.begun
    ∙ ap (λ zs. with_object h n (DictObject zs (room_at h n))) (sym (take_none f c.args.pairs.now))

pub put_in_dict-requires-clause-dict : goal.put_in_dict-requires-clause-dict
put_in_dict-requires-clause-dict c =
    let h = c.args.arena.now in
    let n = c.args.d.cell in
    let lt = put_within h n _ ADict c.requires.begun refl in
    ap (λ (w : Heap Value ℕ). kind_of (object w.objects n)) c.loop-at.invariant ∙ ap kind_of (put_there h n _ lt)

pub put_in_dict-requires-clause-key : goal.put_in_dict-requires-clause-key
put_in_dict-requires-clause-key c = subst IsKey (sym c.value_of-key.ensures) (c.requires.keys c.loop-at.at c.pair_at-pair.result.now c.pair_at-pair.ensures)

pub put_in_dict-requires-clause-key_leads : goal.put_in_dict-requires-clause-key_leads
put_in_dict-requires-clause-key_leads c =
    let h = c.args.arena.now in
    let n = c.args.d.cell in
    let later : Later h.objects c.loop-at.arena.objects = subst (λ (w : Heap Value ℕ). Later h.objects w.objects) (sym c.loop-at.invariant) (put_later h n _ _ c.requires.begun refl) in
    leads_later later c.value_of-key.result (subst (Leads h.objects) (sym c.value_of-key.ensures) (c.requires.keys_lead c.loop-at.at c.pair_at-pair.result.now c.pair_at-pair.ensures))

pub put_in_dict-requires-clause-leads : goal.put_in_dict-requires-clause-leads
put_in_dict-requires-clause-leads c =
    let h = c.args.arena.now in
    let n = c.args.d.cell in
    let later : Later h.objects c.loop-at.arena.objects = subst (λ (w : Heap Value ℕ). Later h.objects w.objects) (sym c.loop-at.invariant) (put_later h n _ _ c.requires.begun refl) in
    leads_later later c.value_of-v.result (subst (Leads h.objects) (sym c.value_of-v.ensures) (c.requires.leads c.loop-at.at c.pair_at-pair.result.now c.pair_at-pair.ensures))

pub put_in_dict-requires-clause-room : goal.put_in_dict-requires-clause-room
put_in_dict-requires-clause-room c =
    let h = c.args.arena.now in
    let n = c.args.d.cell in
    let f = pair_of c.args.lookup.now.library.now c.args.lookup.now.snapshot.now in
    let le : c.loop-at.at ≤ length c.args.pairs.now = omega (arith, c.loop-at-test.true) in
    let lt = put_within h n _ ADict c.requires.begun refl in
    let there : pairs_at c.loop-at.arena n ≡ map f (take c.loop-at.at c.args.pairs.now) = ap (λ (w : Heap Value ℕ). pairs_at w n) c.loop-at.invariant ∙ ap pairs_of (put_there h n _ lt) in
    let long : length (pairs_at c.loop-at.arena n) ≡ c.loop-at.at = ap length there ∙ take_long f c.args.pairs.now c.loop-at.at le in
    let roomy : room_at c.loop-at.arena n ≡ room_at h n = ap (λ (w : Heap Value ℕ). room_at w n) c.loop-at.invariant ∙ ap room_of (put_there h n _ lt) in
    omega (arith, long, roomy, c.requires.room, c.loop-at-test.true)

pub loop-at-preserved : goal.loop-at-preserved
loop-at-preserved c =
    let h = c.args.arena.now in
    let n = c.args.d.cell in
    let f = pair_of c.args.lookup.now.library.now c.args.lookup.now.snapshot.now in
    let pairs = c.args.pairs.now in
    let k = c.loop-at.at in
    let lt = put_within h n _ ADict c.requires.begun refl in
    let on : suc k ≡ k + 1 = omega arith in
    let p : Value × Value = (c.value_of-key.result, c.value_of-v.result) in
    let same : p ≡ f c.pair_at-pair.result.now = ap₂ (λ (x y : Value). (x, y)) c.value_of-key.ensures c.value_of-v.ensures in
    let more : map f (take k pairs) ++ p ∷ [] ≡ map f (take (k + 1) pairs) =
    ap (λ v. map f (take k pairs) ++ v ∷ []) same ∙ (sym (take_next f pairs k c.pair_at-pair.result.now c.pair_at-pair.ensures) ∙ ap (λ j. map f (take j pairs)) on) in
    dict_step h n (map f (take k pairs)) (room_at h n) p c.loop-at.arena c.put_in_dict.new.arena lt c.loop-at.invariant c.put_in_dict.ensures
    ∙ ap (λ zs. with_object h n (DictObject zs (room_at h n))) more

pub returns : goal.returns
returns c =
    let h = c.args.arena.now in
    let n = c.args.d.cell in
    let f = pair_of c.args.lookup.now.library.now c.args.lookup.now.snapshot.now in
    let end : c.loop-at.at ≡ length c.args.pairs.now = omega arith in
    c.loop-at.invariant
    ∙ ap (λ zs. with_object h n (DictObject zs (room_at h n))) (ap (λ j. map f (take j c.args.pairs.now)) end ∙ take_whole f c.args.pairs.now)

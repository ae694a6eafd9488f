use Rattle.std.proofs.Common.{ℕ, ◌+◌, ◌<◌, ◌≡◌, [], ◌∷◌, ◌++◌, length, Option, sym, ◌∙◌, ap, subst, arith}
use Rattle.arena_heap.specs.declared.value.Value.{Value}
use Rattle.qstr_pool.specs.mpy_base.World.{Heap, Later, pairs_of, pairs_at, room_at, room_of, with_dict}
use Rattle.qstr_pool.specs.mpy_base.Weights.{with_dict_room}
use Rattle.qstr_pool.proofs.mpy_base_lemmas.Worlds.{later_pairs}
use Rattle.arena_heap.specs.Values.{ArenaObject}
use Rattle.arena_heap.proofs.DictSeen.{reserved_object, reserved_later, pushed_pairs, grown_holds}
use Rattle.arena_heap.proofs.Sounds.{leads_later}
use Rattle.arena_heap.proofs.dicts.dict_push.Goals as goal

room : (h g : Heap Value ℕ) (n len : ℕ) → len ≡ length (pairs_at h n) → g ≡ with_dict_room h n (len + 1) → g ≡ with_dict_room h n (length (pairs_at h n) + 1)
room h g n len e is = is ∙ ap (λ (k : ℕ). with_dict_room h n (k + 1)) e

later : (c : goal.After-put_in_dict-arg-1) → Later c.args.arena.now.objects c.reserve_dict.new.arena.objects
later c =
    let h = c.args.arena.now in
    subst (λ (g : Heap Value ℕ). Later h.objects g.objects) (sym (room c.args.arena.now c.reserve_dict.new.arena c.args.d.cell c.dict_len-len.result c.dict_len-len.ensures c.in_ok-reserve_dict.ensures.ok)) (reserved_later h c.args.d.cell c.requires.dict (length (pairs_at h c.args.d.cell) + 1))

pub put_in_dict-requires-clause-leads : goal.put_in_dict-requires-clause-leads
put_in_dict-requires-clause-leads c = leads_later (later c) c.args.v c.requires.leads

pub put_in_dict-requires-clause-room : goal.put_in_dict-requires-clause-room
put_in_dict-requires-clause-room c =
    let h = c.args.arena.now in
    let n = c.args.d.cell in
    let k : ℕ = length (pairs_at h n) + 1 in
    let o = reserved_object h n c.requires.dict k in
    subst (λ (g : Heap Value ℕ). length (pairs_at g n) < room_at g n) (sym (room c.args.arena.now c.reserve_dict.new.arena c.args.d.cell c.dict_len-len.result c.dict_len-len.ensures c.in_ok-reserve_dict.ensures.ok))
    (subst (λ (o : Option ArenaObject). length (pairs_of o) < room_of o) (sym o) (omega (arith, grown_holds h n k)))

pub returns-clause-ok : goal.returns-clause-ok
returns-clause-ok c =
    let n = c.args.d.cell in
    c.put_in_dict.ensures ∙ (ap (λ (g : Heap Value ℕ). with_dict g n (pairs_at g n ++ (c.args.key, c.args.v) ∷ [])) (room c.args.arena.now c.reserve_dict.new.arena c.args.d.cell c.dict_len-len.result c.dict_len-len.ensures c.in_ok-reserve_dict.ensures.ok) ∙ pushed_pairs c.args.arena.now n c.requires.dict (c.args.key, c.args.v))

pub returns-clause-later : goal.returns-clause-later
returns-clause-later c =
    let h = c.args.arena.now in
    let n = c.args.d.cell in
    subst (λ (g : Heap Value ℕ). Later h.objects g.objects) (sym (returns-clause-ok c)) (later_pairs h n (pairs_at h n ++ (c.args.key, c.args.v) ∷ []) c.requires.dict)

use Rattle.std.proofs.Common.{ℕ, ◌+◌, ◌*◌, ◌<◌, List, length, sym, ap, ◌∙◌, subst, arith}
use Rattle.mpy_base.specs.World.{Heap, AList, ATuple, IsA, items_of, room_of, items_at, room_at, pairs_at}
use Rattle.mpy_base.proofs.Worlds.{is_within}
use Rattle.prim_assignments.specs.arena_heap.declared.value.Value.{Value}
use Rattle.prim_methods.specs.PairTuples.{with_tuples}
use Rattle.prim_methods.proofs.PairMakings.{tuples_later, tuples_same, tuples_are}
use Rattle.prim_methods.proofs.dict_items.fill_with_tuples.Goals as goal

pub put_tuples-requires-clause-list : goal.put_tuples-requires-clause-list
put_tuples-requires-clause-list c =
    let h = c.args.arena.now in
    let pairs : List (Value × Value) = pairs_at h c.args.d.cell in
    subst (λ (w : Heap Value ℕ). IsA w.objects AList c.args.l.cell) (sym c.in-Ok.ensures.ok) ((tuples_later h pairs).keeps AList c.args.l.cell c.requires.list)

pub put_tuples-requires-clause-tuples : goal.put_tuples-requires-clause-tuples
put_tuples-requires-clause-tuples c =
    let h = c.args.arena.now in
    let pairs : List (Value × Value) = pairs_at h c.args.d.cell in
    λ k lt.
    let within : k < length pairs = omega (arith, lt, c.dict_len-count.ensures) in
    subst (λ (w : Heap Value ℕ). IsA w.objects ATuple (c.used-first.result.cells + 3 * k)) (sym c.in-Ok.ensures.ok)
    (subst (λ (n : ℕ). IsA (with_tuples h pairs).objects ATuple (n + 3 * k)) (sym c.used-first.ensures.cells) (tuples_are h pairs k within))

pub put_tuples-requires-clause-empty : goal.put_tuples-requires-clause-empty
put_tuples-requires-clause-empty c =
    let h = c.args.arena.now in
    let l = c.args.l.cell in
    let pairs : List (Value × Value) = pairs_at h c.args.d.cell in
    ap (λ (w : Heap Value ℕ). length (items_at w l)) c.in-Ok.ensures.ok ∙ (ap (λ o. length (items_of o)) (tuples_same h pairs l (is_within h.objects AList l c.requires.list)) ∙ c.requires.empty)

pub put_tuples-requires-clause-room : goal.put_tuples-requires-clause-room
put_tuples-requires-clause-room c =
    let h = c.args.arena.now in
    let l = c.args.l.cell in
    let pairs : List (Value × Value) = pairs_at h c.args.d.cell in
    let same = ap (λ (w : Heap Value ℕ). room_at w l) c.in-Ok.ensures.ok ∙ ap room_of (tuples_same h pairs l (is_within h.objects AList l c.requires.list)) in
    omega (arith, same, c.requires.room, c.dict_len-count.ensures)

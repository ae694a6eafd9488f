use Rattle.std.proofs.Common.{◌≡◌, ℕ, ◌+◌, ◌*◌, ◌++◌, ◌∷◌, [], List, length, arith, sym, ◌∙◌, ap, append_assoc, length-append}
use Rattle.std.proofs.lemmas.List.FromFn.{length-map-range_with_len}
use Rattle.arena_heap.specs.declared.value.Value.{Value}
use Rattle.arena_heap.specs.declared.value.Value.TheVariants as values
use Rattle.py_values.specs.mpy_base.World.{Heap, items_at, room_at, items_of, room_of, with_list}
use Rattle.arena_objects.specs.Iterables.{texts_from}
use Rattle.arena_objects.proofs.Gifts.{texts_more, list_there, put_again}
use Rattle.arena_objects.proofs.extend.put_texts.Goals as goal

pub overflow_mul-t : goal.overflow_mul-t
overflow_mul-t c = record { fits = omega (arith, c.requires.few, c.loop-k-test.true) }

pub overflow_add-t : goal.overflow_add-t
overflow_add-t c = record { fits = omega (arith, c.requires.few, c.loop-k-test.true) }

pub put_in_list-requires-clause-room : goal.put_in_list-requires-clause-room
put_in_list-requires-clause-room c =
    let h = c.args.arena.now in
    let l = c.args.l.cell in
    let xs = items_at h l ++ texts_from c.args.first c.loop-k.k in
    let f : ℕ → Value = λ k. values.Text (record { cell = c.args.first + 2 * k }) in
    let items : items_at c.loop-k.arena l ≡ xs = ap (λ (w : Heap Value ℕ). items_at w l) c.loop-k.invariant ∙ ap items_of (list_there h l c.requires.list xs) in
    let room : room_at c.loop-k.arena l ≡ room_at h l = ap (λ (w : Heap Value ℕ). room_at w l) c.loop-k.invariant ∙ ap room_of (list_there h l c.requires.list xs) in
    omega (arith, ap length items, room, length-append (items_at h l) (texts_from c.args.first c.loop-k.k), length-map-range_with_len f 0 c.loop-k.k, c.requires.room, c.loop-k-test.true)

pub loop-k-preserved : goal.loop-k-preserved
loop-k-preserved c =
    let h = c.args.arena.now in
    let l = c.args.l.cell in
    let items = items_at h l in
    let first = c.args.first in
    let k = c.loop-k.k in
    put_again h l c.requires.list c.loop-k.arena c.put_in_list.new.arena (items ++ texts_from first k) (values.Text (record { cell = first + 2 * k })) c.list_len-end.result c.loop-k.invariant c.list_len-end.ensures c.put_in_list.ensures
    ∙ ap (λ (ys : List Value). with_list h l ys) (append_assoc items (texts_from first k) (values.Text (record { cell = first + 2 * k }) ∷ []) ∙ ap (λ (ys : List Value). items ++ ys) (sym (texts_more first k)))

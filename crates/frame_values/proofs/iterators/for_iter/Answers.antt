use Rattle.std.proofs.Common.{◌≡◌, ℕ, ◌≤◌, length, Some, Ok, slice_get, subst, arith}
use Rattle.prim_names.specs.arena_heap.declared.value.Value.{Value}
use Rattle.prim_names.specs.prim_types.py_primitives.Iterables.{length_of as length_in, item_of as item_in}
use Rattle.prim_names.specs.prim_walks.Plain.{plain, plain_heap}
use Rattle.frame_moves.specs.vm_frames.declared.slot.Slot.TheVariants as slots
use Rattle.frame_moves.specs.vm_frames.Calls.{Call}
use Rattle.frame_moves.proofs.Stepping.{both}
use Rattle.frame_moves.proofs.Changing.{then_is}
use Rattle.frame_values.specs.Slots.{with_item}
use Rattle.frame_values.specs.Settled.{Settles}
use Rattle.frame_values.proofs.Calls.{dropped}
use Rattle.frame_values.proofs.Settling.{of_outcome}
use Rattle.frame_values.proofs.Visits.{item_free}
use Rattle.frame_values.proofs.Iterating.{advances, ends, same_over, same_at}
use Rattle.frame_values.proofs.iterators.for_iter.Goals as goal

pub returns-then-at-length_of-clause-steps : goal.returns-then-at-length_of-clause-steps
returns-then-at-length_of-clause-steps g c =
    let texts = g.C.Constants.text_of c.args.consts.now in
    let tuples = g.C.Constants.items_of c.args.consts.now in
    let before = c.args.arena.now in
    let old = c.args.frames.now in
    let over = c.iterator_at-over.result.0 in
    let at = c.iterator_at-over.result.1 in
    let there = c.iterator_at-over.ensures.there in
    let heap = plain_heap texts tuples before in
    advances texts tuples c.args.end old c.put_item.new.frames c.put_item.result c.args.target over at there.0 before c.item_of-given.new.arena c.item_of-given.result
    (of_outcome texts tuples before c.item_of-given.new.arena c.item_of-given.result 0 (λ h. item_in h (plain texts tuples over) at) c.item_of-given.ensures (item_free heap (plain texts tuples over) at))
    (omega (arith, c.if-at-length_of.true, c.length_of.ensures))
    (both (λ (d : Call). 4 ≤ length d.slots) (λ (d : Call). slice_get d.slots 0 ≡ Some (slots.Iter over at there.0)) old.calls c.requires.slots there.1)
    (subst (λ (n : ℕ). Settles (with_item c.args.end over n) c.item_of-given.result old c.put_item.new.frames c.put_item.result) c.next_place-next.ensures c.put_item.ensures)

pub returns-then-at-length_of-clause-ended : goal.returns-then-at-length_of-clause-ended
returns-then-at-length_of-clause-ended g c over at is less =
    let texts = g.C.Constants.text_of c.args.consts.now in
    let tuples = g.C.Constants.items_of c.args.consts.now in
    let heap = plain_heap texts tuples c.args.arena.now in
    let calls = c.args.frames.now.calls in
    let here = c.iterator_at-over.result.1 in
    let one : over ≡ c.iterator_at-over.result.0 = same_over over c.iterator_at-over.result.0 at here calls is c.iterator_at-over.ensures.there in
    let two : at ≡ here = same_at over c.iterator_at-over.result.0 at here calls is c.iterator_at-over.ensures.there in
    let past : length_in heap (plain texts tuples c.iterator_at-over.result.0) ≤ at = subst (λ (x : Value). length_in heap (plain texts tuples x) ≤ at) one less in
    absurd (omega (arith, past, two, c.if-at-length_of.true, c.length_of.ensures))

pub returns-else-at-length_of-clause-steps : goal.returns-else-at-length_of-clause-steps
returns-else-at-length_of-clause-steps g c =
    let texts = g.C.Constants.text_of c.args.consts.now in
    let tuples = g.C.Constants.items_of c.args.consts.now in
    let old = c.args.frames.now in
    let over = c.iterator_at-over.result.0 in
    let at = c.iterator_at-over.result.1 in
    let there = c.iterator_at-over.ensures.there in
    ends texts tuples c.args.end old c.set_offset.new.self (Ok tt) c.args.target over at there.0 c.args.arena.now (omega (arith, c.if-at-length_of.false, c.length_of.ensures))
    (both (λ (d : Call). 4 ≤ length d.slots) (λ (d : Call). slice_get d.slots 0 ≡ Some (slots.Iter over at there.0)) old.calls c.requires.slots there.1)
    (then_is (dropped 4) (λ (d : Call). record d { at = c.args.target }) old c.drop_slots.new.frames c.set_offset.new.self c.drop_slots.ensures c.set_offset.ensures)

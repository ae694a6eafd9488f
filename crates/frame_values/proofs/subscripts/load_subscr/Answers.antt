use Rattle.std.proofs.Common.{◌≡◌, Some, slice_get}
use Rattle.frame_moves.specs.bc_ops.declared.instr.Op.TheVariants as ops
use Rattle.frame_moves.specs.bc_ops.declared.instr.Instr.TheVariants as instrs
use Rattle.prim_names.specs.prim_types.py_primitives.Uses.{get_item}
use Rattle.prim_names.specs.prim_walks.Plain.{plain, plain_heap}
use Rattle.prim_names.specs.prim_faults.Sights.{world_over}
use Rattle.frame_moves.specs.vm_frames.declared.slot.Slot.TheVariants as slots
use Rattle.frame_moves.specs.vm_frames.Calls.{Call}
use Rattle.frame_moves.specs.vm_frames.Views.{starts_of, frame_of}
use Rattle.frame_moves.specs.bc_machine.Library.{Plain}
use Rattle.frame_moves.specs.Shown.{view_of}
use Rattle.frame_moves.proofs.Stepping.{both}
use Rattle.frame_values.specs.Effects.{tables_of}
use Rattle.frame_values.specs.Slots.{with_value}
use Rattle.frame_values.proofs.Items as items
use Rattle.frame_values.proofs.Visits as visits
use Rattle.frame_values.proofs.Settling.{of_outcome, puts_steps, moved, leaves}
use Rattle.frame_values.proofs.subscripts.load_subscr.Goals as goal

pub returns-clause-steps : goal.returns-clause-steps
returns-clause-steps g c =
    let texts = g.C.Constants.text_of c.args.consts.now in
    let tuples = g.C.Constants.items_of c.args.consts.now in
    let before = c.args.arena.now in
    let old = c.args.frames.now in
    puts_steps texts tuples c.args.end 2 before c.get_item-given.new.arena old c.put.new.frames c.put.result c.get_item-given.result 0 _
    (of_outcome texts tuples before c.get_item-given.new.arena c.get_item-given.result 0 (λ heap. get_item heap (plain texts tuples c.value_at-object.result) (plain texts tuples c.value_at-index.result)) c.get_item-given.ensures (visits.get_item_free (plain_heap texts tuples before) (plain texts tuples c.value_at-object.result) (plain texts tuples c.value_at-index.result)))
    (Plain (instrs.Plain ops.LoadSubscr)) (λ (d : Call). slice_get d.slots 0 ≡ Some (slots.Value c.value_at-index.result) × (slice_get d.slots 1 ≡ Some (slots.Value c.value_at-object.result))) (both (λ (d : Call). slice_get d.slots 0 ≡ Some (slots.Value c.value_at-index.result)) (λ (d : Call). slice_get d.slots 1 ≡ Some (slots.Value c.value_at-object.result)) old.calls (c.value_at-index.ensures.there) (c.value_at-object.ensures.there))
    (λ layout library place paid d frames w h.
    let view = view_of (tables_of texts tuples layout) in
    items.load_subscr view (starts_of view d) library place paid (frame_of view d) frames (world_over texts tuples w before) d.slots c.value_at-index.result c.value_at-object.result h.0 h.1)
    c.put.ensures

pub returns-clause-moved : goal.returns-clause-moved
returns-clause-moved g c =
    let texts = g.C.Constants.text_of c.args.consts.now in
    let tuples = g.C.Constants.items_of c.args.consts.now in
    let before = c.args.arena.now in
    let old = c.args.frames.now in
    moved texts tuples (with_value c.args.end 2) old c.put.new.frames c.put.result before c.get_item-given.new.arena c.get_item-given.result 0 _
    (of_outcome texts tuples before c.get_item-given.new.arena c.get_item-given.result 0 (λ heap. get_item heap (plain texts tuples c.value_at-object.result) (plain texts tuples c.value_at-index.result)) c.get_item-given.ensures (visits.get_item_free (plain_heap texts tuples before) (plain texts tuples c.value_at-object.result) (plain texts tuples c.value_at-index.result))) c.put.ensures

pub returns-clause-leaves : goal.returns-clause-leaves
returns-clause-leaves g c =
    let texts = g.C.Constants.text_of c.args.consts.now in
    let tuples = g.C.Constants.items_of c.args.consts.now in
    let before = c.args.arena.now in
    let old = c.args.frames.now in
    leaves texts tuples (with_value c.args.end 2) old c.put.new.frames c.put.result before c.get_item-given.new.arena c.get_item-given.result 0 _
    (of_outcome texts tuples before c.get_item-given.new.arena c.get_item-given.result 0 (λ heap. get_item heap (plain texts tuples c.value_at-object.result) (plain texts tuples c.value_at-index.result)) c.get_item-given.ensures (visits.get_item_free (plain_heap texts tuples before) (plain texts tuples c.value_at-object.result) (plain texts tuples c.value_at-index.result))) c.put.ensures

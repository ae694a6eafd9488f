use Rattle.std.proofs.Common.{◌≡◌, Some, slice_get}
use Rattle.frame_moves.specs.bc_ops.declared.instr.Op.TheVariants as ops
use Rattle.prim_names.specs.arena_objects.Iterables.{or_nothing}
use Rattle.prim_names.specs.prim_types.py_primitives.Uses.{get_attr}
use Rattle.prim_names.specs.prim_walks.Plain.{plain, plain_heap}
use Rattle.prim_names.specs.prim_faults.Sights.{world_over}
use Rattle.frame_moves.specs.vm_frames.declared.slot.Slot.TheVariants as slots
use Rattle.frame_moves.specs.vm_frames.Calls.{Call}
use Rattle.frame_moves.specs.vm_frames.Views.{starts_of, frame_of}
use Rattle.frame_moves.specs.bc_machine.Library.{Names}
use Rattle.frame_moves.specs.Shown.{view_of}
use Rattle.frame_values.specs.Effects.{tables_of}
use Rattle.frame_values.specs.Slots.{with_value}
use Rattle.frame_values.proofs.Items as items
use Rattle.frame_values.proofs.Visits as visits
use Rattle.frame_values.proofs.Settling.{of_outcome, puts_steps, moved, leaves}
use Rattle.frame_values.proofs.attributes.load_attr.Goals as goal

pub returns-clause-steps : goal.returns-clause-steps
returns-clause-steps g c =
    let texts = g.C.Constants.text_of c.args.consts.now in
    let tuples = g.C.Constants.items_of c.args.consts.now in
    let before = c.args.arena.now in
    let old = c.args.frames.now in
    puts_steps texts tuples c.args.end 1 before c.get_attr-given.new.arena old c.put.new.frames c.put.result c.get_attr-given.result 0 _
    (of_outcome texts tuples before c.get_attr-given.new.arena c.get_attr-given.result 0 (λ heap. get_attr heap (plain texts tuples c.value_at-object.result) (or_nothing (texts c.args.name))) c.get_attr-given.ensures (visits.get_attr_free (plain_heap texts tuples before) (plain texts tuples c.value_at-object.result) (or_nothing (texts c.args.name))))
    (Names ops.LoadAttr (or_nothing (texts c.args.name))) (λ (d : Call). slice_get d.slots 0 ≡ Some (slots.Value c.value_at-object.result)) (c.value_at-object.ensures.there)
    (λ layout library place paid d frames w h.
    let view = view_of (tables_of texts tuples layout) in
    items.load_attr view (starts_of view d) library place paid (frame_of view d) frames (world_over texts tuples w before) (or_nothing (texts c.args.name)) d.slots c.value_at-object.result h)
    c.put.ensures

pub returns-clause-moved : goal.returns-clause-moved
returns-clause-moved g c =
    let texts = g.C.Constants.text_of c.args.consts.now in
    let tuples = g.C.Constants.items_of c.args.consts.now in
    let before = c.args.arena.now in
    let old = c.args.frames.now in
    moved texts tuples (with_value c.args.end 1) old c.put.new.frames c.put.result before c.get_attr-given.new.arena c.get_attr-given.result 0 _
    (of_outcome texts tuples before c.get_attr-given.new.arena c.get_attr-given.result 0 (λ heap. get_attr heap (plain texts tuples c.value_at-object.result) (or_nothing (texts c.args.name))) c.get_attr-given.ensures (visits.get_attr_free (plain_heap texts tuples before) (plain texts tuples c.value_at-object.result) (or_nothing (texts c.args.name)))) c.put.ensures

pub returns-clause-leaves : goal.returns-clause-leaves
returns-clause-leaves g c =
    let texts = g.C.Constants.text_of c.args.consts.now in
    let tuples = g.C.Constants.items_of c.args.consts.now in
    let before = c.args.arena.now in
    let old = c.args.frames.now in
    leaves texts tuples (with_value c.args.end 1) old c.put.new.frames c.put.result before c.get_attr-given.new.arena c.get_attr-given.result 0 _
    (of_outcome texts tuples before c.get_attr-given.new.arena c.get_attr-given.result 0 (λ heap. get_attr heap (plain texts tuples c.value_at-object.result) (or_nothing (texts c.args.name))) c.get_attr-given.ensures (visits.get_attr_free (plain_heap texts tuples before) (plain texts tuples c.value_at-object.result) (or_nothing (texts c.args.name)))) c.put.ensures

use Rattle.std.proofs.Common.{◌≡◌, Some, slice_get}
use Rattle.frame_moves.specs.bc_ops.declared.instr.Instr.TheVariants as instrs
use Rattle.prim_names.specs.prim_walks.Plain.{plain, plain_heap}
use Rattle.prim_names.specs.prim_faults.Sights.{world_over}
use Rattle.frame_moves.specs.vm_frames.declared.slot.Slot.TheVariants as slots
use Rattle.frame_moves.specs.vm_frames.Calls.{Call}
use Rattle.frame_moves.specs.vm_frames.Views.{starts_of, frame_of}
use Rattle.frame_moves.specs.bc_machine.Library.{Plain}
use Rattle.frame_moves.specs.Shown.{view_of}
use Rattle.frame_values.specs.Effects.{tables_of}
use Rattle.frame_values.specs.Operations.{meaning_of_one}
use Rattle.frame_values.specs.Slots.{with_value}
use Rattle.frame_values.proofs.Operating.{one_found, one_free, one_done}
use Rattle.frame_values.proofs.Settling.{of_outcome, puts_steps, moved, leaves}
use Rattle.frame_values.proofs.operators.unary_op.Goals as goal

pub returns-clause-steps : goal.returns-clause-steps
returns-clause-steps g c =
    let texts = g.C.Constants.text_of c.args.consts.now in
    let tuples = g.C.Constants.items_of c.args.consts.now in
    let before = c.args.arena.now in
    let old = c.args.frames.now in
    let op = c.in-Some.op in
    let found = one_found c.args.number c.one_operand.result op c.one_operand.ensures c.in-Some.is in
    puts_steps texts tuples c.args.end 1 before before old c.put.new.frames c.put.result c.one_value-given.result 0 _
    (of_outcome texts tuples before before c.one_value-given.result 0 (λ heap. meaning_of_one op heap (plain texts tuples c.value_at-v.result)) c.one_value-given.ensures (one_free (plain_heap texts tuples before) op (plain texts tuples c.value_at-v.result)))
    (Plain (instrs.Unary c.args.number)) (λ (d : Call). slice_get d.slots 0 ≡ Some (slots.Value c.value_at-v.result)) c.value_at-v.ensures.there
    (λ layout library place paid d frames w h.
    let view = view_of (tables_of texts tuples layout) in
    one_done view (starts_of view d) library place paid (frame_of view d) frames (world_over texts tuples w before) c.args.number op found d.slots c.value_at-v.result h)
    c.put.ensures

pub returns-clause-moved : goal.returns-clause-moved
returns-clause-moved g c =
    let texts = g.C.Constants.text_of c.args.consts.now in
    let tuples = g.C.Constants.items_of c.args.consts.now in
    let before = c.args.arena.now in
    let old = c.args.frames.now in
    let op = c.in-Some.op in
    moved texts tuples (with_value c.args.end 1) old c.put.new.frames c.put.result before before c.one_value-given.result 0 _
    (of_outcome texts tuples before before c.one_value-given.result 0 (λ heap. meaning_of_one op heap (plain texts tuples c.value_at-v.result)) c.one_value-given.ensures (one_free (plain_heap texts tuples before) op (plain texts tuples c.value_at-v.result)))
    c.put.ensures

pub returns-clause-leaves : goal.returns-clause-leaves
returns-clause-leaves g c =
    let texts = g.C.Constants.text_of c.args.consts.now in
    let tuples = g.C.Constants.items_of c.args.consts.now in
    let before = c.args.arena.now in
    let old = c.args.frames.now in
    let op = c.in-Some.op in
    leaves texts tuples (with_value c.args.end 1) old c.put.new.frames c.put.result before before c.one_value-given.result 0 _
    (of_outcome texts tuples before before c.one_value-given.result 0 (λ heap. meaning_of_one op heap (plain texts tuples c.value_at-v.result)) c.one_value-given.ensures (one_free (plain_heap texts tuples before) op (plain texts tuples c.value_at-v.result)))
    c.put.ensures

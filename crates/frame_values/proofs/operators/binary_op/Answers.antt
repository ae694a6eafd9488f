use Rattle.std.proofs.Common.{◌≡◌, Some, slice_get, ap₂, ◌∙◌, refl}
use Rattle.frame_moves.specs.bc_ops.declared.instr.Instr.TheVariants as instrs
use Rattle.prim_names.specs.arena_heap.declared.value.Value.{Value}
use Rattle.prim_names.specs.prim_walks.Plain.{plain, plain_heap}
use Rattle.prim_names.specs.prim_faults.Sights.{world_over}
use Rattle.frame_moves.specs.vm_frames.declared.slot.Slot.TheVariants as slots
use Rattle.frame_moves.specs.vm_frames.Calls.{Call}
use Rattle.frame_moves.specs.vm_frames.Views.{starts_of, frame_of}
use Rattle.frame_moves.specs.bc_machine.Library.{Plain}
use Rattle.frame_moves.specs.bc_machine.Operations.{operator_at}
use Rattle.frame_moves.specs.Shown.{view_of}
use Rattle.frame_moves.proofs.Stepping.{both}
use Rattle.frame_values.specs.Effects.{tables_of}
use Rattle.frame_values.specs.Operations.{meaning_of_two, visits_of}
use Rattle.frame_values.specs.Slots.{with_value}
use Rattle.frame_values.proofs.Calls.{same_value}
use Rattle.frame_values.proofs.Operating.{two_found, two_visits, two_done}
use Rattle.frame_values.proofs.Settling.{of_outcome, puts_steps, moved, leaves}
use Rattle.frame_values.proofs.operators.binary_op.Goals as goal

pub returns-clause-steps : goal.returns-clause-steps
returns-clause-steps g c left right at_left at_right =
    let texts = g.C.Constants.text_of c.args.consts.now in
    let tuples = g.C.Constants.items_of c.args.consts.now in
    let before = c.args.arena.now in
    let old = c.args.frames.now in
    let op = c.in-Some.op in
    let heap = plain_heap texts tuples before in
    let found = two_found c.args.number c.two_operands.result op c.two_operands.ensures c.in-Some.is in
    let visits = visits_of (operator_at c.args.number) heap (plain texts tuples left) (plain texts tuples right) in
    let same = ap₂ (λ (x y : Value). visits_of (operator_at c.args.number) heap (plain texts tuples x) (plain texts tuples y)) (same_value 1 c.value_at-left.result left old.calls c.value_at-left.ensures.there at_left) (same_value 0 c.value_at-right.result right old.calls c.value_at-right.ensures.there at_right) in
    puts_steps texts tuples c.args.end 2 before c.two_values-given.new.arena old c.put.new.frames c.put.result c.two_values-given.result visits _
    (of_outcome texts tuples before c.two_values-given.new.arena c.two_values-given.result visits (λ heap. meaning_of_two op heap (plain texts tuples c.value_at-left.result) (plain texts tuples c.value_at-right.result)) c.two_values-given.ensures (two_visits c.args.number op found heap (plain texts tuples c.value_at-left.result) (plain texts tuples c.value_at-right.result) ∙ same))
    (Plain (instrs.Binary c.args.number)) (λ (d : Call). (slice_get d.slots 0 ≡ Some (slots.Value c.value_at-right.result)) × (slice_get d.slots 1 ≡ Some (slots.Value c.value_at-left.result)))
    (both (λ (d : Call). slice_get d.slots 0 ≡ Some (slots.Value c.value_at-right.result)) (λ (d : Call). slice_get d.slots 1 ≡ Some (slots.Value c.value_at-left.result)) old.calls c.value_at-right.ensures.there c.value_at-left.ensures.there)
    (λ layout library place paid d frames w h.
    let view = view_of (tables_of texts tuples layout) in
    two_done view (starts_of view d) library place paid (frame_of view d) frames (world_over texts tuples w before) c.args.number op found d.slots c.value_at-right.result c.value_at-left.result h.0 h.1)
    c.put.ensures

pub returns-clause-moved : goal.returns-clause-moved
returns-clause-moved g c =
    let texts = g.C.Constants.text_of c.args.consts.now in
    let tuples = g.C.Constants.items_of c.args.consts.now in
    let before = c.args.arena.now in
    let old = c.args.frames.now in
    let op = c.in-Some.op in
    moved texts tuples (with_value c.args.end 2) old c.put.new.frames c.put.result before c.two_values-given.new.arena c.two_values-given.result _ _
    (of_outcome texts tuples before c.two_values-given.new.arena c.two_values-given.result (meaning_of_two op (plain_heap texts tuples before) (plain texts tuples c.value_at-left.result) (plain texts tuples c.value_at-right.result)).visits (λ heap. meaning_of_two op heap (plain texts tuples c.value_at-left.result) (plain texts tuples c.value_at-right.result)) c.two_values-given.ensures refl)
    c.put.ensures

pub returns-clause-leaves : goal.returns-clause-leaves
returns-clause-leaves g c =
    let texts = g.C.Constants.text_of c.args.consts.now in
    let tuples = g.C.Constants.items_of c.args.consts.now in
    let before = c.args.arena.now in
    let old = c.args.frames.now in
    let op = c.in-Some.op in
    leaves texts tuples (with_value c.args.end 2) old c.put.new.frames c.put.result before c.two_values-given.new.arena c.two_values-given.result _ _
    (of_outcome texts tuples before c.two_values-given.new.arena c.two_values-given.result (meaning_of_two op (plain_heap texts tuples before) (plain texts tuples c.value_at-left.result) (plain texts tuples c.value_at-right.result)).visits (λ heap. meaning_of_two op heap (plain texts tuples c.value_at-left.result) (plain texts tuples c.value_at-right.result)) c.two_values-given.ensures refl)
    c.put.ensures

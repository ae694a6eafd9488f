use Rattle.std.proofs.Common.{◌≡◌, suc, Some, slice_get, ◌∙◌}
use Rattle.vm_frames.specs.bc_ops.declared.instr.Op.TheVariants as ops
use Rattle.vm_frames.specs.bc_ops.declared.instr.Instr.TheVariants as instrs
use Rattle.vm_frames.specs.declared.slot.Slot.TheVariants as slots
use Rattle.vm_frames.specs.bc_labels.Positions.{position_in}
use Rattle.vm_frames.specs.Calls.{Call}
use Rattle.vm_frames.specs.Views.{starts_of, position_of, frame_of}
use Rattle.vm_frames.specs.bc_machine.Library.{Plain}
use Rattle.frame_moves.specs.Shown.{view_of}
use Rattle.frame_moves.proofs.Stepping.{both, steps_by}
use Rattle.frame_moves.proofs.Testing as testing
use Rattle.frame_moves.proofs.Locals as locals
use Rattle.frame_moves.proofs.storing.store_fast.Goals as goal

pub returns-clause-short : goal.returns-clause-short
returns-clause-short c tables w next =
    let s0 = c.args.frames.now in
    let v = c.in-Value.v in
    let view = view_of tables in
    let N : Call → Type 0 = λ (d : Call). position_in (starts_of view d) c.args.end ≡ suc (position_of view d) in
    let T : Call → Type 0 = λ (d : Call). slice_get d.slots 0 ≡ Some (slots.Value v) in
    steps_by tables w (Plain (instrs.Num ops.StoreFast c.args.n)) (locals.stored c.args.n v c.args.end) (λ d. N d × T d)
    (λ library place paid d frames h.
    locals.short view (starts_of view d) library place paid (frame_of view d) frames w c.args.n d.slots v h.1
    ∙ testing.stores view d c.args.n c.args.end v frames w h.0)
    s0 c.set_offset.new.self
    (locals.storing c.args.n v c.args.end s0 c.pop.new.self c.set_local.new.self c.set_offset.new.self c.pop.ensures.rest c.set_local.ensures c.set_offset.ensures)
    (both N T s0.calls next (locals.top_value s0.calls c.pop.result v c.pop.ensures.top c.in-Value.is))

pub returns-clause-long : goal.returns-clause-long
returns-clause-long c tables w next =
    let s0 = c.args.frames.now in
    let v = c.in-Value.v in
    let view = view_of tables in
    let N : Call → Type 0 = λ (d : Call). position_in (starts_of view d) c.args.end ≡ suc (position_of view d) in
    let T : Call → Type 0 = λ (d : Call). slice_get d.slots 0 ≡ Some (slots.Value v) in
    steps_by tables w (Plain (instrs.Num ops.StoreFastN c.args.n)) (locals.stored c.args.n v c.args.end) (λ d. N d × T d)
    (λ library place paid d frames h.
    locals.long view (starts_of view d) library place paid (frame_of view d) frames w c.args.n d.slots v h.1
    ∙ testing.stores view d c.args.n c.args.end v frames w h.0)
    s0 c.set_offset.new.self
    (locals.storing c.args.n v c.args.end s0 c.pop.new.self c.set_local.new.self c.set_offset.new.self c.pop.ensures.rest c.set_local.ensures c.set_offset.ensures)
    (both N T s0.calls next (locals.top_value s0.calls c.pop.result v c.pop.ensures.top c.in-Value.is))

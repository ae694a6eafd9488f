use Rattle.std.proofs.Common.{refl}
use Rattle.prim_raising.specs.prim_faults.arena_heap.declared.value.Value.TheVariants as values
use Rattle.vm_frames.specs.bc_ops.declared.instr.Op.TheVariants as ops
use Rattle.vm_frames.specs.bc_machine.Library.{Names}
use Rattle.vm_frames.specs.declared.slot.Slot.TheVariants as slots
use Rattle.frame_moves.specs.Shown.{text_of}
use Rattle.frame_moves.proofs.Stepping.{puts}
use Rattle.frame_moves.proofs.loading.load_text.Goals as goal

pub returns-clause-steps : goal.returns-clause-steps
returns-clause-steps c tables w next =
    puts tables w (Names ops.LoadConstString (text_of tables c.args.text)) (slots.Value (values.Str c.args.text)) c.args.end (λ library place paid frame frames starts. refl) c.args.frames.now c.go_with.new.frames c.go_with.ensures next

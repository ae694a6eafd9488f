use Rattle.std.proofs.Common.{refl}
use Rattle.prim_raising.specs.prim_faults.arena_heap.declared.value.Value.TheVariants as values
use Rattle.vm_frames.specs.bc_ops.declared.instr.Op.TheVariants as ops
use Rattle.vm_frames.specs.bc_ops.declared.instr.Instr.TheVariants as instrs
use Rattle.vm_frames.specs.bc_machine.Library.{Plain}
use Rattle.vm_frames.specs.declared.slot.Slot.TheVariants as slots
use Rattle.frame_moves.proofs.Stepping.{puts}
use Rattle.frame_moves.proofs.loading.load_none.Goals as goal

pub returns-clause-steps : goal.returns-clause-steps
returns-clause-steps c tables w next =
    puts tables w (Plain (instrs.Plain ops.LoadConstNone)) (slots.Value values.None) c.args.end (λ library place paid frame frames starts. refl) c.args.frames.now c.go_with.new.frames c.go_with.ensures next

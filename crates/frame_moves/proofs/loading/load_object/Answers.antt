use Rattle.std.proofs.Common.{refl}
use Rattle.vm_frames.specs.bc_machine.Library.{Loads}
use Rattle.vm_frames.specs.declared.slot.Slot.TheVariants as slots
use Rattle.frame_moves.specs.Shown.{value_of}
use Rattle.frame_moves.proofs.Stepping.{puts}
use Rattle.frame_moves.proofs.loading.load_object.Goals as goal

pub returns-clause-steps : goal.returns-clause-steps
returns-clause-steps c tables w next =
    puts tables w (Loads (value_of tables c.args.v)) (slots.Value c.args.v) c.args.end (λ library place paid frame frames starts. refl) c.args.frames.now c.go_with.new.frames c.go_with.ensures next

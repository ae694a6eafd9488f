use Rattle.std.proofs.Common.{◌≡◌}
use Rattle.vm_frames.specs.bc_ops.declared.instr.Op.TheVariants as ops
use Rattle.vm_frames.specs.bc_labels.Positions.{position_in}
use Rattle.vm_frames.specs.Views.{starts_of}
use Rattle.vm_frames.specs.bc_machine.Library.{Jumps}
use Rattle.frame_moves.specs.Shown.{view_of}
use Rattle.frame_moves.specs.Stacks.{gone}
use Rattle.frame_moves.proofs.Stepping.{goes_to, steps_by}
use Rattle.frame_moves.proofs.jumping.jump.Goals as goal

pub returns-clause-steps : goal.returns-clause-steps
returns-clause-steps c tables w position at =
    let view = view_of tables in
    steps_by tables w (Jumps ops.Jump position) (λ d. gone c.args.target d.slots d) (λ d. position_in (starts_of view d) c.args.target ≡ position)
    (λ library place paid d frames h. goes_to view d position c.args.target d.slots frames w h)
    c.args.frames.now c.set_offset.new.self c.set_offset.ensures at

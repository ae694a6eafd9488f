use Rattle.std.proofs.Common.{◌≡◌, suc, false}
use Rattle.vm_frames.specs.bc_ops.declared.instr.Op.TheVariants as ops
use Rattle.vm_frames.specs.bc_labels.Positions.{position_in}
use Rattle.vm_frames.specs.Calls.{Call}
use Rattle.vm_frames.specs.Views.{starts_of, position_of}
use Rattle.vm_frames.specs.bc_machine.Library.{Jumps}
use Rattle.frame_moves.specs.Shown.{view_of}
use Rattle.frame_moves.specs.Stacks.{set_up}
use Rattle.frame_moves.proofs.Stepping.{both, steps_by}
use Rattle.frame_moves.proofs.Changing.{setting_up}
use Rattle.frame_moves.proofs.Testing as testing
use Rattle.frame_moves.proofs.handling.setup_except.Goals as goal

pub returns-clause-steps : goal.returns-clause-steps
returns-clause-steps c tables w position at next =
    let view = view_of tables in
    let A : Call → Type 0 = λ (d : Call). position_in (starts_of view d) c.args.handler ≡ position in
    let N : Call → Type 0 = λ (d : Call). position_in (starts_of view d) c.args.end ≡ suc (position_of view d) in
    steps_by tables w (Jumps ops.SetupExcept position) (λ d. set_up c.args.handler false c.args.end d) (λ d. A d × N d)
    (λ library place paid d frames h. testing.sets_up view d position c.args.handler c.args.end false frames w h.0 h.1)
    c.args.frames.now c.set_offset.new.self (setting_up c.args.handler false c.args.end c.args.frames.now c.setup.new.self c.set_offset.new.self c.setup.ensures c.set_offset.ensures) (both A N c.args.frames.now.calls at next)

pub returns-clause-moved : goal.returns-clause-moved
returns-clause-moved c = setting_up c.args.handler false c.args.end c.args.frames.now c.setup.new.self c.set_offset.new.self c.setup.ensures c.set_offset.ensures

use Rattle.std.proofs.Common.{◌≡◌, ◌<◌, length, drop, ◌∙◌}
use Rattle.vm_frames.specs.bc_ops.declared.instr.Op.TheVariants as ops
use Rattle.vm_frames.specs.bc_labels.Positions.{position_in}
use Rattle.vm_frames.specs.Calls.{Call}
use Rattle.vm_frames.specs.Views.{slots_of, starts_of, position_of, frame_of}
use Rattle.vm_frames.specs.bc_machine.Library.{Jumps}
use Rattle.frame_moves.specs.Shown.{view_of}
use Rattle.frame_moves.proofs.Stepping.{both, goes_with, steps_by}
use Rattle.frame_moves.proofs.Changing.{dropping_entry}
use Rattle.frame_moves.proofs.Testing as testing
use Rattle.frame_moves.proofs.handling.pop_except_jump.Goals as goal

pub returns-clause-steps : goal.returns-clause-steps
returns-clause-steps c tables w position at =
    let view = view_of tables in
    let A : Call → Type 0 = λ (d : Call). position_in (starts_of view d) c.args.target ≡ position in
    let E : Call → Type 0 = λ (d : Call). 0 < length d.entries in
    steps_by tables w (Jumps ops.PopExceptJump position) (λ d. record d { at = c.args.target; entries = drop 1 d.entries }) (λ d. A d × E d)
    (λ library place paid d frames h.
    testing.pops (starts_of view d) (position_of view d) library place paid (frame_of view d) frames w position (slots_of view (starts_of view d) d.slots) d.entries h.1
    ∙ goes_with view d position c.args.target d.slots (drop 1 d.entries) frames w h.0)
    c.args.frames.now c.set_offset.new.self (dropping_entry c.args.target c.args.frames.now c.drop_entry.new.self c.set_offset.new.self c.drop_entry.ensures c.set_offset.ensures) (both A E c.args.frames.now.calls at c.requires)

pub returns-clause-moved : goal.returns-clause-moved
returns-clause-moved c = dropping_entry c.args.target c.args.frames.now c.drop_entry.new.self c.set_offset.new.self c.drop_entry.ensures c.set_offset.ensures

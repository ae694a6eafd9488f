use Rattle.std.proofs.Common.{◌<◌, length, drop}
use Rattle.vm_frames.specs.bc_ops.declared.instr.Op.TheVariants as ops
use Rattle.vm_frames.specs.bc_ops.declared.instr.Instr.TheVariants as instrs
use Rattle.vm_frames.specs.bc_machine.Library.{Plain}
use Rattle.vm_frames.specs.Views.{starts_of, frame_of}
use Rattle.frame_moves.specs.Shown.{view_of}
use Rattle.frame_moves.proofs.Stepping.{turns}
use Rattle.frame_moves.proofs.Turning as turning
use Rattle.frame_moves.proofs.stacking.pop_top.Goals as goal

pub returns-clause-steps : goal.returns-clause-steps
returns-clause-steps c tables w next =
    let view = view_of tables in
    turns tables w (Plain (instrs.Plain ops.PopTop)) (drop 1) (λ d. 0 < length d.slots) c.args.end
    (λ library place paid d frames h. turning.pop_top view (starts_of view d) library place paid (frame_of view d) frames w d.slots h)
    c.args.frames.now c.go_without.new.frames (c.go_without.ensures.moved) c.requires next

use Rattle.std.proofs.Common.{◌<◌, length}
use Rattle.vm_frames.specs.bc_ops.declared.instr.Op.TheVariants as ops
use Rattle.vm_frames.specs.bc_ops.declared.instr.Instr.TheVariants as instrs
use Rattle.vm_frames.specs.bc_machine.Library.{Plain}
use Rattle.vm_frames.specs.Views.{starts_of, frame_of}
use Rattle.frame_moves.specs.Shown.{view_of}
use Rattle.frame_moves.specs.Stacks.{doubled_two}
use Rattle.frame_moves.proofs.Stepping.{turns}
use Rattle.frame_moves.proofs.Changing.{doubling_two}
use Rattle.frame_moves.proofs.Turning as turning
use Rattle.frame_moves.proofs.stacking.dup_top_two.Goals as goal

pub returns-clause-moved : goal.returns-clause-moved
returns-clause-moved c = doubling_two c.args.end c.slot-top.result c.slot-second.result c.args.frames.now c.push.new.self c.go_with.new.frames c.slot-top.ensures c.slot-second.ensures c.push.ensures c.go_with.ensures

pub returns-clause-steps : goal.returns-clause-steps
returns-clause-steps c tables w next =
    let view = view_of tables in
    turns tables w (Plain (instrs.Plain ops.DupTopTwo)) doubled_two (λ d. 1 < length d.slots) c.args.end
    (λ library place paid d frames h. turning.dup_top_two view (starts_of view d) library place paid (frame_of view d) frames w d.slots h)
    c.args.frames.now c.go_with.new.frames (doubling_two c.args.end c.slot-top.result c.slot-second.result c.args.frames.now c.push.new.self c.go_with.new.frames c.slot-top.ensures c.slot-second.ensures c.push.ensures c.go_with.ensures) c.requires.there next

use Rattle.std.proofs.Common.{◌≡◌, suc, not, drop, ◌∙◌, if◌then◌else◌}
use Rattle.vm_frames.specs.bc_ops.declared.instr.Op.TheVariants as ops
use Rattle.vm_frames.specs.bc_labels.Positions.{position_in}
use Rattle.vm_frames.specs.Calls.{Call}
use Rattle.vm_frames.specs.Views.{starts_of, position_of, frame_of}
use Rattle.vm_frames.specs.bc_machine.Library.{Jumps}
use Rattle.frame_moves.specs.Shown.{view_of, HasTruth}
use Rattle.frame_moves.specs.Stacks.{gone}
use Rattle.frame_moves.proofs.Stepping.{both, steps_by}
use Rattle.frame_moves.proofs.Testing as testing
use Rattle.frame_moves.proofs.jumping.jump_if_false_or_pop.Goals as goal

pub returns-clause-steps : goal.returns-clause-steps
returns-clause-steps c tables w position at next test =
    let view = view_of tables in
    let b = c.args.truth in
    let A : Call → Type 0 = λ (d : Call). position_in (starts_of view d) c.args.target ≡ position in
    let N : Call → Type 0 = λ (d : Call). position_in (starts_of view d) c.args.end ≡ suc (position_of view d) in
    let T : Call → Type 0 = λ (d : Call). HasTruth tables w b d in
    let P : Call → Type 0 = λ (d : Call). N d × T d in
    steps_by tables w (Jumps ops.JumpIfFalseOrPop position) (λ d. if not b then gone c.args.target d.slots d else gone c.args.end (drop 1 d.slots) d) (λ d. A d × P d)
    (λ library place paid d frames h.
    testing.keep_false view (starts_of view d) library place paid (frame_of view d) frames w position d.slots h.1.1.value b h.1.1.top h.1.1.truth_is
    ∙ testing.kept_or_popped view d (not b) position c.args.target c.args.end frames w h.0 h.1.0)
    c.args.frames.now c.go_if.new.frames c.go_if.ensures (both A P c.args.frames.now.calls at (both N T c.args.frames.now.calls next test))

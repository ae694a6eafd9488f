use Rattle.std.proofs.Common.{◌≡◌, suc, drop, ◌∙◌, if◌then◌else◌}
use Rattle.vm_frames.specs.bc_ops.declared.instr.Op.TheVariants as ops
use Rattle.vm_frames.specs.bc_labels.Positions.{position_in}
use Rattle.vm_frames.specs.Calls.{Call}
use Rattle.vm_frames.specs.Views.{starts_of, position_of, frame_of}
use Rattle.vm_frames.specs.bc_machine.Library.{Jumps}
use Rattle.frame_moves.specs.Shown.{view_of, HasTruth}
use Rattle.frame_moves.specs.Stacks.{gone}
use Rattle.frame_moves.proofs.Stepping.{both, goes_to, steps_by}
use Rattle.frame_moves.proofs.Testing as testing
use Rattle.frame_moves.proofs.jumping.pop_jump_if_false.Goals as goal

pub returns-clause-steps : goal.returns-clause-steps
returns-clause-steps c tables w position at next test =
    let view = view_of tables in
    let b = c.args.truth in
    let A : Call → Type 0 = λ (d : Call). position_in (starts_of view d) c.args.target ≡ position in
    let N : Call → Type 0 = λ (d : Call). position_in (starts_of view d) c.args.end ≡ suc (position_of view d) in
    let T : Call → Type 0 = λ (d : Call). HasTruth tables w b d in
    let P : Call → Type 0 = λ (d : Call). N d × T d in
    steps_by tables w (Jumps ops.PopJumpIfFalse position) (λ d. gone (if b then c.args.end else c.args.target) (drop 1 d.slots) d) (λ d. A d × P d)
    (λ library place paid d frames h.
    testing.pop_false view (starts_of view d) library place paid (frame_of view d) frames w position d.slots h.1.1.value b h.1.1.top h.1.1.truth_is
    ∙ goes_to view d (if b then (suc (position_of view d)) else position) (if b then c.args.end else c.args.target) (drop 1 d.slots) frames w (testing.chosen (starts_of view d) b c.args.end c.args.target (suc (position_of view d)) position h.1.0 h.0))
    c.args.frames.now c.drop_to.new.frames c.drop_to.ensures (both A P c.args.frames.now.calls at (both N T c.args.frames.now.calls next test))

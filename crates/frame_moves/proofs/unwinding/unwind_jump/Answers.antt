use Rattle.std.proofs.Common.{◌≡◌, ◌≤◌, ◌%◌, ℕ, length, nat_le, sym, ap, ◌∙◌}
use Rattle.vm_frames.specs.Calls.{Call}
use Rattle.vm_frames.specs.Moves.{jumped}
use Rattle.vm_frames.specs.bc_labels.Positions.{position_in}
use Rattle.vm_frames.specs.Placed.{IsPlaced}
use Rattle.vm_frames.specs.Views.{starts_of, frame_of}
use Rattle.vm_frames.specs.bc_machine.Library.{Unwinds}
use Rattle.vm_frames.specs.bc_machine.State.{unwind}
use Rattle.frame_moves.specs.Shown.{view_of}
use Rattle.frame_moves.proofs.Stepping.{both, steps_by}
use Rattle.frame_moves.proofs.unwinding.unwind_jump.Goals as goal

pub returns-clause-steps : goal.returns-clause-steps
returns-clause-steps c tables w position at placed =
    let view = view_of tables in
    let s0 = c.args.frames.now in
    let count = c.args.byte % 128 in
    let it = nat_le 128 c.args.byte in
    let A : Call → Type 0 = λ (d : Call). position_in (starts_of view d) c.args.target ≡ position in
    let B : Call → Type 0 = λ (d : Call). IsPlaced view d in
    let L : Call → Type 0 = λ (d : Call). count ≤ length d.entries in
    let P : Call → Type 0 = λ (d : Call). B d × L d in
    steps_by tables w (Unwinds position c.args.byte) (λ d. (jumped c.args.target count it d.entries d.slots d).call) (λ d. A d × P d)
    (λ library place paid d frames h.
    ap (λ (z : ℕ). unwind z it count (frame_of view d).entries (frame_of view d).slots (frame_of view d) frames w) (sym h.0)
    ∙ c.moves_law.ensures.jumps view c.args.target count it d frames w h.1.0 h.1.1)
    s0 c.unwind.new.self c.unwind.ensures.moved (both A P s0.calls at (both B L s0.calls placed c.requires))

use Rattle.std.proofs.Common.{◌≤◌, ◌%◌, length, nat_le, arith}
use Rattle.vm_states.specs.bc_labels.Positions.{position_in}
use Rattle.vm_states.specs.vm_frames.Moves.{jumped}
use Rattle.vm_states.specs.vm_frames.Views.{starts_of}
use Rattle.vm_states.specs.frame_moves.Shown.{view_of}
use Rattle.vm_states.specs.vm_fetching.declared.instruction.Fetched.{Fetched}
use Rattle.vm_states.specs.vm_fetching.Instructions as fetched
use Rattle.state_values.proofs.Moves as moves
use Rattle.state_values.proofs.jumping.jump_out.Goals as goal

pub unwind_jump-requires : goal.unwind_jump-requires
unwind_jump-requires c =
    let h = c.requires.runs in
    let r = h.ready in
    let n = c.tops_law.ensures.entries (view_of h.program.tables) r.first in
    let k = r.finds in
    moves.of_first (λ d. c.args.byte % 128 ≤ length d.entries) h.program c.args.frames.now h.row (record { instruction = fetched.unwind c.args.target c.args.byte; end = c.args.end }) r (omega (arith, n, k))

pub returns-clause-goes : goal.returns-clause-goes
returns-clause-goes c p row means run r =
    let f : Fetched = record { instruction = fetched.unwind c.args.target c.args.byte; end = c.args.end } in
    moves.goes_with c.keeps_law.ensures.went c.args.frames.now c.unwind_jump.new.frames f (λ d. (jumped c.args.target (c.args.byte % 128) (nat_le 128 c.args.byte) d.entries d.slots d).call) p row means run r
    (λ h. c.placed_law.ensures.jumps (view_of p.tables) c.args.target (c.args.byte % 128) (nat_le 128 c.args.byte) r.first h r.target)
    (moves.jumped_module c.args.target (c.args.byte % 128) (nat_le 128 c.args.byte) r.first.entries r.first.slots r.first)
    (λ w. c.unwind_jump.ensures.steps p.tables w (position_in (starts_of (view_of p.tables) r.first) c.args.target) (moves.at_first p c.args.frames.now row f r c.args.target) (moves.first_placed p c.args.frames.now row f run r)) c.unwind_jump.ensures.moved

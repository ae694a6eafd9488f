use Rattle.std.proofs.Common.{◌<◌, length, drop, refl, ap, arith}
use Rattle.vm_states.specs.bc_labels.Positions.{position_in}
use Rattle.vm_states.specs.vm_frames.Calls.{Call}
use Rattle.vm_states.specs.vm_frames.Views.{starts_of}
use Rattle.vm_states.specs.frame_moves.Shown.{view_of}
use Rattle.vm_states.specs.vm_fetching.declared.instruction.Fetched.{Fetched}
use Rattle.vm_states.specs.vm_fetching.Instructions as fetched
use Rattle.vm_states.specs.vm_fetching.declared.operations.HandlerOp.TheVariants as handler_ops
use Rattle.state_values.proofs.Moves as moves
use Rattle.state_values.proofs.jumping.end_except.Goals as goal

pub pop_except_jump-requires : goal.pop_except_jump-requires
pop_except_jump-requires c =
    let h = c.requires.runs in
    let r = h.ready in
    let n = c.tops_law.ensures.entries (view_of h.program.tables) r.first in
    let k = ap length r.finds.entries_are in
    moves.of_first (λ d. 0 < length d.entries) h.program c.args.frames.now h.row (record { instruction = fetched.handle handler_ops.PopExceptJump c.args.target; end = c.args.end }) r (omega (arith, n, k))

pub returns-clause-goes : goal.returns-clause-goes
returns-clause-goes c p row means run r =
    let f : Fetched = record { instruction = fetched.handle handler_ops.PopExceptJump c.args.target; end = c.args.end } in
    let without_entry : Call = record r.first { entries = drop 1 r.first.entries } in
    moves.goes_with c.keeps_law.ensures.went c.args.frames.now c.pop_except_jump.new.frames f (λ d. record d { at = c.args.target; entries = drop 1 d.entries }) p row means run r
    (λ h. c.placed_law.ensures.goes (view_of p.tables) without_entry c.args.target r.first.slots (c.placed_law.ensures.drops (view_of p.tables) r.first h) r.target) refl
    (λ w. c.pop_except_jump.ensures.steps p.tables w (position_in (starts_of (view_of p.tables) r.first) c.args.target) (moves.at_first p c.args.frames.now row f r c.args.target)) c.pop_except_jump.ensures.moved

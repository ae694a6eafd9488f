use Rattle.std.proofs.Common.{refl}
use Rattle.vm_states.specs.bc_labels.Positions.{position_in}
use Rattle.vm_states.specs.vm_frames.Views.{starts_of}
use Rattle.vm_states.specs.frame_moves.Shown.{view_of}
use Rattle.vm_states.specs.frame_moves.Stacks.{gone}
use Rattle.vm_states.specs.vm_fetching.declared.instruction.Fetched.{Fetched}
use Rattle.vm_states.specs.vm_fetching.Instructions as fetched
use Rattle.state_values.proofs.Moves as moves
use Rattle.state_values.proofs.jumping.jump_on.Goals as goal

pub jump-requires : goal.jump-requires
jump-requires c = let h = c.requires.runs in moves.some_run h.program c.args.frames.now h.row (record { instruction = fetched.jump c.args.target; end = c.args.end }) h.ready

pub returns-clause-goes : goal.returns-clause-goes
returns-clause-goes c p row means run r =
    let f : Fetched = record { instruction = fetched.jump c.args.target; end = c.args.end } in
    moves.goes_with c.keeps_law.ensures.went c.args.frames.now c.jump.new.frames f (λ d. gone c.args.target d.slots d) p row means run r
    (λ h. c.placed_law.ensures.goes (view_of p.tables) r.first c.args.target r.first.slots h r.target) refl
    (λ w. c.jump.ensures.steps p.tables w (position_in (starts_of (view_of p.tables) r.first) c.args.target) (moves.at_first p c.args.frames.now row f r c.args.target)) c.jump.ensures.moved

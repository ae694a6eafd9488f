use Rattle.std.proofs.Common.{◌∷◌, false, refl}
use Rattle.vm_states.specs.bc_labels.Positions.{position_in}
use Rattle.vm_states.specs.vm_frames.Calls.{Call}
use Rattle.vm_states.specs.vm_frames.Views.{starts_of}
use Rattle.vm_states.specs.frame_moves.Shown.{view_of}
use Rattle.vm_states.specs.frame_moves.Stacks.{entry_over, set_up}
use Rattle.vm_states.specs.vm_fetching.declared.instruction.Fetched.{Fetched}
use Rattle.vm_states.specs.vm_fetching.Instructions as fetched
use Rattle.vm_states.specs.vm_fetching.declared.operations.HandlerOp.TheVariants as handler_ops
use Rattle.state_values.proofs.Moves as moves
use Rattle.state_values.proofs.jumping.begin_except.Goals as goal

pub setup_except-requires-clause-slot : goal.setup_except-requires-clause-slot
setup_except-requires-clause-slot c = let h = c.requires.runs in moves.room h.program c.args.frames.now h.row (record { instruction = fetched.handle handler_ops.SetupExcept c.args.handler; end = c.args.end }) h.ready

pub setup_except-requires-clause-entry : goal.setup_except-requires-clause-entry
setup_except-requires-clause-entry c =
    let h = c.requires.runs in
    moves.entry_fits (λ t d. c.tops_law.ensures.entries (view_of t) d) h.program c.args.frames.now h.row (record { instruction = fetched.handle handler_ops.SetupExcept c.args.handler; end = c.args.end }) h.running h.ready h.ready.finds.entry

pub returns-clause-goes : goal.returns-clause-goes
returns-clause-goes c p row means run r =
    let f : Fetched = record { instruction = fetched.handle handler_ops.SetupExcept c.args.handler; end = c.args.end } in
    let e = entry_over r.first.slots c.args.handler false in
    let with_entry : Call = record r.first { entries = e ∷ r.first.entries } in
    moves.goes_with c.keeps_law.ensures.went c.args.frames.now c.setup_except.new.frames f (λ d. set_up c.args.handler false c.args.end d) p row means run r
    (λ h. c.placed_law.ensures.goes (view_of p.tables) with_entry c.args.end r.first.slots (c.placed_law.ensures.sets_up (view_of p.tables) r.first e h r.target) (r.begins tt)) refl
    (λ w. c.setup_except.ensures.steps p.tables w (position_in (starts_of (view_of p.tables) r.first) c.args.handler) (moves.at_first p c.args.frames.now row f r c.args.handler) r.next) c.setup_except.ensures.moved

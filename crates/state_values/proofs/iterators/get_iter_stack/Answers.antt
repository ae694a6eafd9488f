use Rattle.std.proofs.Common.{◌+◌, ◌<◌, ◌≤◌, length, refl, ap, arith}
use Rattle.vm_states.specs.bc_ops.declared.instr.Op.TheVariants as ops
use Rattle.vm_states.specs.bc_ops.declared.instr.Instr.TheVariants as instrs
use Rattle.vm_states.specs.bc_machine.Library.{Plain}
use Rattle.vm_states.specs.vm_frames.Views.{frame_of}
use Rattle.vm_states.specs.frame_moves.Shown.{view_of}
use Rattle.state_values.specs.Moving.{fetched_iterate}
use Rattle.state_values.proofs.Ending as ending
use Rattle.state_values.proofs.Finding as finding
use Rattle.state_values.proofs.iterators.get_iter_stack.Goals as goal

pub get_iter_stack-requires-clause-room : goal.get_iter_stack-requires-clause-room
get_iter_stack-requires-clause-room g c =
    let h = c.requires.runs in
    let f = h.ready.finds in
    let n = ap length f.0.are in
    let there : 1 ≤ length (frame_of (view_of h.program.tables) h.ready.first).slots = omega (arith, n) in
    let k = finding.room_for h (λ v d. c.tops_law.ensures.slots v d) 1 4 there f.1 in
    finding.of_running h (λ d. length d.slots + 3 < c.args.frames.now.slot_room + 1) (omega (arith, k))

pub get_iter_stack-requires-clause-iterable : goal.get_iter_stack-requires-clause-iterable
get_iter_stack-requires-clause-iterable g c = finding.one c.requires.runs c.tops_law.ensures.one c.requires.runs.ready.finds.0

pub get_iter_stack-requires-clause-all_told : goal.get_iter_stack-requires-clause-all_told
get_iter_stack-requires-clause-all_told g c = finding.all_told c.requires.runs

pub returns : goal.returns
returns g c =
    record {
      acts = ending.iterates c.acting_law.ensures.acts (fetched_iterate c.args.end) (λ p s row r. r.begins tt) 0 (Plain (instrs.Plain ops.GetIterStack)) c.args.frames.now c.get_iter_stack.new.frames
          c.get_iter_stack.ensures.leaves (λ p d tells. refl) c.get_iter_stack.ensures.steps c.get_iter_stack.ensures.moved;
    }

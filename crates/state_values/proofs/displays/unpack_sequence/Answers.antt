use Rattle.std.proofs.Common.{ℕ, suc, ◌+◌, ◌≤◌, length, refl, ap, subst, arith}
use Rattle.vm_states.specs.bc_ops.declared.instr.Op.TheVariants as ops
use Rattle.vm_states.specs.bc_ops.declared.instr.Instr.TheVariants as instrs
use Rattle.vm_states.specs.bc_machine.Library.{Plain}
use Rattle.vm_states.specs.frame_values.Effects.{Steps}
use Rattle.vm_states.specs.frame_values.Slots.{PutsValues}
use Rattle.vm_states.specs.vm_frames.Views.{frame_of}
use Rattle.vm_states.specs.frame_moves.Shown.{view_of}
use Rattle.vm_states.specs.vm_fetching.Instructions as fetched
use Rattle.vm_states.specs.vm_fetching.declared.operations.BuildOp.TheVariants as build_ops
use Rattle.state_values.proofs.Ending as ending
use Rattle.state_values.proofs.Finding as finding
use Rattle.state_values.proofs.displays.unpack_sequence.Goals as goal

pub unpack_sequence-requires-clause-sequence : goal.unpack_sequence-requires-clause-sequence
unpack_sequence-requires-clause-sequence g c = finding.one c.requires.runs c.tops_law.ensures.one c.requires.runs.ready.finds.0

pub unpack_sequence-requires-clause-room : goal.unpack_sequence-requires-clause-room
unpack_sequence-requires-clause-room g c =
    let h = c.requires.runs in
    let f = h.ready.finds in
    let n = ap length f.0.are in
    let m = c.requires.places in
    let there : 1 ≤ length (frame_of (view_of h.program.tables) h.ready.first).slots = omega (arith, n) in
    let k = finding.room_for h (λ v d. c.tops_law.ensures.slots v d) 1 c.args.n there f.1 in
    finding.of_running h (λ d. length d.slots + length c.args.items.now ≤ suc c.args.frames.now.slot_room) (omega (arith, k, m))

pub unpack_sequence-requires-clause-all_told : goal.unpack_sequence-requires-clause-all_told
unpack_sequence-requires-clause-all_told g c = finding.all_told c.requires.runs

pub returns : goal.returns
returns g c =
    let texts = g.C.Constants.text_of c.args.consts.now in
    let tuples = g.C.Constants.items_of c.args.consts.now in
    let before = c.args.arena.now in
    let behind = c.unpack_sequence.new.arena in
    let old = c.args.frames.now in
    let new = c.unpack_sequence.new.frames in
    let e = c.unpack_sequence.ensures in
    record {
      acts = ending.unpacks c.acting_law.ensures.acts (record { instruction = fetched.build build_ops.UnpackSequence c.args.n; end = c.args.end }) (λ p s row r. r.begins tt) 0 (Plain (instrs.Num ops.UnpackSequence c.args.n)) old new
          e.leaves (λ p d tells. refl)
          (subst (λ (k : ℕ). Steps texts tuples (Plain (instrs.Num ops.UnpackSequence k)) 0 c.args.end before behind old.calls new.calls c.unpack_sequence.result) c.requires.places e.steps)
          c.args.n (subst (λ (k : ℕ). PutsValues texts tuples behind.objects c.args.end k old new c.unpack_sequence.result) c.requires.places e.moved);
    }

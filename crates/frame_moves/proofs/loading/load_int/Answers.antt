use Rattle.std.proofs.Common.{ℤ, ◌∷◌, refl, ap, ◌∙◌}
use Rattle.std.proofs.lemmas.Int.{to_z-of_z}
use Rattle.prim_raising.specs.prim_faults.arena_heap.declared.value.Value.TheVariants as values
use Rattle.vm_frames.specs.bc_ops.declared.instr.Instr.TheVariants as instrs
use Rattle.vm_frames.specs.bc_machine.Library.{Plain}
use Rattle.vm_frames.specs.declared.slot.Slot.TheVariants as slots
use Rattle.vm_frames.specs.Calls.{Call, on_running}
use Rattle.frame_moves.specs.Stacks.{gone}
use Rattle.frame_moves.proofs.Stepping.{puts}
use Rattle.frame_moves.proofs.loading.load_int.Goals as goal

pub returns-clause-moved : goal.returns-clause-moved
returns-clause-moved c =
    c.go_with.ensures ∙ ap (λ (z : ℤ). on_running (λ (d : Call). gone c.args.end (slots.Value (values.Int z) ∷ d.slots) d) c.args.frames.now) (to_z-of_z _ c.args.n c.ranges.n)

pub returns-clause-steps : goal.returns-clause-steps
returns-clause-steps c tables w next =
    let moved = c.go_with.ensures ∙ ap (λ (z : ℤ). on_running (λ (d : Call). gone c.args.end (slots.Value (values.Int z) ∷ d.slots) d) c.args.frames.now) (to_z-of_z _ c.args.n c.ranges.n) in
    puts tables w (Plain (instrs.Int c.args.n)) (slots.Value (values.Int c.args.n)) c.args.end (λ library place paid frame frames starts. refl) c.args.frames.now c.go_with.new.frames moved next

use Rattle.std.proofs.Common.{not, sym, ◌∙◌}
use Rattle.arena_heap.specs.declared.value.Value.TheVariants as values
use Rattle.vm_frames.specs.declared.slot.Slot.TheVariants as slots
use Rattle.vm_frames.specs.Moves.{is_active, with_kept}
use Rattle.vm_frames.proofs.Passing.{passed_all}
use Rattle.vm_frames.proofs.moves.raise.Goals as goal

pub returns-clause-moved : goal.returns-clause-moved
returns-clause-moved c =
    passed_all (λ e. not (is_active c.args.frame.now.call.at e)) (with_kept c.args.x) (slots.Value (values.Exc c.args.x)) c.args.frame.now c.entries.frame c.entries.invariant (sym c.entry.ensures.is ∙ c.in_default.is)

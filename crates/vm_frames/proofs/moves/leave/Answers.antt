use Rattle.std.proofs.Common.{sym, ◌∙◌}
use Rattle.vm_frames.specs.declared.slot.Slot.TheVariants as slots
use Rattle.vm_frames.specs.Moves.{is_run}
use Rattle.vm_frames.proofs.Passing.{passed_all}
use Rattle.vm_frames.proofs.moves.leave.Goals as goal

pub returns-clause-moved : goal.returns-clause-moved
returns-clause-moved c =
    passed_all (is_run c.args.frame.now.call.at) (λ e. e) (slots.Return c.args.v) c.args.frame.now c.entries.frame c.entries.invariant (sym c.entry.ensures.is ∙ c.in_default.is)

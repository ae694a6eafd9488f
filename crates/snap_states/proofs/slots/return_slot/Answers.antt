use Rattle.std.proofs.Common.{sym, subst}
use Rattle.bc_library.specs.bc_flow.Machine.{KeptReturn}
use Rattle.snap_grammar.specs.declared.parts.SlotPart.TheVariants as parts
use Rattle.snap_states.specs.Fronts.{IsSlot}
use Rattle.snap_states.proofs.Fronts.{return_there, no_return}
use Rattle.snap_states.proofs.slots.return_slot.Goals as goal

pub returns-then-is_plain-clause-some : goal.returns-then-is_plain-clause-some
returns-then-is_plain-clause-some c = λ offsets.
    subst (λ k. IsSlot c.args.known.now.library.now c.args.known.now.snapshot.now offsets (parts.Return c.args.v.now) k KeptReturn) (sym c.in-Cause.is)
    (return_there c.args.known.now.library.now c.args.known.now.snapshot.now offsets c.args.v.now (c.is_plain.ensures.0 c.if-is_plain.true))

pub returns-in_default : goal.returns-in_default
returns-in_default c = record {
  some = tt;
  none = λ offsets. no_return c.args.known.now.library.now c.args.known.now.snapshot.now offsets c.args.v.now c.args.kind (λ e. absurd (c.in_default.not-Cause e));
}

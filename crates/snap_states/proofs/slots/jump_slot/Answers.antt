use Rattle.std.proofs.Common.{sym, subst}
use Rattle.bc_library.specs.bc_flow.Machine.{KeptJump}
use Rattle.snap_grammar.specs.declared.parts.SlotPart.TheVariants as parts
use Rattle.snap_states.specs.Fronts.{IsSlot}
use Rattle.snap_states.proofs.Fronts.{jump_there, no_jump}
use Rattle.snap_states.proofs.slots.jump_slot.Goals as goal

pub returns-in-Some-clause-some : goal.returns-in-Some-clause-some
returns-in-Some-clause-some c = λ shelf s.
    subst (λ k. IsSlot shelf s c.args.offsets.now (parts.Jump c.args.offset c.args.count c.args.iterator) k (KeptJump c.in-Some.target c.args.count c.args.iterator)) (sym c.in-Cause.is)
    (jump_there shelf s c.args.offsets.now c.args.offset c.in-Some.target c.args.count c.args.iterator c.requires.once c.in-Some.ensures.some)

pub returns-in_default : goal.returns-in_default
returns-in_default c = record {
  some = tt;
  none = λ shelf s. no_jump shelf s c.args.offsets.now c.args.offset c.args.count c.args.iterator c.args.kind (λ e. absurd (c.in_default.not-Cause e));
}

use Rattle.std.proofs.Common.{sym, subst}
use Rattle.bc_library.specs.bc_flow.Machine.{Null}
use Rattle.snap_grammar.specs.declared.parts.SlotPart.TheVariants as parts
use Rattle.snap_states.specs.Fronts.{IsSlot}
use Rattle.snap_states.proofs.Fronts.{empty_there, no_empty}
use Rattle.snap_states.proofs.slots.empty_slot.Goals as goal

pub returns-in-Null-clause-some : goal.returns-in-Null-clause-some
returns-in-Null-clause-some c = λ shelf s offsets. subst (λ k. IsSlot shelf s offsets parts.Empty k Null) (sym c.in-Null.is) (empty_there shelf s offsets)

pub returns-in_default : goal.returns-in_default
returns-in_default c = record { some = tt; none = λ shelf s offsets. no_empty shelf s offsets c.args.kind c.requires c.in_default.not-Null }

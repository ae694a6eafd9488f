use Rattle.std.proofs.Common.{refl, sym, ◌∙◌}
use Rattle.emit_measures.specs.bc_scheme.Context.{store_by}
use Rattle.emit_draft.proofs.Items.{by_slot, by_text}
use Rattle.emit_draft.proofs.names.store_name.Goals as goal

pub returns-in-Some : goal.returns-in-Some
returns-in-Some c = by_slot store_by _ _ c.in-Some.slot _ _ (sym c.slot.ensures ∙ c.in-Some.is) c.short_or.ensures (λ k. refl)

pub returns-in_ok-item-in-None : goal.returns-in_ok-item-in-None
returns-in_ok-item-in-None c = by_text store_by _ _ _ _ _ (sym c.slot.ensures ∙ c.in-None.is) c.in_ok-item-in-None.ensures (λ k. refl)

-- The instruction of a name.
use Rattle.std.proofs.Common.{◌≡◌, ℕ, List, Option, Some, None, sym, ap, ◌∙◌}
use Rattle.std.specs.Prelude.{if◌then◌else◌}
use Rattle.emit_measures.specs.bc_scheme.bc_ops.declared.instr.Op.{Op}
use Rattle.emit_measures.specs.bc_scheme.bc_ops.declared.instr.Instr.TheVariants.{Num}
use Rattle.emit_measures.specs.bc_scheme.bc_machine.Library.{Item, Names}
use Rattle.emit_measures.specs.bc_scheme.Context.{Context, number}
use Rattle.emit_draft.specs.declared.draft.DraftItem.{DraftItem}
use Rattle.emit_draft.specs.declared.draft.DraftItem.TheVariants.{Plain, Named}
use Rattle.emit_draft.specs.declared.scope.Scope.{Scope}
use Rattle.emit_draft.specs.Names.{slot_in}
use Rattle.emit_draft.specs.Emits.{item_at, IsItem}

-- by its slot
pub by_slot : (by : Context → List ℕ → Option ℕ → Item) (s : Scope) (name : List ℕ) (slot : ℕ) (op : Op) (item : DraftItem)
    → slot_in s.locals name ≡ Some slot → item ≡ Plain (Num op slot) → ((c : Context) → by c name (Some slot) ≡ number op slot)
    → IsItem s item (λ c. by c name (slot_in c.locals name))
by_slot by s name slot op item found is form = record {
  is = λ c labels r. ap (item_at labels) is ∙ sym (form c) ∙ ap (by c name) (sym found ∙ ap (λ l. slot_in l name) (sym r.locals));
}

-- by its text
pub by_text : (by : Context → List ℕ → Option ℕ → Item) (s : Scope) (name : List ℕ) (own other : Op) (item : DraftItem)
    → slot_in s.locals name ≡ None → item ≡ Named (if s.is_module then own else other) name
    → ((c : Context) → by c name None ≡ Names (if c.is_module then own else other) name)
    → IsItem s item (λ c. by c name (slot_in c.locals name))
by_text by s name own other item found is form = record {
  is = λ c labels r. ap (item_at labels) is ∙ ap (λ b. Names (if b then own else other) name) (sym r.is_module) ∙ sym (form c) ∙ ap (by c name) (sym found ∙ ap (λ l. slot_in l name) (sym r.locals));
}

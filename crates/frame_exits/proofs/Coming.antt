-- What an import comes to, from its operands and its prefixes.
use Rattle.std.proofs.Common.{◌≡◌, ℕ, zero, suc, ◌<◌, List, [], ◌∷◌, length, take, Bool, Option, Some, slice_get, sym, ◌∙◌, subst, arith}
use Rattle.std.proofs.lemmas.Option.{none-some, same_Some}
use Rattle.std.proofs.lemmas.List.{length-take-le}
use Rattle.mpy_base.specs.Val.{PlainWorld}
use Rattle.frame_moves.specs.arena_heap.declared.value.Value.{Value}
use Rattle.frame_moves.specs.arena_heap.declared.value.StrNo.{StrNo}
use Rattle.frame_moves.specs.arena_heap.declared.value.ConstNo.{ConstNo}
use Rattle.bc_library.specs.Shelf.{Shelf}
use Rattle.frame_moves.specs.bc_machine.Library.{Name}
use Rattle.frame_moves.specs.vm_frames.declared.slot.Slot.{Slot}
use Rattle.frame_moves.specs.vm_frames.declared.slot.Slot.TheVariants as slots
use Rattle.frame_moves.specs.vm_frames.Calls.{Call, OfRunning}
use Rattle.frame_exits.specs.declared.importing.Import.{Import}
use Rattle.frame_exits.specs.declared.importing.Import.TheVariants as imports
use Rattle.frame_exits.specs.declared.importing.Refusal.TheVariants as refusals
use Rattle.frame_exits.specs.Importing.{AreOperands, IsModule, IsBeginning, IsAbsent, IsImport}

abbrev pub IsSlot : ℕ → Slot → List Call → Type 0
IsSlot i s cs = OfRunning (λ c. slice_get c.slots i ≡ Some s) cs

get_less : (st : List Slot) (i : ℕ) (s : Slot) → slice_get st i ≡ Some s → i < length st
get_less [] i s e = absurd (none-some s e)
get_less (x ∷ st) zero s e = omega arith
get_less (x ∷ st) (suc i) s e = omega (arith, get_less st i s e)

pub slot_there : (i : ℕ) (s : Slot) (cs : List Call) → IsSlot i s cs → OfRunning (λ c. i < length c.slots) cs
slot_there i s [] h = h
slot_there i s (c ∷ cs) h = get_less c.slots i s h

pub same_slot : (i : ℕ) (s r : Slot) (cs : List Call) → IsSlot i s cs → IsSlot i r cs → s ≡ r
same_slot i s r [] h k = absurd h
same_slot i s r (c ∷ cs) h k = same_Some s r (sym h ∙ k)

pub same_value : (i : ℕ) (u v : Value) (cs : List Call) → IsSlot i (slots.Value u) cs → IsSlot i (slots.Value v) cs → u ≡ v
same_value i u v cs h k = let same : slots.Value u ≡ slots.Value v = same_slot i (slots.Value u) (slots.Value v) cs h k in cc

pub from_there : (from level : Value) (cs : List Call) → AreOperands from level cs → IsSlot 0 (slots.Value from) cs
from_there from level [] h = h
from_there from level (c ∷ cs) h = h.from_is

pub level_there : (from level : Value) (cs : List Call) → AreOperands from level cs → IsSlot 1 (slots.Value level) cs
level_there from level [] h = h
level_there from level (c ∷ cs) h = h.level_is

module _ (texts : StrNo → Option (List ℕ)) (tuples : ConstNo → Option (List Value)) (shelf : Shelf) (w : PlainWorld) (deep : Bool) (name : Name) where
  -- the same of the operands that are there
  pub of_operands : (from level u v : Value) (cs : List Call) (import : Import) → AreOperands from level cs → IsSlot 0 (slots.Value u) cs → IsSlot 1 (slots.Value v) cs
      → IsImport texts tuples shelf w deep name u v import → IsImport texts tuples shelf w deep name from level import
  of_operands from level u v cs import has e d is =
      subst (λ (z : Value). IsImport texts tuples shelf w deep name z level import) (same_value 0 u from cs e (from_there from level cs has))
      (subst (λ (z : Value). IsImport texts tuples shelf w deep name u z import) (same_value 1 v level cs d (level_there from level cs has)) is)

  module _ (from level : Value) (len : ℕ) (absent : IsAbsent texts tuples shelf w deep name from level len) where
    begins_by : (import : Import) → IsBeginning shelf deep len (take len name) import → IsImport texts tuples shelf w deep name from level import
    begins_by (imports.Put v) is = absurd is
    begins_by (imports.Begin number) is = (len, absent, is)
    begins_by (imports.Stops refusals.Relative) is = absurd is
    begins_by (imports.Stops (refusals.Missing missing)) is = (len, absent, is)
    begins_by (imports.Stops refusals.Incompatible) is = (len, absent, is)
    begins_by (imports.Stops refusals.TooDeep) is = (len, absent, is)

    pub begins_so : (import : Import) → IsBeginning shelf deep (length (take len name)) (take len name) import → IsImport texts tuples shelf w deep name from level import
    begins_so import is = begins_by import (subst (λ (k : ℕ). IsBeginning shelf deep k (take len name) import) (length-take-le len name absent.within) is)

-- a module that is to begin isn't given yet
pub begun_module : (shelf : Shelf) (deep : Bool) (len : ℕ) (prefix : Name) (import : Import) (v : Value) → IsBeginning shelf deep len prefix import → import ≡ imports.Put v → IsModule v
begun_module shelf deep len prefix import v is e = absurd (subst (IsBeginning shelf deep len prefix) e is)

-- Slots that are a value or empty.
use Rattle.std.specs.Prelude.{◌≡◌, ℕ, List, Bool, true, false, Some, slice_get}
use Rattle.vm_states.specs.vm_frames.declared.slot.Slot.{Slot}
use Rattle.vm_states.specs.vm_frames.declared.slot.Slot.TheVariants as slots
use Rattle.vm_states.specs.vm_frames.Calls.{Call, OfRunning}
use Rattle.vm_states.specs.Tops.{IsOperand}

-- the slot is empty
abbrev pub is_null : Slot → Bool
is_null slots.Null = true
is_null (slots.Value v) = false
is_null (slots.Object o) = false
is_null (slots.Iter over at part) = false
is_null (slots.Return v) = false
is_null (slots.Jump target count iterator) = false

-- a value lies in the call's slot, or the slot is empty
pub record HasOperandIn (slot : ℕ) (c : Call) : Type 0 where
  pub operand : Slot
  pub there : slice_get c.slots slot ≡ Some operand
  pub is : IsOperand operand

-- a value lies in the running call's slot, or the slot is empty
abbrev pub HasOperand : (slot : ℕ) → List Call → Type 0
HasOperand slot calls = OfRunning (HasOperandIn slot) calls

-- The visits of an operator with two operands, by the two topmost slots of the running call.
use Rattle.std.specs.Prelude.{ℕ, List, [], ◌∷◌, Option, Some, None, slice_get}
use Rattle.vm_states.specs.mpy_base.World.{Heap}
use Rattle.vm_states.specs.prim_names.arena_heap.declared.value.Value.{Value}
use Rattle.vm_states.specs.prim_names.arena_heap.declared.value.StrNo.{StrNo}
use Rattle.vm_states.specs.prim_names.arena_heap.declared.value.ConstNo.{ConstNo}
use Rattle.vm_states.specs.prim_names.prim_walks.Plain.{plain, plain_heap}
use Rattle.vm_states.specs.bc_machine.Operations.{operator_at}
use Rattle.vm_states.specs.vm_frames.declared.slot.Slot.{Slot}
use Rattle.vm_states.specs.vm_frames.declared.slot.Slot.TheVariants as slots
use Rattle.vm_states.specs.vm_frames.Calls.{Call}
use Rattle.vm_states.specs.frame_values.Operations.{visits_of}

-- the value that lies in a slot, if one does
abbrev pub value_in : Option Slot → Option Value
value_in (Some (slots.Value v)) = Some v
value_in (Some slots.Null) = None
value_in (Some (slots.Object o)) = None
value_in (Some (slots.Iter over at part)) = None
value_in (Some (slots.Return v)) = None
value_in (Some (slots.Jump target count iterator)) = None
value_in None = None

-- the value in a slot of the running call, counted from the top
abbrev pub running_value : List Call → (slot : ℕ) → Option Value
running_value [] slot = None
running_value (c ∷ cs) slot = value_in (slice_get c.slots slot)

module _ (texts : StrNo → Option (List ℕ)) (tuples : ConstNo → Option (List Value)) (heap : Heap Value ℕ) where
  -- the visits of the operator of this number over two operands
  abbrev pub visits_over : (number : ℕ) → (left right : Option Value) → ℕ
  visits_over number (Some left) (Some right) =
      visits_of (operator_at number) (plain_heap texts tuples heap) (plain texts tuples left) (plain texts tuples right)
  visits_over number (Some left) None = 0
  visits_over number None right = 0

  -- the right operand lies on top
  abbrev pub visits_binary : List Call → (number : ℕ) → ℕ
  visits_binary calls number = visits_over number (running_value calls 1) (running_value calls 0)

-- The visits of an operator with two operands.
use Rattle.std.proofs.Common.{◌≡◌, ℕ, List, [], ◌∷◌, Option, ap, ap₂}
use Rattle.vm_states.specs.mpy_base.World.{Heap}
use Rattle.vm_states.specs.prim_names.arena_heap.declared.value.Value.{Value}
use Rattle.vm_states.specs.prim_names.arena_heap.declared.value.StrNo.{StrNo}
use Rattle.vm_states.specs.prim_names.arena_heap.declared.value.ConstNo.{ConstNo}
use Rattle.vm_states.specs.prim_names.prim_walks.Plain.{plain, plain_heap}
use Rattle.vm_states.specs.bc_machine.Operations.{operator_at}
use Rattle.vm_states.specs.vm_frames.Calls.{Call}
use Rattle.vm_states.specs.frame_values.Operations.{visits_of}
use Rattle.vm_states.specs.frame_values.Slots.{HasValue}
use Rattle.state_values.specs.Operators.{value_in, visits_over, visits_binary}

-- where the operands lie
pub visits_are : (texts : StrNo → Option (List ℕ)) (tuples : ConstNo → Option (List Value)) (heap : Heap Value ℕ) (number : ℕ) (left right : Value) (calls : List Call) → HasValue 1 left calls → HasValue 0 right calls
    → visits_binary texts tuples heap calls number ≡ visits_of (operator_at number) (plain_heap texts tuples heap) (plain texts tuples left) (plain texts tuples right)
visits_are texts tuples heap number left right [] at_left at_right = absurd at_left
visits_are texts tuples heap number left right (c ∷ cs) at_left at_right =
    ap₂ (λ (x y : Option Value). visits_over texts tuples heap number x y) (ap value_in at_left) (ap value_in at_right)

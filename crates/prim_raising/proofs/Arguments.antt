-- The argument of a fault's exception.
use Rattle.std.proofs.Common.{◌≡◌, ℕ, List, Option, refl}
use Rattle.prim_types.specs.arena_heap.declared.value.Value.{Value}
use Rattle.prim_types.specs.arena_heap.declared.value.StrNo.{StrNo}
use Rattle.prim_types.specs.arena_heap.declared.value.ConstNo.{ConstNo}
use Rattle.mpy_base.specs.World.{Heap}
use Rattle.prim_types.specs.py_primitives.Faults.{fault_value, fault_text}
use Rattle.prim_types.specs.py_primitives.Outcome.{fault_argument, making_text}
use Rattle.prim_types.specs.prim_walks.Plain.{plain_heap}
use Rattle.prim_types.specs.prim_faults.declared.fault.Fault.{Fault}
use Rattle.prim_types.specs.prim_faults.declared.fault.Fault.TheVariants as faults
use Rattle.prim_types.specs.prim_faults.Faults.{plain_fault}

-- faults without a value have a text
pub argument_text : (texts : StrNo → Option (List ℕ)) (tuples : ConstNo → Option (List Value)) (h : Heap Value ℕ) (fault : Fault) → ((key : Value) → fault ≡ faults.NoKey key → ⊥) → (fault ≡ faults.PortFailed → ⊥)
    → fault_argument (plain_heap texts tuples h) (plain_fault texts tuples h fault) (fault_value (plain_fault texts tuples h fault)) ≡ making_text (plain_heap texts tuples h) (fault_text (plain_fault texts tuples h fault))
argument_text texts tuples h (faults.NoKey key) other1 other2 = absurd (other1 key refl)
argument_text texts tuples h faults.PortFailed other1 other2 = absurd (other2 refl)
argument_text texts tuples h _ other1 other2 = refl

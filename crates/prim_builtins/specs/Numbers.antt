-- Arguments that are no numbers.
use Rattle.std.specs.Prelude.{◌≡◌, ℕ, List, Option}
use Rattle.prim_operators.specs.mpy_base.World.{Heap}
use Rattle.prim_operators.specs.arena_heap.declared.value.Value.{Value}
use Rattle.prim_operators.specs.arena_heap.declared.value.StrNo.{StrNo}
use Rattle.prim_operators.specs.arena_heap.declared.value.ConstNo.{ConstNo}
use Rattle.prim_operators.specs.py_values.Names.{type_name}
use Rattle.prim_operators.specs.py_primitives.Faults.{NotANumber}
use Rattle.prim_operators.specs.prim_walks.Plain.{plain, plain_heap}
use Rattle.prim_operators.specs.prim_faults.declared.fault.Fault.{Fault}
use Rattle.prim_operators.specs.prim_faults.Faults.{plain_fault, IsKnownFault}

-- the fault of a value that is to be a number, whatever the constants are
abbrev pub IsNoNumber : Heap Value ℕ → Value → Fault → Type 0
IsNoNumber heap v fault =
    (texts : StrNo → Option (List ℕ)) (tuples : ConstNo → Option (List Value))
    → IsKnownFault texts tuples heap.objects fault
    × (plain_fault texts tuples heap fault ≡ NotANumber (type_name (plain_heap texts tuples heap) (plain texts tuples v)))

-- What comparisons see of their operands.
use Rattle.std.specs.Prelude.{◌≡◌, ℕ, ℤ, Bool, false, List, Option}
use Rattle.prim_faults.specs.mpy_base.World.{Heap}
use Rattle.prim_faults.specs.arena_heap.declared.value.Value.{Value}
use Rattle.prim_faults.specs.arena_heap.declared.value.StrNo.{StrNo}
use Rattle.prim_faults.specs.arena_heap.declared.value.ConstNo.{ConstNo}
use Rattle.prim_faults.specs.py_values.Names.{type_name}
use Rattle.prim_faults.specs.py_values.Shown.{Shown, Number, shown}
use Rattle.prim_faults.specs.py_primitives.Faults.{Unsupported}
use Rattle.prim_faults.specs.py_primitives.Operators.{is_in_range}
use Rattle.prim_faults.specs.prim_walks.Plain.{plain, plain_heap}
use Rattle.prim_faults.specs.declared.fault.Fault.{Fault}
use Rattle.prim_faults.specs.Faults.{plain_fault, IsKnownFault}

-- the fault of a method over these two
abbrev pub IsUnsupported : Heap Value ℕ → List ℕ → Value → Value → Fault → Type 0
IsUnsupported heap method left right fault =
    (texts : StrNo → Option (List ℕ)) (tuples : ConstNo → Option (List Value))
    → IsKnownFault texts tuples heap.objects fault
    × (plain_fault texts tuples heap fault
    ≡ Unsupported method (type_name (plain_heap texts tuples heap) (plain texts tuples left))
    (type_name (plain_heap texts tuples heap) (plain texts tuples right)))

-- a number that is one of a range's
abbrev pub is_number_within : Shown → ℤ → ℤ → ℤ → Bool
is_number_within (Number z) start stop step = is_in_range z start stop step
is_number_within _ start stop step = false

-- is a value one of a range's numbers, whatever the constants are?
abbrev pub DecidesNumber : Heap Value ℕ → Value → ℤ → ℤ → ℤ → Bool → Type 0
DecidesNumber heap v start stop step answer =
    (texts : StrNo → Option (List ℕ)) (tuples : ConstNo → Option (List Value))
    → answer ≡ is_number_within (shown (plain_heap texts tuples heap) (plain texts tuples v)) start stop step

-- Arguments that are no strs.
use Rattle.std.specs.Prelude.{◌≡◌, ℕ, List, Option, codes}
use Rattle.mpy_base.specs.World.{Heap}
use Rattle.prim_builtins.specs.arena_heap.declared.value.Value.{Value}
use Rattle.prim_builtins.specs.arena_heap.declared.value.StrNo.{StrNo}
use Rattle.prim_builtins.specs.arena_heap.declared.value.ConstNo.{ConstNo}
use Rattle.prim_builtins.specs.py_values.Names.{type_name}
use Rattle.prim_builtins.specs.py_primitives.Faults.{Unsupported}
use Rattle.prim_builtins.specs.prim_walks.Plain.{plain, plain_heap}
use Rattle.prim_builtins.specs.prim_faults.declared.fault.Fault.{Fault}
use Rattle.prim_builtins.specs.prim_faults.Faults.{plain_fault, IsKnownFault}

-- the fault of an argument that is to be a str, whatever the constants are
abbrev pub IsNoStr : Heap Value ℕ → Value → Value → Fault → Type 0
IsNoStr heap object v fault =
    (texts : StrNo → Option (List ℕ)) (tuples : ConstNo → Option (List Value))
    → IsKnownFault texts tuples heap.objects fault
    × (plain_fault texts tuples heap fault
    ≡ Unsupported (codes "__contains__") (type_name (plain_heap texts tuples heap) (plain texts tuples object))
    (type_name (plain_heap texts tuples heap) (plain texts tuples v)))

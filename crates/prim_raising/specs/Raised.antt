-- What raising a value raises.
use Rattle.std.specs.Prelude.{◌≡◌, ℕ, List, Option, Some, None}
use Rattle.mpy_base.specs.World.{Heap}
use Rattle.prim_types.specs.arena_heap.declared.value.Value.{Value}
use Rattle.prim_types.specs.arena_heap.declared.value.Value.TheVariants as values
use Rattle.prim_types.specs.arena_heap.declared.value.StrNo.{StrNo}
use Rattle.prim_types.specs.arena_heap.declared.value.ConstNo.{ConstNo}
use Rattle.prim_types.specs.py_primitives.Operators.{named_kind, exception_kind}
use Rattle.prim_types.specs.prim_walks.Plain.{plain, plain_heap}
use Rattle.prim_raising.specs.declared.raising.Raised.{Raised}
use Rattle.prim_raising.specs.declared.raising.Raised.TheVariants as raised

-- a value that names no kind and is no exception
abbrev pub IsNothing : Heap Value ℕ → Value → Type 0
IsNothing heap v =
    (texts : StrNo → Option (List ℕ)) (tuples : ConstNo → Option (List Value))
    → (named_kind (plain texts tuples v) ≡ None) × (exception_kind (plain_heap texts tuples heap) (plain texts tuples v) ≡ None)

-- what raising the value raises: a new exception of a kind, the exception that it is, or nothing
abbrev pub IsRaised : Heap Value ℕ → Value → Raised → Type 0
IsRaised heap v (raised.New kind) = (texts : StrNo → Option (List ℕ)) (tuples : ConstNo → Option (List Value)) → named_kind (plain texts tuples v) ≡ Some kind
IsRaised heap v (raised.Same x) = v ≡ values.Exc x
IsRaised heap v raised.Nothing = IsNothing heap v

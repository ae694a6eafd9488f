-- What values are, whatever the constants are.
use Rattle.std.specs.Prelude.{◌≡◌, ℕ, Bool, List, Option}
use Rattle.mpy_base.specs.declared.builtin.Builtin.{Builtin}
use Rattle.mpy_base.specs.declared.kind.Kind.{Kind}
use Rattle.mpy_base.specs.World.{Heap}
use Rattle.prim_builtins.specs.arena_heap.declared.value.Value.{Value}
use Rattle.prim_builtins.specs.arena_heap.declared.value.StrNo.{StrNo}
use Rattle.prim_builtins.specs.arena_heap.declared.value.ConstNo.{ConstNo}
use Rattle.prim_builtins.specs.py_values.Shown.{shown}
use Rattle.prim_builtins.specs.py_primitives.Operators.{exception_kind, named_kind}
use Rattle.prim_builtins.specs.py_primitives.Calls.{named_type, is_number, is_exception_of, is_instance}
use Rattle.prim_builtins.specs.prim_walks.Plain.{plain, plain_heap}

-- the type that a value names
abbrev pub IsNamedType : Value → Option Builtin → Type 0
IsNamedType v type = (texts : StrNo → Option (List ℕ)) (tuples : ConstNo → Option (List Value)) → named_type (plain texts tuples v) ≡ type

-- the kind that a value names
abbrev pub IsNamedKind : Value → Option Kind → Type 0
IsNamedKind v kind = (texts : StrNo → Option (List ℕ)) (tuples : ConstNo → Option (List Value)) → named_kind (plain texts tuples v) ≡ kind

-- the kind of an exception
abbrev pub IsExceptionKind : Heap Value ℕ → Value → Option Kind → Type 0
IsExceptionKind heap v kind =
    (texts : StrNo → Option (List ℕ)) (tuples : ConstNo → Option (List Value)) → exception_kind (plain_heap texts tuples heap) (plain texts tuples v) ≡ kind

-- is the value a number?
abbrev pub DecidesNumber : Heap Value ℕ → Value → Bool → Type 0
DecidesNumber heap v answer =
    (texts : StrNo → Option (List ℕ)) (tuples : ConstNo → Option (List Value))
    → is_number (shown (plain_heap texts tuples heap) (plain texts tuples v)) ≡ answer

-- is a value an exception of this kind, or of one below it?
abbrev pub DecidesKind : Heap Value ℕ → Value → Kind → Bool → Type 0
DecidesKind heap v kind answer =
    (texts : StrNo → Option (List ℕ)) (tuples : ConstNo → Option (List Value))
    → is_exception_of (exception_kind (plain_heap texts tuples heap) (plain texts tuples v)) kind ≡ answer

-- is the value an instance of this type?
abbrev pub DecidesInstance : Heap Value ℕ → Value → Builtin → Bool → Type 0
DecidesInstance heap v type answer =
    (texts : StrNo → Option (List ℕ)) (tuples : ConstNo → Option (List Value)) → is_instance (plain_heap texts tuples heap) (plain texts tuples v) type ≡ answer

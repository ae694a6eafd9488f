-- The names of types.
use Rattle.std.specs.Prelude.{◌≡◌, ℕ, List, codes, Option}
use Rattle.prim_walks.specs.mpy_base.Kind.{kind_name}
use Rattle.prim_walks.specs.mpy_base.World.{Heap}
use Rattle.prim_walks.specs.arena_heap.declared.value.Value.{Value}
use Rattle.prim_walks.specs.arena_heap.declared.value.StrNo.{StrNo}
use Rattle.prim_walks.specs.arena_heap.declared.value.ConstNo.{ConstNo}
use Rattle.prim_walks.specs.py_values.Names.{type_name}
use Rattle.prim_walks.specs.Plain.{plain, plain_heap}
use Rattle.prim_faults.specs.declared.types.ValueType.{ValueType}
use Rattle.prim_faults.specs.declared.types.ValueType.TheVariants as types

-- the name of a type, as messages tell it
abbrev pub type_text : ValueType → List ℕ
type_text types.None = codes "NoneType"
type_text types.Bool = codes "bool"
type_text types.Int = codes "int"
type_text types.Str = codes "str"
type_text types.Tuple = codes "tuple"
type_text types.List = codes "list"
type_text types.Dict = codes "dict"
type_text types.Range = codes "range"
type_text types.Function = codes "function"
type_text types.Module = codes "module"
type_text types.Metatype = codes "type"
type_text types.BoundMethod = codes "bound_method"
type_text (types.Exception kind) = kind_name kind

-- the name is that of the value's type, whatever the constants are
abbrev pub IsTypeName : Heap Value ℕ → Value → List ℕ → Type 0
IsTypeName heap v name =
    (texts : StrNo → Option (List ℕ)) (tuples : ConstNo → Option (List Value)) → name ≡ type_name (plain_heap texts tuples heap) (plain texts tuples v)

-- How built-ins are called, and the names of types.
use Rattle.std.specs.Prelude.{ℕ, List, [], codes, Option, Some, None}
use Rattle.mpy_base.specs.declared.builtin.Builtin.{Builtin}
use Rattle.mpy_base.specs.declared.builtin.Builtin.TheVariants as builtins
use Rattle.mpy_base.specs.Kind.{kind_name}
use Rattle.mpy_base.specs.World.{Object, ListObject, TupleObject, TextObject, DictObject, FunctionObject, ExceptionObject}
use Rattle.mpy_base.specs.World.{MethodObject, RangeObject, ModuleObject, object}
use Rattle.mpy_base.specs.Val.{Val, Nil, Truth, Int, Str, Fixed, Empty, Built, At}
use Rattle.py_values.specs.Shown.{PlainHeap}

-- the name that a built-in alone has: that of a method or of a call of `port` stands behind its type or `port`
abbrev pub builtin_name : Builtin → List ℕ
builtin_name builtins.Bool = codes "bool"
builtin_name builtins.Int = codes "int"
builtin_name builtins.Str = codes "str"
builtin_name builtins.List = codes "list"
builtin_name builtins.Tuple = codes "tuple"
builtin_name builtins.Dict = codes "dict"
builtin_name builtins.Print = codes "print"
builtin_name builtins.Len = codes "len"
builtin_name builtins.Abs = codes "abs"
builtin_name builtins.Range = codes "range"
builtin_name builtins.Min = codes "min"
builtin_name builtins.Max = codes "max"
builtin_name builtins.Repr = codes "repr"
builtin_name builtins.Ord = codes "ord"
builtin_name builtins.Chr = codes "chr"
builtin_name builtins.IsInstance = codes "isinstance"
builtin_name (builtins.Kind kind) = kind_name kind
builtin_name builtins.ListAppend = codes "list.append"
builtin_name builtins.ListPop = codes "list.pop"
builtin_name builtins.ListInsert = codes "list.insert"
builtin_name builtins.ListExtend = codes "list.extend"
builtin_name builtins.DictGet = codes "dict.get"
builtin_name builtins.DictKeys = codes "dict.keys"
builtin_name builtins.DictValues = codes "dict.values"
builtin_name builtins.DictItems = codes "dict.items"
builtin_name builtins.DictPop = codes "dict.pop"
builtin_name builtins.StrJoin = codes "str.join"
builtin_name builtins.StrFind = codes "str.find"
builtin_name builtins.StrStartsWith = codes "str.startswith"
builtin_name builtins.StrSplit = codes "str.split"
builtin_name builtins.Port = codes "port"
builtin_name builtins.PortPut = codes "port.put"
builtin_name builtins.PortGet = codes "port.get"
builtin_name builtins.PortCount = codes "port.count"

-- the name of a built-in's type
abbrev pub builtin_type : Builtin → List ℕ
builtin_type builtins.Bool = codes "type"
builtin_type builtins.Int = codes "type"
builtin_type builtins.Str = codes "type"
builtin_type builtins.List = codes "type"
builtin_type builtins.Tuple = codes "type"
builtin_type builtins.Dict = codes "type"
builtin_type (builtins.Kind kind) = codes "type"
builtin_type builtins.Port = codes "module"
builtin_type _ = codes "function"

-- the name of an object's type
abbrev pub object_type : Option (Object Val (List ℕ)) → List ℕ
object_type (Some (ListObject items room)) = codes "list"
object_type (Some (TupleObject items)) = codes "tuple"
object_type (Some (TextObject bytes)) = codes "str"
object_type (Some (DictObject pairs room)) = codes "dict"
object_type (Some (FunctionObject name module_name code names defaults)) = codes "function"
object_type (Some (ExceptionObject kind args file line name)) = kind_name kind
object_type (Some (MethodObject value method)) = codes "bound_method"
object_type (Some (RangeObject start stop step)) = codes "range"
object_type (Some (ModuleObject name names)) = codes "module"
object_type None = []

-- the name of a value's type, as messages have it
abbrev pub type_name : PlainHeap → Val → List ℕ
type_name heap Nil = codes "NoneType"
type_name heap (Truth b) = codes "bool"
type_name heap (Int z) = codes "int"
type_name heap (Str bytes) = codes "str"
type_name heap (Fixed items) = codes "tuple"
type_name heap Empty = codes "tuple"
type_name heap (Built b) = builtin_type b
type_name heap (At n) = object_type (object heap.objects n)

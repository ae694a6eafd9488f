-- The built-ins that a program finds by their names, and what each is.
use Rattle.std.specs.Prelude.{ℕ, List, [], ◌∷◌, Bool, true, false, Option, Some, None, map, bytes_eq, codes, if◌then◌else◌}
use Rattle.py_values.specs.mpy_base.declared.builtin.Builtin.{Builtin}
use Rattle.py_values.specs.mpy_base.declared.builtin.Builtin.TheVariants as builtins
use Rattle.py_values.specs.mpy_base.declared.kind.Kind.{Kind}
use Rattle.py_values.specs.mpy_base.declared.kind.Kind.TheVariants as kinds
use Rattle.py_values.specs.Names.{builtin_name}

-- the kind of exceptions that a built-in is
abbrev pub kind_in : Builtin → Option Kind
kind_in (builtins.Kind kind) = Some kind
kind_in _ = None

-- is the built-in a type?
abbrev pub is_type : Builtin → Bool
is_type builtins.Bool = true
is_type builtins.Int = true
is_type builtins.Str = true
is_type builtins.List = true
is_type builtins.Tuple = true
is_type builtins.Dict = true
is_type (builtins.Kind kind) = true
is_type _ = false

-- the first of these that has this name
abbrev pub named : List (List ℕ × Builtin) → List ℕ → Option Builtin
named [] name = None
named (entry ∷ entries) name = if bytes_eq (entry.0) name then Some (entry.1) else named entries name

-- the methods of lists
abbrev pub list_methods : List (List ℕ × Builtin)
list_methods =
    (codes "append", builtins.ListAppend) ∷ (codes "pop", builtins.ListPop) ∷ (codes "insert", builtins.ListInsert)
    ∷ (codes "extend", builtins.ListExtend) ∷ []

-- the methods of dicts
abbrev pub dict_methods : List (List ℕ × Builtin)
dict_methods =
    (codes "get", builtins.DictGet) ∷ (codes "keys", builtins.DictKeys) ∷ (codes "values", builtins.DictValues)
    ∷ (codes "items", builtins.DictItems) ∷ (codes "pop", builtins.DictPop) ∷ []

-- the methods of strs
abbrev pub str_methods : List (List ℕ × Builtin)
str_methods =
    (codes "join", builtins.StrJoin) ∷ (codes "find", builtins.StrFind) ∷ (codes "startswith", builtins.StrStartsWith)
    ∷ (codes "split", builtins.StrSplit) ∷ []

-- the functions of the module `port`
abbrev pub port_calls : List (List ℕ × Builtin)
port_calls = (codes "put", builtins.PortPut) ∷ (codes "get", builtins.PortGet) ∷ (codes "count", builtins.PortCount) ∷ []

-- the kinds of exceptions
abbrev pub all_kinds : List Kind
all_kinds =
    kinds.BaseException ∷ kinds.SystemExit ∷ kinds.KeyboardInterrupt ∷ kinds.Exception ∷ kinds.ArithmeticError
    ∷ kinds.OverflowError ∷ kinds.ZeroDivisionError ∷ kinds.AssertionError ∷ kinds.AttributeError ∷ kinds.EofError
    ∷ kinds.ImportError ∷ kinds.LookupError ∷ kinds.IndexError ∷ kinds.KeyError ∷ kinds.MemoryError ∷ kinds.NameError
    ∷ kinds.OsError ∷ kinds.RuntimeError ∷ kinds.NotImplementedError ∷ kinds.StopIteration ∷ kinds.SyntaxError
    ∷ kinds.TypeError ∷ kinds.ValueError ∷ []

-- what a name means that no namespace has. `port` isn't among them: it is imported
abbrev pub globals : List Builtin
globals =
    builtins.Bool ∷ builtins.Int ∷ builtins.Str ∷ builtins.List ∷ builtins.Tuple ∷ builtins.Dict ∷ builtins.Print
    ∷ builtins.Len ∷ builtins.Abs ∷ builtins.Range ∷ builtins.Min ∷ builtins.Max ∷ builtins.Repr ∷ builtins.Ord
    ∷ builtins.Chr ∷ builtins.IsInstance ∷ map builtins.Kind all_kinds

-- the built-in that a name means where no namespace has it
abbrev pub global_named : List ℕ → Option Builtin
global_named name = named (map (λ b. (builtin_name b, b)) globals) name

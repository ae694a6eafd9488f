-- The names of kinds and built-ins are ASCII.
use Rattle.std.proofs.Common.{◌<◌, refl}
use Rattle.std.specs.Prelude.{All}
use Rattle.py_primitives.specs.mpy_base.declared.kind.Kind.{Kind}
use Rattle.py_primitives.specs.mpy_base.declared.kind.Kind.TheVariants as kinds
use Rattle.py_primitives.specs.mpy_base.declared.builtin.Builtin.{Builtin}
use Rattle.py_primitives.specs.mpy_base.declared.builtin.Builtin.TheVariants as builtins
use Rattle.py_primitives.specs.mpy_base.Kind.{kind_name}
use Rattle.py_primitives.specs.py_values.Names.{builtin_name}
use Rattle.prim_walks.proofs.PenSteps.{ascii_by}

pub kind_ascii : (kind : Kind) → All (λ b. b < 128) (kind_name kind)
kind_ascii kinds.BaseException = ascii_by (kind_name kinds.BaseException) refl
kind_ascii kinds.SystemExit = ascii_by (kind_name kinds.SystemExit) refl
kind_ascii kinds.KeyboardInterrupt = ascii_by (kind_name kinds.KeyboardInterrupt) refl
kind_ascii kinds.Exception = ascii_by (kind_name kinds.Exception) refl
kind_ascii kinds.ArithmeticError = ascii_by (kind_name kinds.ArithmeticError) refl
kind_ascii kinds.OverflowError = ascii_by (kind_name kinds.OverflowError) refl
kind_ascii kinds.ZeroDivisionError = ascii_by (kind_name kinds.ZeroDivisionError) refl
kind_ascii kinds.AssertionError = ascii_by (kind_name kinds.AssertionError) refl
kind_ascii kinds.AttributeError = ascii_by (kind_name kinds.AttributeError) refl
kind_ascii kinds.EofError = ascii_by (kind_name kinds.EofError) refl
kind_ascii kinds.ImportError = ascii_by (kind_name kinds.ImportError) refl
kind_ascii kinds.LookupError = ascii_by (kind_name kinds.LookupError) refl
kind_ascii kinds.IndexError = ascii_by (kind_name kinds.IndexError) refl
kind_ascii kinds.KeyError = ascii_by (kind_name kinds.KeyError) refl
kind_ascii kinds.MemoryError = ascii_by (kind_name kinds.MemoryError) refl
kind_ascii kinds.NameError = ascii_by (kind_name kinds.NameError) refl
kind_ascii kinds.OsError = ascii_by (kind_name kinds.OsError) refl
kind_ascii kinds.RuntimeError = ascii_by (kind_name kinds.RuntimeError) refl
kind_ascii kinds.NotImplementedError = ascii_by (kind_name kinds.NotImplementedError) refl
kind_ascii kinds.StopIteration = ascii_by (kind_name kinds.StopIteration) refl
kind_ascii kinds.SyntaxError = ascii_by (kind_name kinds.SyntaxError) refl
kind_ascii kinds.TypeError = ascii_by (kind_name kinds.TypeError) refl
kind_ascii kinds.ValueError = ascii_by (kind_name kinds.ValueError) refl

pub builtin_ascii : (b : Builtin) → All (λ b. b < 128) (builtin_name b)
builtin_ascii builtins.Bool = ascii_by (builtin_name builtins.Bool) refl
builtin_ascii builtins.Int = ascii_by (builtin_name builtins.Int) refl
builtin_ascii builtins.Str = ascii_by (builtin_name builtins.Str) refl
builtin_ascii builtins.List = ascii_by (builtin_name builtins.List) refl
builtin_ascii builtins.Tuple = ascii_by (builtin_name builtins.Tuple) refl
builtin_ascii builtins.Dict = ascii_by (builtin_name builtins.Dict) refl
builtin_ascii builtins.Print = ascii_by (builtin_name builtins.Print) refl
builtin_ascii builtins.Len = ascii_by (builtin_name builtins.Len) refl
builtin_ascii builtins.Abs = ascii_by (builtin_name builtins.Abs) refl
builtin_ascii builtins.Range = ascii_by (builtin_name builtins.Range) refl
builtin_ascii builtins.Min = ascii_by (builtin_name builtins.Min) refl
builtin_ascii builtins.Max = ascii_by (builtin_name builtins.Max) refl
builtin_ascii builtins.Repr = ascii_by (builtin_name builtins.Repr) refl
builtin_ascii builtins.Ord = ascii_by (builtin_name builtins.Ord) refl
builtin_ascii builtins.Chr = ascii_by (builtin_name builtins.Chr) refl
builtin_ascii builtins.IsInstance = ascii_by (builtin_name builtins.IsInstance) refl
builtin_ascii (builtins.Kind kind) = kind_ascii kind
builtin_ascii builtins.ListAppend = ascii_by (builtin_name builtins.ListAppend) refl
builtin_ascii builtins.ListPop = ascii_by (builtin_name builtins.ListPop) refl
builtin_ascii builtins.ListInsert = ascii_by (builtin_name builtins.ListInsert) refl
builtin_ascii builtins.ListExtend = ascii_by (builtin_name builtins.ListExtend) refl
builtin_ascii builtins.DictGet = ascii_by (builtin_name builtins.DictGet) refl
builtin_ascii builtins.DictKeys = ascii_by (builtin_name builtins.DictKeys) refl
builtin_ascii builtins.DictValues = ascii_by (builtin_name builtins.DictValues) refl
builtin_ascii builtins.DictItems = ascii_by (builtin_name builtins.DictItems) refl
builtin_ascii builtins.DictPop = ascii_by (builtin_name builtins.DictPop) refl
builtin_ascii builtins.StrJoin = ascii_by (builtin_name builtins.StrJoin) refl
builtin_ascii builtins.StrFind = ascii_by (builtin_name builtins.StrFind) refl
builtin_ascii builtins.StrStartsWith = ascii_by (builtin_name builtins.StrStartsWith) refl
builtin_ascii builtins.StrSplit = ascii_by (builtin_name builtins.StrSplit) refl
builtin_ascii builtins.Port = ascii_by (builtin_name builtins.Port) refl
builtin_ascii builtins.PortPut = ascii_by (builtin_name builtins.PortPut) refl
builtin_ascii builtins.PortGet = ascii_by (builtin_name builtins.PortGet) refl
builtin_ascii builtins.PortCount = ascii_by (builtin_name builtins.PortCount) refl

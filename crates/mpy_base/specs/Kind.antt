-- The tree of exception kinds, and how each is called.
use Rattle.std.specs.Prelude.{◌≡◌, ℕ, List, codes, Option, Some, None}
use Rattle.mpy_base.specs.declared.kind.Kind.{Kind}
use Rattle.mpy_base.specs.declared.kind.Kind.TheVariants as kinds

-- the kind right above
abbrev pub parent_of : Kind → Option Kind
parent_of kinds.BaseException = None
parent_of kinds.SystemExit = Some kinds.BaseException
parent_of kinds.KeyboardInterrupt = Some kinds.BaseException
parent_of kinds.Exception = Some kinds.BaseException
parent_of kinds.ArithmeticError = Some kinds.Exception
parent_of kinds.OverflowError = Some kinds.ArithmeticError
parent_of kinds.ZeroDivisionError = Some kinds.ArithmeticError
parent_of kinds.AssertionError = Some kinds.Exception
parent_of kinds.AttributeError = Some kinds.Exception
parent_of kinds.EofError = Some kinds.Exception
parent_of kinds.ImportError = Some kinds.Exception
parent_of kinds.LookupError = Some kinds.Exception
parent_of kinds.IndexError = Some kinds.LookupError
parent_of kinds.KeyError = Some kinds.LookupError
parent_of kinds.MemoryError = Some kinds.Exception
parent_of kinds.NameError = Some kinds.Exception
parent_of kinds.OsError = Some kinds.Exception
parent_of kinds.RuntimeError = Some kinds.Exception
parent_of kinds.NotImplementedError = Some kinds.RuntimeError
parent_of kinds.StopIteration = Some kinds.Exception
parent_of kinds.SyntaxError = Some kinds.Exception
parent_of kinds.TypeError = Some kinds.Exception
parent_of kinds.ValueError = Some kinds.Exception

-- the first kind is the second, or lies below it in the tree
pub data IsUnder : Kind → Kind → Type 0 where
  itself : {kind : Kind} → IsUnder kind kind
  below : {kind parent other : Kind} → parent_of kind ≡ Some parent → IsUnder parent other → IsUnder kind other

-- the name of a kind, as Python has it
abbrev pub kind_name : Kind → List ℕ
kind_name kinds.BaseException = codes "BaseException"
kind_name kinds.SystemExit = codes "SystemExit"
kind_name kinds.KeyboardInterrupt = codes "KeyboardInterrupt"
kind_name kinds.Exception = codes "Exception"
kind_name kinds.ArithmeticError = codes "ArithmeticError"
kind_name kinds.OverflowError = codes "OverflowError"
kind_name kinds.ZeroDivisionError = codes "ZeroDivisionError"
kind_name kinds.AssertionError = codes "AssertionError"
kind_name kinds.AttributeError = codes "AttributeError"
kind_name kinds.EofError = codes "EOFError"
kind_name kinds.ImportError = codes "ImportError"
kind_name kinds.LookupError = codes "LookupError"
kind_name kinds.IndexError = codes "IndexError"
kind_name kinds.KeyError = codes "KeyError"
kind_name kinds.MemoryError = codes "MemoryError"
kind_name kinds.NameError = codes "NameError"
kind_name kinds.OsError = codes "OSError"
kind_name kinds.RuntimeError = codes "RuntimeError"
kind_name kinds.NotImplementedError = codes "NotImplementedError"
kind_name kinds.StopIteration = codes "StopIteration"
kind_name kinds.SyntaxError = codes "SyntaxError"
kind_name kinds.TypeError = codes "TypeError"
kind_name kinds.ValueError = codes "ValueError"

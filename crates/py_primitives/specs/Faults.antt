-- The faults that primitives and the machine raise: their kinds and texts. Types are given by their names.
use Rattle.std.specs.Prelude.{ℕ, pos, List, [], ◌++◌, Option, Some, None, codes}
use Rattle.std.specs.Fmt.{decimal}
use Rattle.py_values.specs.mpy_base.declared.kind.Kind.{Kind}
use Rattle.py_values.specs.mpy_base.declared.kind.Kind.TheVariants as kinds
use Rattle.py_values.specs.mpy_base.Val.{Val, Int}
use Rattle.py_values.specs.declared.small_int.NumFault.{NumFault}
use Rattle.py_values.specs.declared.small_int.NumFault.TheVariants.{Overflow, ZeroDivide, NegativeShift, NegativePower}

-- a fault, with what its text tells
pub data Fault : Type 0 where
  -- operators over these types, by the name of the operator's method
  Unsupported : (method left right : List ℕ) → Fault
  UnsupportedOne : (method type : List ℕ) → Fault
  UnsupportedMatch : Fault
  NotAnException : Fault
  Arithmetic : NumFault → Fault
  -- uses of a value of this type
  NotCallable NotIterable NotSubscriptable NotAssignable NotDeletable NoLength NotANumber : (type : List ℕ) → Fault
  -- an index of a type that no list, tuple, str or range has
  NotAnIndex : (type index : List ℕ) → Fault
  OutOfRange : (type : List ℕ) → Fault
  EmptyList : Fault
  NoKey : (key : Val) → Fault
  NoAttribute : (type name : List ℕ) → Fault
  -- counts of arguments
  WrongCount : (takes given : ℕ) → Fault
  Missing : (count : ℕ) → Fault
  TooFew : (least given : ℕ) → Fault
  TooMany : (most given : ℕ) → Fault
  -- keyword arguments
  NoKeywords KeywordNotAStr : Fault
  UnknownKeyword RepeatedKeyword NotAStr : (name : List ℕ) → Fault
  -- built-ins
  ZeroStep NothingToCompare NoNumeral NoCharacter NoCode NotTypes JoinsNoStr EmptySeparator NoSuchPort PortFailed : Fault
  -- names and unpacking
  NoSuchName : (name : List ℕ) → Fault
  Unassigned : Fault
  NotImported : (name : List ℕ) → Fault
  UnpacksMore : (have : ℕ) → Fault
  UnpacksFewer : (want : ℕ) → Fault
  NothingToRaise : Fault
  TooDeep : Fault
  -- imports and functions
  NoModule : (name : List ℕ) → Fault
  RelativeImport IncompatibleFile BadDefaults : Fault

-- the kind of exception of a number's fault
abbrev pub number_kind : NumFault → Kind
number_kind Overflow = kinds.OverflowError
number_kind ZeroDivide = kinds.ZeroDivisionError
number_kind NegativeShift = kinds.ValueError
number_kind NegativePower = kinds.ValueError

-- the text of a number's fault
abbrev pub number_text : NumFault → List ℕ
number_text Overflow = codes "small int overflow"
number_text ZeroDivide = codes "divide by zero"
number_text NegativeShift = codes "negative shift count"
number_text NegativePower = codes "negative power with no float support"

-- the kind of exception of a fault
abbrev pub fault_kind : Fault → Kind
fault_kind (Unsupported method left right) = kinds.TypeError
fault_kind (UnsupportedOne method type) = kinds.TypeError
fault_kind UnsupportedMatch = kinds.TypeError
fault_kind NotAnException = kinds.TypeError
fault_kind (Arithmetic fault) = number_kind fault
fault_kind (NotCallable type) = kinds.TypeError
fault_kind (NotIterable type) = kinds.TypeError
fault_kind (NotSubscriptable type) = kinds.TypeError
fault_kind (NotAssignable type) = kinds.TypeError
fault_kind (NotDeletable type) = kinds.TypeError
fault_kind (NoLength type) = kinds.TypeError
fault_kind (NotANumber type) = kinds.TypeError
fault_kind (NotAnIndex type index) = kinds.TypeError
fault_kind (OutOfRange type) = kinds.IndexError
fault_kind EmptyList = kinds.IndexError
fault_kind (NoKey key) = kinds.KeyError
fault_kind (NoAttribute type name) = kinds.AttributeError
fault_kind (WrongCount takes given) = kinds.TypeError
fault_kind (Missing count) = kinds.TypeError
fault_kind (TooFew least given) = kinds.TypeError
fault_kind (TooMany most given) = kinds.TypeError
fault_kind NoKeywords = kinds.TypeError
fault_kind KeywordNotAStr = kinds.TypeError
fault_kind (UnknownKeyword name) = kinds.TypeError
fault_kind (RepeatedKeyword name) = kinds.TypeError
fault_kind (NotAStr name) = kinds.TypeError
fault_kind ZeroStep = kinds.ValueError
fault_kind NothingToCompare = kinds.ValueError
fault_kind NoNumeral = kinds.ValueError
fault_kind NoCharacter = kinds.TypeError
fault_kind NoCode = kinds.ValueError
fault_kind NotTypes = kinds.TypeError
fault_kind JoinsNoStr = kinds.TypeError
fault_kind EmptySeparator = kinds.ValueError
fault_kind NoSuchPort = kinds.ValueError
fault_kind PortFailed = kinds.OsError
fault_kind (NoSuchName name) = kinds.NameError
fault_kind Unassigned = kinds.NameError
fault_kind (NotImported name) = kinds.ImportError
fault_kind (UnpacksMore have) = kinds.ValueError
fault_kind (UnpacksFewer want) = kinds.ValueError
fault_kind NothingToRaise = kinds.RuntimeError
fault_kind TooDeep = kinds.RuntimeError
fault_kind (NoModule name) = kinds.ImportError
fault_kind RelativeImport = kinds.ImportError
fault_kind IncompatibleFile = kinds.ValueError
fault_kind BadDefaults = kinds.TypeError

-- the text between single quotes
abbrev pub between_quotes : List ℕ → List ℕ
between_quotes text = codes "'" ++ text ++ codes "'"

-- an object of this type does something
abbrev pub object_does : List ℕ → List ℕ → List ℕ
object_does type does = between_quotes type ++ codes " object " ++ does

-- a text with two numbers in it
abbrev pub takes_counts : List ℕ → ℕ → List ℕ → ℕ → List ℕ → List ℕ
takes_counts first m middle n last = first ++ decimal m ++ middle ++ decimal n ++ last

-- the argument of the exception: a value for KeyError and OSError, and else a text
abbrev pub fault_value : Fault → Option Val
fault_value (NoKey key) = Some key
fault_value PortFailed = Some (Int (pos 5))
fault_value _ = None

-- the text of a fault
abbrev pub fault_text : Fault → List ℕ
fault_text (Unsupported method left right) =
    codes "unsupported types for " ++ method ++ codes ": " ++ between_quotes left ++ codes ", " ++ between_quotes right
fault_text (UnsupportedOne method type) = codes "unsupported type for " ++ method ++ codes ": " ++ between_quotes type
fault_text UnsupportedMatch = codes "unsupported types for exception match"
fault_text NotAnException = codes "exceptions must derive from BaseException"
fault_text (Arithmetic fault) = number_text fault
fault_text (NotCallable type) = object_does type (codes "isn't callable")
fault_text (NotIterable type) = object_does type (codes "isn't iterable")
fault_text (NotSubscriptable type) = object_does type (codes "isn't subscriptable")
fault_text (NotAssignable type) = object_does type (codes "doesn't support item assignment")
fault_text (NotDeletable type) = object_does type (codes "doesn't support item deletion")
fault_text (NoLength type) = codes "object of type " ++ between_quotes type ++ codes " has no len()"
fault_text (NotANumber type) = codes "can't convert " ++ type ++ codes " to int"
fault_text (NotAnIndex type index) = type ++ codes " indices must be integers, not " ++ index
fault_text (OutOfRange type) = type ++ codes " index out of range"
fault_text EmptyList = codes "pop from empty list"
fault_text (NoKey key) = []
fault_text (NoAttribute type name) = object_does type (codes "has no attribute " ++ between_quotes name)
fault_text (WrongCount takes given) = takes_counts (codes "function takes ") takes (codes " positional arguments but ") given (codes " were given")
fault_text (Missing count) = codes "function missing " ++ decimal count ++ codes " required positional arguments"
fault_text (TooFew least given) = takes_counts (codes "function expected at least ") least (codes " arguments, got ") given []
fault_text (TooMany most given) = takes_counts (codes "function expected at most ") most (codes " arguments, got ") given []
fault_text NoKeywords = codes "function doesn't take keyword arguments"
fault_text KeywordNotAStr = codes "keywords must be strings"
fault_text (UnknownKeyword name) = codes "unexpected keyword argument " ++ between_quotes name
fault_text (RepeatedKeyword name) = codes "function got multiple values for argument " ++ between_quotes name
fault_text (NotAStr name) = name ++ codes " must be a str"
fault_text ZeroStep = codes "zero step"
fault_text NothingToCompare = codes "arg is an empty sequence"
fault_text NoNumeral = codes "invalid syntax for integer with base 10"
fault_text NoCharacter = codes "ord() expects a character"
fault_text NoCode = codes "chr() arg not in range(128)"
fault_text NotTypes = codes "isinstance() arg 2 must be a type or a tuple of types"
fault_text JoinsNoStr = codes "join expects a list of str"
fault_text EmptySeparator = codes "empty separator"
fault_text NoSuchPort = codes "no such port"
fault_text PortFailed = []
fault_text (NoSuchName name) = codes "name " ++ between_quotes name ++ codes " isn't defined"
fault_text Unassigned = codes "local variable referenced before assignment"
fault_text (NotImported name) = codes "can't import name " ++ between_quotes name
fault_text (UnpacksMore have) = codes "need more than " ++ decimal have ++ codes " values to unpack"
fault_text (UnpacksFewer want) = codes "too many values to unpack (expected " ++ decimal want ++ codes ")"
fault_text NothingToRaise = codes "no active exception to reraise"
fault_text TooDeep = codes "maximum recursion depth exceeded"
fault_text (NoModule name) = codes "no module named " ++ between_quotes name
fault_text RelativeImport = codes "relative import"
fault_text IncompatibleFile = codes "incompatible .mpy file"
fault_text BadDefaults = codes "bad defaults"

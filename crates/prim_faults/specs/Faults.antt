-- Faults of an arena as the meaning of programs has them.
use Rattle.std.specs.Prelude.{◌≡◌, ◌≤◌, ℕ, List, [], length, take, Option, IsSome, codes}
use Rattle.prim_walks.specs.mpy_base.declared.kind.Kind.{Kind}
use Rattle.prim_walks.specs.mpy_base.World.{Heap, Objects}
use Rattle.prim_walks.specs.arena_heap.declared.value.Value.{Value}
use Rattle.prim_walks.specs.arena_heap.declared.value.StrNo.{StrNo}
use Rattle.prim_walks.specs.arena_heap.declared.value.ConstNo.{ConstNo}
use Rattle.prim_walks.specs.arena_heap.Values.{Leads, IsStr}
use Rattle.prim_walks.specs.arena_heap.Constants.{IsTold}
use Rattle.prim_walks.specs.arena_objects.Iterables.{or_nothing, spelled}
use Rattle.prim_walks.specs.py_primitives.Faults as plain
use Rattle.prim_walks.specs.Plain.{plain as plain_value}
use Rattle.prim_faults.specs.declared.fault.Fault.{Fault}
use Rattle.prim_faults.specs.declared.fault.Fault.TheVariants as faults
use Rattle.prim_faults.specs.declared.method.SpecialMethod.{SpecialMethod}
use Rattle.prim_faults.specs.declared.method.SpecialMethod.TheVariants as methods
use Rattle.prim_faults.specs.Types.{type_text}

-- the name that Python gives the method
abbrev pub method_text : SpecialMethod → List ℕ
method_text methods.Or = codes "__or__"
method_text methods.Xor = codes "__xor__"
method_text methods.And = codes "__and__"
method_text methods.LeftShift = codes "__lshift__"
method_text methods.RightShift = codes "__rshift__"
method_text methods.Add = codes "__add__"
method_text methods.Subtract = codes "__sub__"
method_text methods.Multiply = codes "__mul__"
method_text methods.FloorDivide = codes "__floordiv__"
method_text methods.Modulo = codes "__mod__"
method_text methods.Power = codes "__pow__"
method_text methods.Less = codes "__lt__"
method_text methods.Greater = codes "__gt__"
method_text methods.LessOrEqual = codes "__le__"
method_text methods.GreaterOrEqual = codes "__ge__"
method_text methods.Contains = codes "__contains__"
method_text methods.Positive = codes "__pos__"
method_text methods.Negative = codes "__neg__"
method_text methods.Invert = codes "__invert__"
method_text methods.Hash = codes "__hash__"

module _ (texts : StrNo → Option (List ℕ)) (tuples : ConstNo → Option (List Value)) (heap : Heap Value ℕ) where
  -- a fault as the meaning has it
  abbrev pub plain_fault : Fault → plain.Fault
  plain_fault (faults.Unsupported method left right) = plain.Unsupported (method_text method) (type_text left) (type_text right)
  plain_fault (faults.UnsupportedOne method operand) = plain.UnsupportedOne (method_text method) (type_text operand)
  plain_fault faults.UnsupportedMatch = plain.UnsupportedMatch
  plain_fault faults.NotAnException = plain.NotAnException
  plain_fault (faults.Arithmetic fault) = plain.Arithmetic fault
  plain_fault (faults.NotCallable t) = plain.NotCallable (type_text t)
  plain_fault (faults.NotIterable t) = plain.NotIterable (type_text t)
  plain_fault (faults.NotSubscriptable t) = plain.NotSubscriptable (type_text t)
  plain_fault (faults.NotAssignable t) = plain.NotAssignable (type_text t)
  plain_fault (faults.NotDeletable t) = plain.NotDeletable (type_text t)
  plain_fault (faults.NoLength t) = plain.NoLength (type_text t)
  plain_fault (faults.NotANumber t) = plain.NotANumber (type_text t)
  plain_fault (faults.NotAnIndex sequence index) = plain.NotAnIndex (type_text sequence) (type_text index)
  plain_fault (faults.OutOfRange t) = plain.OutOfRange (type_text t)
  plain_fault faults.EmptyList = plain.EmptyList
  plain_fault (faults.NoKey key) = plain.NoKey (plain_value texts tuples key)
  plain_fault (faults.NoAttribute object name) = plain.NoAttribute (type_text object) (or_nothing (texts name))
  plain_fault (faults.WrongCount takes given) = plain.WrongCount takes given
  plain_fault (faults.Missing count) = plain.Missing count
  plain_fault (faults.TooFew least given) = plain.TooFew least given
  plain_fault (faults.TooMany most given) = plain.TooMany most given
  plain_fault faults.NoKeywords = plain.NoKeywords
  plain_fault faults.KeywordNotAStr = plain.KeywordNotAStr
  plain_fault (faults.UnknownKeyword name) = plain.UnknownKeyword (spelled texts heap name)
  plain_fault (faults.RepeatedKeyword name) = plain.RepeatedKeyword (spelled texts heap name)
  plain_fault (faults.NotAStr name) = plain.NotAStr (spelled texts heap name)
  plain_fault faults.ZeroStep = plain.ZeroStep
  plain_fault faults.NothingToCompare = plain.NothingToCompare
  plain_fault faults.NoNumeral = plain.NoNumeral
  plain_fault faults.NoCharacter = plain.NoCharacter
  plain_fault faults.NoCode = plain.NoCode
  plain_fault faults.NotTypes = plain.NotTypes
  plain_fault faults.JoinsNoStr = plain.JoinsNoStr
  plain_fault faults.EmptySeparator = plain.EmptySeparator
  plain_fault faults.NoSuchPort = plain.NoSuchPort
  plain_fault faults.PortFailed = plain.PortFailed
  plain_fault (faults.NoSuchName name) = plain.NoSuchName (or_nothing (texts name))
  plain_fault faults.Unassigned = plain.Unassigned
  plain_fault (faults.NotImported name) = plain.NotImported (or_nothing (texts name))
  plain_fault (faults.UnpacksMore have) = plain.UnpacksMore have
  plain_fault (faults.UnpacksFewer want) = plain.UnpacksFewer want
  plain_fault faults.NothingToRaise = plain.NothingToRaise
  plain_fault faults.TooDeep = plain.TooDeep
  plain_fault (faults.NoModule name len) = plain.NoModule (take len (or_nothing (texts name)))
  plain_fault faults.RelativeImport = plain.RelativeImport
  plain_fault faults.IncompatibleFile = plain.IncompatibleFile
  plain_fault faults.BadDefaults = plain.BadDefaults

  -- the name that a fault has. Others have no bytes
  abbrev pub name_in : Fault → List ℕ
  name_in (faults.NoAttribute object name) = or_nothing (texts name)
  name_in (faults.UnknownKeyword name) = spelled texts heap name
  name_in (faults.RepeatedKeyword name) = spelled texts heap name
  name_in (faults.NotAStr name) = spelled texts heap name
  name_in (faults.NoSuchName name) = or_nothing (texts name)
  name_in (faults.NotImported name) = or_nothing (texts name)
  name_in (faults.NoModule name len) = take len (or_nothing (texts name))
  name_in _ = []

-- the text `name` has `len` bytes at least
abbrev pub IsPrefix : (StrNo → Option (List ℕ)) → StrNo → ℕ → Type 0
IsPrefix texts name len = IsSome (texts name) × (len ≤ length (or_nothing (texts name)))

-- the fault raises an exception of that kind
abbrev pub IsKindOf : Fault → Kind → Type 0
IsKindOf fault kind =
    (texts : StrNo → Option (List ℕ)) (tuples : ConstNo → Option (List Value)) (heap : Heap Value ℕ)
    → kind ≡ plain.fault_kind (plain_fault texts tuples heap fault)

module _ (texts : StrNo → Option (List ℕ)) (tuples : ConstNo → Option (List Value)) (objects : Objects Value ℕ) where
  -- a value that leads to an object and is told
  pub record IsKnown (v : Value) : Type 0 where
    pub leads : Leads objects v
    pub told : IsTold texts tuples v

  -- a str that leads to its text, or is told
  pub record IsKnownStr (v : Value) : Type 0 where
    pub str : IsStr v
    pub leads : Leads objects v
    pub told : IsTold texts tuples v

  -- the values and names of a fault are known
  abbrev pub IsKnownFault : Fault → Type 0
  IsKnownFault (faults.NoKey key) = IsKnown key
  IsKnownFault (faults.NoAttribute object name) = IsSome (texts name)
  IsKnownFault (faults.UnknownKeyword name) = IsKnownStr name
  IsKnownFault (faults.RepeatedKeyword name) = IsKnownStr name
  IsKnownFault (faults.NotAStr name) = IsKnownStr name
  IsKnownFault (faults.NoSuchName name) = IsSome (texts name)
  IsKnownFault (faults.NotImported name) = IsSome (texts name)
  IsKnownFault (faults.NoModule name len) = IsPrefix texts name len
  IsKnownFault _ = Unit {0}

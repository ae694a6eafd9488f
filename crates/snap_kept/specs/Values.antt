-- Values that may stand anywhere, and what objects hold.
use Rattle.std.specs.Prelude.{◌≡◌, ◌⊎◌, ℕ, ◌+◌, ◌≤◌, List, [], ◌∷◌, length, false, Option, Some, None, IsSome, codes}
use Rattle.std.specs.List.{AllByRecursion as Each}
use Rattle.bc_progress.specs.mpy_base.World.{Object, ListObject, TupleObject, TextObject, DictObject, FunctionObject}
use Rattle.bc_progress.specs.mpy_base.World.{ExceptionObject, MethodObject, RangeObject, ModuleObject, ADict, object, names_of}
use Rattle.bc_progress.specs.mpy_base.World.{IsA}
use Rattle.bc_progress.specs.mpy_base.Weights.{cells_of}
use Rattle.bc_progress.specs.mpy_base.Val.{Val, Nil, Truth, Int, Str, Fixed, Empty, Built, At}
use Rattle.bc_progress.specs.py_values.Shown.{PlainHeap, Shown, Tuple, shown}
use Rattle.bc_progress.specs.py_values.Keys.{key_of, has_key}
use Rattle.bc_progress.specs.bc_machine.Library.{Name, Code, Module, Holds, entry_in, code_at, Library}
use Rattle.bc_progress.specs.Known.{HasMethod}
use Rattle.snap_kept.specs.Texts.{IsConstant, is_method, IsName, IsText}

-- there is an object of the number
abbrev pub IsThere : PlainHeap → ℕ → Type 0
IsThere heap n = (o : Object Val (List ℕ)) × (object heap.objects n ≡ Some o)

-- the names of the module `m` stand in the dict `names`
abbrev pub NamesOf : PlainHeap → ℕ → ℕ → Type 0
NamesOf heap m names = names_of (object heap.objects m) ≡ Some names

-- the dict of a module's names
abbrev pub IsNamespace : PlainHeap → ℕ → Type 0
IsNamespace heap names = (m : ℕ) × NamesOf heap m names

-- the name of a module's object
abbrev pub title_of : Option (Object Val (List ℕ)) → Option (List ℕ)
title_of (Some (ModuleObject name names)) = Some name
title_of _ = None

-- how many items a tuple has
abbrev pub count_shown : Shown → Option ℕ
count_shown (Tuple items) = Some (length items)
count_shown _ = None

-- how many items a value has that is a tuple
abbrev pub count_of : PlainHeap → Val → Option ℕ
count_of heap v = count_shown (shown heap v)

-- no pair has the key of a later one
abbrev pub Differ : PlainHeap → List (Val × Val) → Type 0
Differ heap [] = Unit {0}
Differ heap (p ∷ pairs) = Each (λ q. has_key heap (p.0) q ≡ false) pairs × Differ heap pairs

-- the cells of an object, and of all of them
abbrev pub cells_in : Option (Object Val (List ℕ)) → ℕ
cells_in (Some o) = cells_of o
cells_in None = 0

abbrev pub object_cells : List (Option (Object Val (List ℕ))) → ℕ
object_cells [] = 0
object_cells (o ∷ objects) = cells_in o + object_cells objects

module _ (library : Library) where
  -- a value that may stand anywhere: no method, and no dict of a module's names
  abbrev pub IsPlain : PlainHeap → Val → Type 0
  IsPlain heap Nil = Unit {0}
  IsPlain heap (Truth b) = Unit {0}
  IsPlain heap (Int z) = Unit {0}
  IsPlain heap (Str bytes) = IsText library bytes
  IsPlain heap (Fixed items) = IsConstant library (Fixed items)
  IsPlain heap Empty = Unit {0}
  IsPlain heap (Built b) = is_method b ≡ false
  IsPlain heap (At n) = IsThere heap n × (IsNamespace heap n → ⊥)

  -- a key and its value
  abbrev pub IsPair : PlainHeap → Val × Val → Type 0
  IsPair heap p = IsPlain heap (p.0) × IsSome (key_of heap (p.0)) × IsPlain heap (p.1)

  -- the key is a name
  abbrev pub IsNamed : Val × Val → Type 0
  IsNamed p = (name : Name) × (p.0 ≡ Str name) × IsName library name

  -- the pairs of the dict `n`: no key stands twice, and the keys of a module's names are names
  pub record IsDict (heap : PlainHeap) (n : ℕ) (pairs : List (Val × Val)) : Type 0 where
    pub plain : Each (IsPair heap) pairs
    pub differ : Differ heap pairs
    pub named : IsNamespace heap n → Each IsNamed pairs

  -- a function of a code that is there, with that code's name, and with as many defaults as the code takes, or none
  pub record IsFunction (heap : PlainHeap) (name module_name : Name) (code names : ℕ) (defaults : Val) : Type 0 where
    pub namespace : IsNamespace heap names
    pub plain : IsPlain heap defaults
    pub its : Code
    pub there : code_at library module_name code ≡ Some its
    pub named : name ≡ its.name
    pub count : (defaults ≡ Nil) ⊎ (count_of heap defaults ≡ Some its.given)

  -- an exception: its arguments are a tuple, and it was raised in a named place
  pub record IsException (heap : PlainHeap) (args : Val) (file name : Name) : Type 0 where
    pub plain : IsPlain heap args
    pub tuple : IsSome (count_of heap args)
    pub file_named : IsName library file
    pub name_named : IsName library name

  -- `__main__`, or a module of the library
  abbrev pub IsModuleName : Name → Type 0
  IsModuleName name = (name ≡ codes "__main__") ⊎ ((m : Module) × (entry_in library name ≡ Some (Holds m)))

  -- the names of the module `n` stand in a dict that has no other module's
  pub record IsModule (heap : PlainHeap) (n : ℕ) (name : Name) (names : Option ℕ) : Type 0 where
    pub named : IsModuleName name
    pub dict : ℕ
    pub is : names ≡ Some dict
    pub is_dict : IsA heap.objects ADict dict
    pub alone : (m : ℕ) → NamesOf heap m dict → m ≡ n

  -- what the object `n` holds
  abbrev pub IsFine : PlainHeap → ℕ → Object Val (List ℕ) → Type 0
  IsFine heap n (ListObject items room) = Each (IsPlain heap) items
  IsFine heap n (TupleObject items) = Each (IsPlain heap) items
  IsFine heap n (TextObject bytes) = Unit {0}
  IsFine heap n (DictObject pairs room) = IsDict heap n pairs
  IsFine heap n (FunctionObject name module_name code names defaults) =
      IsFunction heap name module_name code names defaults
  IsFine heap n (ExceptionObject kind args file line name) = IsException heap args file name
  IsFine heap n (MethodObject v method) = IsPlain heap v × HasMethod heap.objects v method
  IsFine heap n (RangeObject start stop step) = Unit {0}
  IsFine heap n (ModuleObject name names) = IsModule heap n name names

  -- each object holds what it should, and all together have no more cells than are used
  pub record AreFine (heap : PlainHeap) : Type 0 where
    pub cells : object_cells heap.objects ≤ length heap.objects
    pub fine : (n : ℕ) (o : Object Val (List ℕ)) → object heap.objects n ≡ Some o → IsFine heap n o

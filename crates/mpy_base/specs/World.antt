-- The world of a program: its objects, the modules that are registered, its ports and its output. V is the type of
-- values and N that of names. An arena has values of its own and names by number; the meaning of programs has plain
-- values, and names by their bytes. Both number an object by the cells that were used when it was made.
use Rattle.std.specs.Prelude.{◌≡◌, ℕ, ℤ, List, [], Option, Some, None, slice_index_or, slice_set}
use Rattle.mpy_base.specs.declared.builtin.Builtin.{Builtin}
use Rattle.mpy_base.specs.declared.kind.Kind.{Kind}

-- an object, over values and names of these types
pub data Object (V N : Type 0) : Type 0 where
  ListObject : (items : List V) → (room : ℕ) → Object V N
  TupleObject : (items : List V) → Object V N
  TextObject : (bytes : List ℕ) → Object V N
  -- the pairs in the order of insertion
  DictObject : (pairs : List (V × V)) → (room : ℕ) → Object V N
  -- names is the number of the dict that its module's names stand in
  FunctionObject : (name : N) → (module_name : N) → (code names : ℕ) → (defaults : V) → Object V N
  -- where it was raised last: a file, a line and the name of a frame
  ExceptionObject : (kind : Kind) → (args : V) → (file : N) → (line : ℕ) → (name : N) → Object V N
  MethodObject : (object : V) → (method : Builtin) → Object V N
  RangeObject : (start stop step : ℤ) → Object V N
  -- a new module has no dict of names yet
  ModuleObject : (name : N) → (names : Option ℕ) → Object V N

-- the kinds of objects
pub data ObjectKind : Type 0 where
  AList ATuple AText ADict AFunction AnException AMethod ARange AModule : ObjectKind

-- the objects by their numbers. Other numbers have None
abbrev pub Objects : Type 0 → Type 0 → Type 0
Objects V N = List (Option (Object V N))

-- a number more for each cell that is used
pub record Heap (V N : Type 0) : Type 0 where
  pub objects : List (Option (Object V N))
  -- the bytes of texts that are used
  pub bytes : ℕ
  pub cell_size : ℕ
  pub byte_size : ℕ

-- what a port tells: the answers that no get has taken yet, the numbers that were put, how many puts and gets were made,
-- and the numbers of those that fail, counted from 0
pub record PortState : Type 0 where
  pub pending : List ℤ
  pub written : List ℤ
  pub calls : ℕ
  pub failing : List ℕ

-- the world of a program
pub record World (V N : Type 0) : Type 0 where
  pub heap : Heap V N
  -- the registered modules in the order of registering, each with the number of its object
  pub modules : List (N × ℕ)
  pub ports : List PortState
  pub output : List ℕ

-- the kind of an object
abbrev pub kind_of : {V N : Type 0} → Option (Object V N) → Option ObjectKind
kind_of None = None
kind_of (Some (ListObject items room)) = Some AList
kind_of (Some (TupleObject items)) = Some ATuple
kind_of (Some (TextObject bytes)) = Some AText
kind_of (Some (DictObject pairs room)) = Some ADict
kind_of (Some (FunctionObject name module_name code names defaults)) = Some AFunction
kind_of (Some (ExceptionObject kind args file line name)) = Some AnException
kind_of (Some (MethodObject value method)) = Some AMethod
kind_of (Some (RangeObject start stop step)) = Some ARange
kind_of (Some (ModuleObject name names)) = Some AModule

-- the object of the number, if there is one
abbrev pub object : {V N : Type 0} → Objects V N → ℕ → Option (Object V N)
object objects n = slice_index_or objects n None

-- the object of this number is of this kind
abbrev pub IsA : {V N : Type 0} → Objects V N → ObjectKind → ℕ → Type 0
IsA objects kind n = kind_of (object objects n) ≡ Some kind

-- what was of a kind still is
pub record Later {V N : Type 0} (old new : Objects V N) : Type 0 where
  pub keeps : (kind : ObjectKind) (n : ℕ) → IsA old kind n → IsA new kind n

-- the items of a list or tuple
abbrev pub items_of : {V N : Type 0} → Option (Object V N) → List V
items_of (Some (ListObject items room)) = items
items_of (Some (TupleObject items)) = items
items_of _ = []

-- the room of a list or dict
abbrev pub room_of : {V N : Type 0} → Option (Object V N) → ℕ
room_of (Some (ListObject items room)) = room
room_of (Some (DictObject pairs room)) = room
room_of _ = 0

-- the bytes of a text that was made
abbrev pub text_of : {V N : Type 0} → Option (Object V N) → List ℕ
text_of (Some (TextObject bytes)) = bytes
text_of _ = []

-- the pairs of a dict
abbrev pub pairs_of : {V N : Type 0} → Option (Object V N) → List (V × V)
pairs_of (Some (DictObject pairs room)) = pairs
pairs_of _ = []

-- the dict of a module's names, once it is set
abbrev pub names_of : {V N : Type 0} → Option (Object V N) → Option ℕ
names_of (Some (ModuleObject name names)) = names
names_of _ = None

-- the items of the list or tuple `n`
abbrev pub items_at : {V N : Type 0} → Heap V N → ℕ → List V
items_at heap n = items_of (object heap.objects n)

-- the room of the list or dict `n`
abbrev pub room_at : {V N : Type 0} → Heap V N → ℕ → ℕ
room_at heap n = room_of (object heap.objects n)

-- the bytes of the text `n`
abbrev pub text_at : {V N : Type 0} → Heap V N → ℕ → List ℕ
text_at heap n = text_of (object heap.objects n)

-- the pairs of the dict `n`
abbrev pub pairs_at : {V N : Type 0} → Heap V N → ℕ → List (V × V)
pairs_at heap n = pairs_of (object heap.objects n)

-- the heap with another object in the place of one
abbrev pub with_object : {V N : Type 0} → Heap V N → ℕ → Object V N → Heap V N
with_object heap n o = record heap { objects = slice_set heap.objects n (Some o) }

-- with a list that holds these items in the room that it has
abbrev pub with_list : {V N : Type 0} → Heap V N → ℕ → List V → Heap V N
with_list heap n items = with_object heap n (ListObject items (room_at heap n))

-- with a tuple of these items
abbrev pub with_tuple : {V N : Type 0} → Heap V N → ℕ → List V → Heap V N
with_tuple heap n items = with_object heap n (TupleObject items)

-- with a text of these bytes
abbrev pub with_text : {V N : Type 0} → Heap V N → ℕ → List ℕ → Heap V N
with_text heap n bytes = with_object heap n (TextObject bytes)

-- with a dict that has these pairs in the room that it has
abbrev pub with_dict : {V N : Type 0} → Heap V N → ℕ → List (V × V) → Heap V N
with_dict heap n pairs = with_object heap n (DictObject pairs (room_at heap n))

-- an exception that was raised here, and no other object
abbrev pub placed : {V N : Type 0} → Option (Object V N) → N → ℕ → N → Option (Object V N)
placed (Some (ExceptionObject kind args file line name)) new_file new_line new_name = Some (ExceptionObject kind args new_file new_line new_name)
placed other new_file new_line new_name = other

-- a module whose names stand in this dict, and no other object
abbrev pub named : {V N : Type 0} → Option (Object V N) → ℕ → Option (Object V N)
named (Some (ModuleObject name names)) new_names = Some (ModuleObject name (Some new_names))
named other new_names = other

-- with the exception `n` at that place
abbrev pub with_place : {V N : Type 0} → Heap V N → ℕ → N → ℕ → N → Heap V N
with_place heap n file line name =
    record heap { objects = slice_set heap.objects n (placed (object heap.objects n) file line name) }

-- with the module `n`, whose names stand in the dict `names`
abbrev pub with_names : {V N : Type 0} → Heap V N → ℕ → ℕ → Heap V N
with_names heap n names = record heap { objects = slice_set heap.objects n (named (object heap.objects n) names) }

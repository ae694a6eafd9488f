-- What the values and objects of an arena keep.
use Rattle.std.specs.Prelude.{◌≡◌, ◌≢◌, ℕ, ℤ, pos, neg_ℤ, ◌^◌, ◌<◌, ◌≤◌, ◌≤ℤ◌, ◌<ℤ◌, length, List, [], ◌∷◌, ◌++◌, Option, Some, None, map, All}
use Rattle.qstr_pool.specs.mpy_base.declared.builtin.Builtin.{Builtin}
use Rattle.qstr_pool.specs.mpy_base.declared.builtin.Builtin.TheVariants as builtins
use Rattle.arena_heap.specs.declared.value.Value.{Value}
use Rattle.arena_heap.specs.declared.value.Value.TheVariants as values
use Rattle.arena_heap.specs.declared.value.ObjectNo.{ObjectNo}
use Rattle.arena_heap.specs.declared.value.ObjectNo.TheVariants as numbers
use Rattle.qstr_pool.specs.mpy_base.World.{Object, ListObject, TupleObject, TextObject, DictObject, FunctionObject}
use Rattle.qstr_pool.specs.mpy_base.World.{ExceptionObject, MethodObject, RangeObject, ModuleObject, Objects, ObjectKind, AList}
use Rattle.qstr_pool.specs.mpy_base.World.{ATuple, AText, ADict, AFunction, AnException, AMethod, ARange, AModule, object, IsA}
use Rattle.qstr_pool.specs.mpy_base.Weights.{IsRoom}

-- an object of an arena: it has these values, and names by number
abbrev pub ArenaObject : Type 0
ArenaObject = Object Value ℕ

-- the number that a value holds, and the kind of object that it is to lead to
abbrev pub needs : Value → Option (ObjectKind × ℕ)
needs (values.List l) = Some (AList, l.cell)
needs (values.Dict d) = Some (ADict, d.cell)
needs (values.Tuple t) = Some (ATuple, t.cell)
needs (values.Text t) = Some (AText, t.cell)
needs (values.Fun f) = Some (AFunction, f.cell)
needs (values.Exc e) = Some (AnException, e.cell)
needs (values.Method m) = Some (AMethod, m.cell)
needs (values.Range r) = Some (ARange, r.cell)
needs (values.Module m) = Some (AModule, m.cell)
needs _ = None

-- an object of that kind has that number
abbrev pub Meets : Objects Value ℕ → Option (ObjectKind × ℕ) → Type 0
Meets objects None = Unit {0}
Meets objects (Some p) = IsA objects p.0 p.1

-- from -2^30 to 2^30 - 1
abbrev pub IsSmall : ℤ → Type 0
IsSmall z = (neg_ℤ (pos (2 ^ 30)) ≤ℤ z) × (z <ℤ pos (2 ^ 30))

-- a whole number is small
abbrev pub HasSmall : Value → Type 0
HasSmall (values.Int z) = IsSmall z
HasSmall _ = Unit {0}

-- a typed number in the value leads to an object of its kind, and a whole number is small
pub record Leads (objects : Objects Value ℕ) (v : Value) : Type 0 where
  pub meets : Meets objects (needs v)
  pub small : HasSmall v

-- a tuple: the empty one, a constant, or one that was made
abbrev pub IsTuple : Value → Type 0
IsTuple values.Empty = Unit {0}
IsTuple (values.Fixed c) = Unit {0}
IsTuple (values.Tuple t) = Unit {0}
IsTuple _ = ⊥

-- a str: a text of a file, or one that was made
abbrev pub IsStr : Value → Type 0
IsStr (values.Str s) = Unit {0}
IsStr (values.Text t) = Unit {0}
IsStr _ = ⊥

-- a list
abbrev pub IsList : Value → Type 0
IsList (values.List l) = Unit {0}
IsList _ = ⊥

-- a dict
abbrev pub IsDict : Value → Type 0
IsDict (values.Dict d) = Unit {0}
IsDict _ = ⊥

-- what a dict may have as a key
abbrev pub IsKey : Value → Type 0
IsKey values.None = Unit {0}
IsKey (values.Bool b) = Unit {0}
IsKey (values.Int z) = Unit {0}
IsKey v = IsStr v

-- the defaults of a function: a tuple, or None where it has none
abbrev pub IsDefaults : Value → Type 0
IsDefaults values.None = Unit {0}
IsDefaults v = IsTuple v

-- a method, and an object of its type
abbrev pub IsMethodOf : Builtin → Value → Type 0
IsMethodOf builtins.ListAppend v = IsList v
IsMethodOf builtins.ListPop v = IsList v
IsMethodOf builtins.ListInsert v = IsList v
IsMethodOf builtins.ListExtend v = IsList v
IsMethodOf builtins.DictGet v = IsDict v
IsMethodOf builtins.DictKeys v = IsDict v
IsMethodOf builtins.DictValues v = IsDict v
IsMethodOf builtins.DictItems v = IsDict v
IsMethodOf builtins.DictPop v = IsDict v
IsMethodOf builtins.StrJoin v = IsStr v
IsMethodOf builtins.StrFind v = IsStr v
IsMethodOf builtins.StrStartsWith v = IsStr v
IsMethodOf builtins.StrSplit v = IsStr v
IsMethodOf _ v = ⊥

-- the values of an object, its typed numbers and its whole numbers among them
abbrev pub held : Option ArenaObject → List Value
held None = []
held (Some (ListObject items room)) = items
held (Some (TupleObject items)) = items
held (Some (TextObject bytes)) = []
held (Some (DictObject pairs room)) = map (λ p. p.0) pairs ++ map (λ p. p.1) pairs
held (Some (FunctionObject name module_name code names defaults)) = values.Dict (record { cell = names }) ∷ defaults ∷ []
held (Some (ExceptionObject kind args file line name)) = args ∷ []
held (Some (MethodObject v method)) = v ∷ []
held (Some (RangeObject start stop step)) = values.Int start ∷ values.Int stop ∷ values.Int step ∷ []
held (Some (ModuleObject name None)) = []
held (Some (ModuleObject name (Some names))) = values.Dict (record { cell = names }) ∷ []

-- the parts of an object are of their types
abbrev pub IsFormed : Option ArenaObject → Type 0
IsFormed (Some (TextObject bytes)) = All (λ b. b < 128) bytes
IsFormed (Some (DictObject pairs room)) = All IsKey (map (λ p. p.0) pairs)
IsFormed (Some (FunctionObject name module_name code names defaults)) = IsDefaults defaults
IsFormed (Some (ExceptionObject kind args file line name)) = IsTuple args
IsFormed (Some (MethodObject v method)) = IsMethodOf method v
IsFormed (Some (RangeObject start stop step)) = step ≢ pos 0
IsFormed _ = Unit {0}

-- each object is formed, and its values lead to objects of their kinds
pub record Sound (objects : Objects Value ℕ) : Type 0 where
  pub leads : (n : ℕ) → All (Leads objects) (held (object objects n))
  pub formed : (n : ℕ) → IsFormed (object objects n)

-- a list or dict holds no more than its room
abbrev pub IsWithinRoom : Option ArenaObject → Type 0
IsWithinRoom (Some (ListObject items room)) = length items ≤ room
IsWithinRoom (Some (DictObject pairs room)) = length pairs ≤ room
IsWithinRoom _ = Unit {0}

-- the room of a list or dict is one that such an object gets: 4, 8, 16 ..
abbrev pub HasOwnRoom : Option ArenaObject → Type 0
HasOwnRoom (Some (ListObject items room)) = IsRoom room
HasOwnRoom (Some (DictObject pairs room)) = IsRoom room
HasOwnRoom _ = Unit {0}

-- a list, a tuple or a dict has fewer than 2^32 items
abbrev pub HasFew : Option ArenaObject → Type 0
HasFew (Some (ListObject items room)) = length items < 2 ^ 32
HasFew (Some (TupleObject items)) = length items < 2 ^ 32
HasFew (Some (DictObject pairs room)) = length pairs < 2 ^ 32
HasFew _ = Unit {0}

-- the object that begins at a cell has this number, and is of its kind
abbrev pub BeginsAt : Objects Value ℕ → ℕ → ObjectNo → Type 0
BeginsAt objects n (numbers.List l) = (l.cell ≡ n) × IsA objects AList l.cell
BeginsAt objects n (numbers.Dict d) = (d.cell ≡ n) × IsA objects ADict d.cell
BeginsAt objects n (numbers.Tuple t) = (t.cell ≡ n) × IsA objects ATuple t.cell
BeginsAt objects n (numbers.Text t) = (t.cell ≡ n) × IsA objects AText t.cell
BeginsAt objects n (numbers.Fun f) = (f.cell ≡ n) × IsA objects AFunction f.cell
BeginsAt objects n (numbers.Exc e) = (e.cell ≡ n) × IsA objects AnException e.cell
BeginsAt objects n (numbers.Method m) = (m.cell ≡ n) × IsA objects AMethod m.cell
BeginsAt objects n (numbers.Range r) = (r.cell ≡ n) × IsA objects ARange r.cell
BeginsAt objects n (numbers.Module m) = (m.cell ≡ n) × IsA objects AModule m.cell

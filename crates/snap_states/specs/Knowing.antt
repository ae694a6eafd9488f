-- What is known of a library and a snapshot while conditions are decided.
use Rattle.std.specs.Prelude.{◌≡◌, ◌↔◌, ◌⊎◌, ℕ, ◌<◌, ◌||◌, if◌then◌else◌, nat_eq, Bool, true, false, List, [], length, Option}
use Rattle.std.specs.Prelude.{Some, None, IsTrue, slice_get, option_and_then}
use Rattle.std.specs.List.{filter_map, flat_map, list_any}
use Rattle.std.specs.Str.{bytes_eq}
use Rattle.arena_heap.specs.declared.value.StrNo.TheVariants as strs
use Rattle.arena_heap.specs.declared.value.ConstNo.{ConstNo}
use Rattle.mpy_base.specs.World.{ObjectKind, AList, ATuple, AText, ADict, AFunction, AnException, AMethod, ARange, AModule}
use Rattle.bc_library.specs.Constants.{bytes_in, preorder_to, text_at}
use Rattle.bc_library.specs.mpy_tree.declared.module.Constant.{Constant, out-Constant}
use Rattle.bc_library.specs.mpy_tree.Raw.{Module}
use Rattle.mpy_base.specs.declared.limits.TheConstants.{MAX_DEPTH}
use Rattle.bc_library.specs.Shelf.{Shelf, module_at}
use Rattle.snap_grammar.specs.declared.parts.PairPart.{PairPart}
use Rattle.snap_grammar.specs.declared.parts.ObjectPart.{ObjectPart}
use Rattle.snap_grammar.specs.declared.parts.ObjectPart.TheVariants as objects
use Rattle.snap_states.specs.declared.kinds.PartKind.{PartKind}
use Rattle.snap_states.specs.declared.kinds.PartKind.TheVariants as kinds
use Rattle.snap_states.specs.declared.owners.Owner.{Owner}
use Rattle.snap_states.specs.declared.owners.Owner.TheVariants as owners
use Rattle.snap_grammar.specs.declared.parts.Snapshot.{Snapshot}
use Rattle.snap_grammar.specs.declared.parts.ValuePart.{ValuePart}
use Rattle.snap_grammar.specs.declared.parts.ValuePart.TheVariants as parts
use Rattle.mpy_base.specs.declared.builtin.Builtin.{Builtin}
use Rattle.snap_states.specs.declared.known.Known.{Known}
use Rattle.snap_states.specs.Parts.{method_of}
use Rattle.snap_states.specs.States.{IsNamespace, IsPlain, tuple_count, kind_of_part, key_in_part, registered_name}

-- sets of texts
-- =============

-- a text is among these
abbrev pub holds : List (List ℕ) → List ℕ → Bool
holds texts text = list_any (bytes_eq text) texts

-- kinds
-- =====

-- the kind of objects that a kind of parts is
abbrev pub object_kind : PartKind → ObjectKind
object_kind kinds.List = AList
object_kind kinds.Dict = ADict
object_kind kinds.Tuple = ATuple
object_kind kinds.Text = AText
object_kind kinds.Function = AFunction
object_kind kinds.Exception = AnException
object_kind kinds.Method = AMethod
object_kind kinds.Range = ARange
object_kind kinds.Module = AModule

-- the value is an object of the method's type
pub record IsReceiver (s : Snapshot) (method : Builtin) (v : ValuePart) : Type 0 where
  pub kind : ObjectKind
  pub method_is : method_of method ≡ Some kind
  pub value_is : kind_of_part s v ≡ Some kind

-- constants
-- =========

-- the strs among constants and the items of their tuples, to that number of levels of tuples
abbrev pub strs_to : ℕ → List Constant → List (List ℕ)
strs_to levels objects = filter_map (λ object. bytes_in (out-Constant object)) (flat_map (preorder_to levels) objects)

-- the strs among the constants of a module, none where there is no module
abbrev pub strs_by : Option Module → List (List ℕ)
strs_by None = []
strs_by (Some m) = strs_to MAX_DEPTH m.objects

-- the strs among the constants of the module of a number
abbrev pub strs_at : Shelf → ℕ → List (List ℕ)
strs_at shelf number = strs_by (module_at shelf number)

-- the same of one constant
abbrev pub str_in : ℕ → Constant → List (List ℕ)
str_in levels object = filter_map (λ o. bytes_in (out-Constant o)) (preorder_to levels object)

-- the new set holds besides what the old one does just these
abbrev pub Adds : (old new more : List (List ℕ)) → Type 0
Adds old new more = (text : List ℕ) → holds new text ≡ (holds old text || holds more text)

-- a str among the constants of a module
pub record IsModuleStr (shelf : Shelf) (text : List ℕ) : Type 0 where
  pub constant : ConstNo
  pub is : text_at shelf (strs.Object constant) ≡ Some text

-- namespaces
-- ==========

-- the object is a module whose names stand in the dict of this number
abbrev pub names_it : ObjectPart → ℕ → Bool
names_it (objects.Module name names) number = nat_eq names number
names_it _ number = false

-- such a module stands at this place
abbrev pub Names : List ObjectPart → ℕ → ℕ → Type 0
Names all m number = (o : ObjectPart) × (slice_get all m ≡ Some o) × (names_it o number ≡ true)

-- one module more
abbrev pub owner_with : Owner → Owner
owner_with owners.Nobody = owners.One
owner_with owners.One = owners.Several
owner_with owners.Several = owners.Several

-- one module more, where the object is one for this dict
abbrev pub owned_by : ObjectPart → ℕ → Owner → Owner
owned_by o number owner = if names_it o number then owner_with owner else owner

-- as many of the objects in front of the limit are modules for this dict
abbrev pub IsOwnedBelow : List ObjectPart → (limit number : ℕ) → Owner → Type 0
IsOwnedBelow all limit number owners.Nobody = (m : ℕ) → m < limit → Names all m number → ⊥
IsOwnedBelow all limit number owners.One = (m : ℕ) × (m < limit) × Names all m number × ((k : ℕ) → k < limit → Names all k number → k ≡ m)
IsOwnedBelow all limit number owners.Several = (a b : ℕ) × (a < b) × (b < limit) × Names all a number × Names all b number

-- an owner for each object, as the objects in front of the limit have it
pub record AreOwnersBelow (all : List ObjectPart) (limit : ℕ) (owners : List Owner) : Type 0 where
  pub as_many : length owners ≡ length all
  pub each : (number : ℕ) (owner : Owner) → slice_get owners number ≡ Some owner → IsOwnedBelow all limit number owner

-- an owner for each object
abbrev pub AreOwners : List ObjectPart → List Owner → Type 0
AreOwners all owners = AreOwnersBelow all (length all) owners

-- functions
-- =========

-- the namespace and the defaults of a function whose code has so many
pub record HasParts (shelf : Shelf) (s : Snapshot) (count names : ℕ) (defaults : ValuePart) : Type 0 where
  pub namespace : IsNamespace s names
  pub plain : IsPlain shelf s defaults
  pub as_many : (defaults ≡ parts.None) ⊎ (tuple_count shelf s defaults ≡ Some count)

-- the whole
-- =========

-- what is known is of this library and this snapshot
pub record IsKnown (known : Known) : Type 0 where
  pub rows : known.rows.now ≡ known.library.now
  pub owners : AreOwners known.snapshot.now.objects known.owners.items
  pub strs : (text : List ℕ) → IsTrue (holds known.strs text) ↔ IsModuleStr known.library.now text

-- keys
-- ====

-- no two of the first pairs have one key
abbrev pub AreOnce : Snapshot → List PairPart → (limit : ℕ) → Type 0
AreOnce s pairs limit = (i j : ℕ) → i < j → j < limit → key_in_part s pairs i ≡ key_in_part s pairs j → ⊥

-- no two of these module objects have one name
abbrev pub HaveOnce : Snapshot → List ℕ → Type 0
HaveOnce s numbers = (i j m n : ℕ) → i < j → slice_get numbers i ≡ Some m → slice_get numbers j ≡ Some n → registered_name s m ≡ registered_name s n → ⊥

-- the name of the registered module at a place
abbrev pub registered_at : Snapshot → List ℕ → ℕ → Option (List ℕ)
registered_at s numbers i = option_and_then (registered_name s) (slice_get numbers i)

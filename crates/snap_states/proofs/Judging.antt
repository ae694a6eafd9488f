-- What the tests of values and objects say.
use Rattle.std.proofs.Common.{◌≡◌, ℕ, ◌<◌, ◌↔◌, not, Bool, true, false, zero, suc, List, ◌∷◌, length, get_or, Option, Some, None, IsTrue, refl, sym, ap, subst, ◌∙◌, arith}
use Rattle.std.specs.Prelude.{Contains, is_none, is_some, position}
use Rattle.std.specs.List.{list_any}
use Rattle.std.specs.Str.{bytes_eq}
use Rattle.std.specs.Option.{option_map}
use Rattle.std.proofs.lemmas.Bool.{false≢true}
use Rattle.std.proofs.lemmas.List.Folds.{list_any_at}
use Rattle.std.proofs.lemmas.Option.{slice_get_within, get_or_from_slice_get}
use Rattle.std.proofs.lemmas.Slice.Eq.{bytes_eq-Decides}
use Rattle.qstr_pool.proofs.Places.{absent, found}
use Rattle.mpy_base.specs.declared.builtin.Builtin.{Builtin}
use Rattle.mpy_base.specs.declared.kind.Kind.{Kind}
use Rattle.mpy_base.specs.Kind.{kind_name}
use Rattle.mpy_base.specs.World.{ObjectKind, AList, ATuple, AText, ADict, AFunction, AnException, AMethod, ARange, AModule}
use Rattle.mpy_base.specs.Weights.{IsRoom, IsRoomFor, room_for}
use Rattle.snap_grammar.specs.declared.parts.Snapshot.{Snapshot}
use Rattle.snap_grammar.specs.declared.parts.ValuePart.{ValuePart}
use Rattle.arena_heap.specs.declared.value.StrNo.{StrNo}
use Rattle.arena_heap.specs.declared.value.StrNo.TheVariants as strs
use Rattle.bc_library.specs.Constants.{text_at}
use Rattle.bc_library.specs.declared.fault.Member.TheVariants as members
use Rattle.bc_library.specs.Shelf.{Shelf, member_by, member_of, names}
use Rattle.snap_states.specs.declared.kinds.PartKind.{PartKind}
use Rattle.snap_states.specs.declared.kinds.PartKind.TheVariants as kinds
use Rattle.snap_states.specs.Decoded.{builtin_called, kind_called}
use Rattle.snap_states.specs.Knowing.{IsModuleStr, IsReceiver, holds, object_kind}
use Rattle.snap_states.specs.Parts.{method_of}
use Rattle.snap_states.specs.States.{IsBound, IsBuiltin, IsConstant, IsName, IsPlain}
use Rattle.snap_states.proofs.Calling.{builtin_named, builtin_only, kind_named, kind_only}

-- kinds
-- =====

kind_back : ObjectKind → PartKind
kind_back AList = kinds.List
kind_back ADict = kinds.Dict
kind_back ATuple = kinds.Tuple
kind_back AText = kinds.Text
kind_back AFunction = kinds.Function
kind_back AnException = kinds.Exception
kind_back AMethod = kinds.Method
kind_back ARange = kinds.Range
kind_back AModule = kinds.Module

there_and_back : (k : PartKind) → kind_back (object_kind k) ≡ k
unfolding kind_back
there_and_back kinds.List = refl
there_and_back kinds.Dict = refl
there_and_back kinds.Tuple = refl
there_and_back kinds.Text = refl
there_and_back kinds.Function = refl
there_and_back kinds.Exception = refl
there_and_back kinds.Method = refl
there_and_back kinds.Range = refl
there_and_back kinds.Module = refl

-- kinds of parts that are one kind of objects are one
pub same_kind : (a b : PartKind) → object_kind a ≡ object_kind b → a ≡ b
same_kind a b e = sym (there_and_back a) ∙ (ap kind_back e ∙ there_and_back b)

pub some_kind : (a b : PartKind) → Some (object_kind a) ≡ Some (object_kind b) → a ≡ b
some_kind a b e = let same : object_kind a ≡ object_kind b = cc e in same_kind a b same

-- built-ins
-- =========

pub some_one : {A : Type 0} {a b : A} → Some a ≡ Some b → a ≡ b
some_one e = cc e

none_mapped : (o : Option PartKind) → option_map object_kind o ≡ None → is_none o ≡ true
none_mapped None e = refl
none_mapped (Some k) e = absurd cc

mapped_none : (o : Option PartKind) → is_none o ≡ true → option_map object_kind o ≡ None
mapped_none None e = refl
mapped_none (Some k) e = absurd (false≢true e)

-- a test that nothing is there
pub none_tested : (o : Option PartKind) (r : Bool) → is_some o ≡ not r → r ≡ is_none o
none_tested None true e = refl
none_tested None false e = absurd (false≢true e)
none_tested (Some k) true e = absurd (false≢true (sym e))
none_tested (Some k) false e = refl

-- the found built-in is no method
pub found_builtin : (name : List ℕ) (b : Builtin) (o : Option PartKind) (r : Bool) → builtin_called name ≡ Some b → option_map object_kind o ≡ method_of b → r ≡ is_none o → IsTrue r ↔ IsBuiltin name
found_builtin name b o r is method test = (
  λ t. record { builtin = b; named = builtin_named name b is; free = sym method ∙ mapped_none o (sym test ∙ t) },
  λ w.
      let same : w.builtin ≡ b = some_one (sym (builtin_only name w.builtin w.named) ∙ is) in
      test ∙ none_mapped o (method ∙ (ap method_of (sym same) ∙ w.free)),
)

pub no_builtin : (name : List ℕ) → builtin_called name ≡ None → IsBuiltin name → ⊥
no_builtin name is w = let e : Some w.builtin ≡ None = sym (builtin_only name w.builtin w.named) ∙ is in cc e

module _ (shelf : Shelf) (s : Snapshot) where
  -- the found built-in is a method of the value
  pub found_method : (name : List ℕ) (v : ValuePart) (b : Builtin) → builtin_called name ≡ Some b → IsReceiver s b v → IsPlain shelf s v → IsBound shelf s name v
  found_method name v b is r plain = record { method = b; named = builtin_named name b is; kind = r.kind; method_is = r.method_is; value_is = r.value_is; plain = plain }

  pub method_found : (name : List ℕ) (v : ValuePart) (b : Builtin) → builtin_called name ≡ Some b → IsBound shelf s name v → IsReceiver s b v
  method_found name v b is w =
      let same : w.method ≡ b = some_one (sym (builtin_only name w.method w.named) ∙ is) in
      record { kind = w.kind; method_is = ap method_of (sym same) ∙ w.method_is; value_is = w.value_is }

  pub no_method : (name : List ℕ) (v : ValuePart) → builtin_called name ≡ None → IsBound shelf s name v → ⊥
  no_method name v is w = let e : Some w.method ≡ None = sym (builtin_only name w.method w.named) ∙ is in cc e

-- rooms
-- =====

-- a room is the room that a list of as many items gets
pub room_same : (room : ℕ) → IsRoomFor room (room_for room) → IsRoom room → room_for room ≡ room
room_same room law is = let le = law.least room is (omega arith) in omega (arith, le, law.holds)

pub same_room : (room : ℕ) → IsRoomFor room (room_for room) → room_for room ≡ room → IsRoom room
same_room room law e = subst IsRoom e law.is_room

-- names
-- =====

-- the found kind
pub kind_tested : (name : List ℕ) (o : Option Kind) → o ≡ kind_called name → (r : Bool) → r ≡ is_some o → IsTrue r ↔ ((kind : Kind) × (kind_name kind ≡ name))
kind_tested name None is r test = (
  λ t. absurd (false≢true (sym test ∙ t)),
  λ k. let e : Some k.0 ≡ None = sym (kind_only name k.0 k.1) ∙ sym is in absurd cc,
)
kind_tested name (Some kind) is r test = (λ t. (kind, kind_named name kind (sym is)), λ k. test)

no_one : (all : List (List ℕ)) (name : List ℕ) → position (bytes_eq name) all ≡ None → Contains all name → ⊥
no_one all name e (k, lt, is) =
    let there : list_any (bytes_eq name) all ≡ true = list_any_at (bytes_eq name) all k name lt ((bytes_eq-Decides name _).1 (sym is)) in
    let none = absent all name e in
    absurd cc

member_place : (o : Option ℕ) (b : Bool) (place : ℕ) → member_by o b ≡ Some (members.Module place) → o ≡ Some place
member_place (Some i) b place e = let same : i ≡ place = cc e in ap Some same
member_place None true place e = absurd cc
member_place None false place e = absurd cc

-- a name that leads to a module is one of theirs
pub module_named : (shelf : Shelf) (name : List ℕ) (place : ℕ) → member_of shelf name ≡ Some (members.Module place) → Contains (names shelf) name
module_named shelf name place e =
    let at = found (names shelf) name place (member_place (position (bytes_eq name) (names shelf)) (list_any (bytes_eq name) shelf.refused) place e) in
    (place, slice_get_within (names shelf) place name at, get_or_from_slice_get (names shelf) place name name at)

place_by : (shelf : Shelf) (name : List ℕ) (o : Option ℕ) → position (bytes_eq name) (names shelf) ≡ o → Contains (names shelf) name → (place : ℕ) × (member_of shelf name ≡ Some (members.Module place))
place_by shelf name None is has = absurd (no_one (names shelf) name is has)
place_by shelf name (Some i) is has = (i, ap (λ (o : Option ℕ). member_by o (list_any (bytes_eq name) shelf.refused)) is)

pub named_place : (shelf : Shelf) (name : List ℕ) → Contains (names shelf) name → (place : ℕ) × (member_of shelf name ≡ Some (members.Module place))
named_place shelf name has = place_by shelf name (position (bytes_eq name) (names shelf)) refl has

-- one name more in front
pub first_name : {A : Type 0} (x : A) (xs : List A) (y : A) → y ≡ x → Contains (x ∷ xs) y
first_name x xs y e = (0, omega arith, sym e)

pub later_name : {A : Type 0} (x : A) (xs : List A) (y : A) → Contains xs y → Contains (x ∷ xs) y
later_name x xs y c = (suc c.0, omega (arith, c.1), c.2)

other_place : {A : Type 0} (x : A) (xs : List A) (y : A) → (y ≡ x → ⊥) → (k : ℕ) → k < length (x ∷ xs) → get_or (x ∷ xs) k y ≡ y → Contains xs y
other_place x xs y other zero lt is = absurd (other (sym is))
other_place x xs y other (suc k) lt is = (k, omega (arith, lt), is)

-- another name is one of the others
pub other_name : {A : Type 0} (x : A) (xs : List A) (y : A) → (y ≡ x → ⊥) → Contains (x ∷ xs) y → Contains xs y
other_name x xs y other c = other_place x xs y other c.0 c.1 c.2

-- a constant str that is no name is one of a module
constant_by : (shelf : Shelf) (text : List ℕ) → (IsName shelf text → ⊥) → (c : StrNo) → text_at shelf c ≡ Some text → IsModuleStr shelf text
constant_by shelf text never (strs.Pool n) is = absurd (never (n, is))
constant_by shelf text never (strs.Object c) is = record { constant = c; is = is }

pub constant_split : (shelf : Shelf) (text : List ℕ) → (IsName shelf text → ⊥) → (set : List (List ℕ)) → IsTrue (holds set text) ↔ IsModuleStr shelf text → (r : Bool) → r ≡ holds set text → IsTrue r ↔ IsConstant shelf text
constant_split shelf text never set knows r test = (
  λ t. let m = knows.0 (sym test ∙ t) in (strs.Object m.constant, m.is),
  λ c. test ∙ knows.1 (constant_by shelf text never c.0 c.1),
)

-- Outcomes that make no visits.
use Rattle.std.proofs.Common.{◌≡◌, ℕ, ℤ, List, [], ◌∷◌, Bool, true, false, cond, Option, Some, None, Result, Ok, Err, refl, arith, min}
use Rattle.std.specs.Prelude.{is_some, codes}
use Rattle.mpy_base.specs.World.{Object, ListObject, TupleObject, TextObject, ExceptionObject}
use Rattle.mpy_base.specs.Weights.{used, does_fit, cells_of, bytes_of, with_made, room_for}
use Rattle.mpy_base.specs.Val.{Val, At}
use Rattle.mpy_base.specs.declared.kind.Kind.{Kind}
use Rattle.prim_types.specs.py_values.declared.small_int.NumFault.{NumFault}
use Rattle.prim_types.specs.py_values.Shown.{PlainHeap, Shown, Nothing, Number, Text, Tuple, Items, Pairs, Range, Other}
use Rattle.prim_types.specs.py_values.Names.{type_name}
use Rattle.prim_types.specs.py_values.Keys.{key_of}
use Rattle.prim_types.specs.py_primitives.Faults as plain
use Rattle.prim_types.specs.py_primitives.Outcome.{Outcome, Stop, gives, raises, is_full, go_on_with, followed_by, making, making_text, making_tuple, making_texts, making_exception, list_of}
use Rattle.prim_types.specs.py_primitives.Operators.{gives_number, with_key_of}
use Rattle.prim_types.specs.py_primitives.Calls.{unless_fault, of_number}

-- no visits are none at most
pub nothing : (visits most : ℕ) → visits ≡ 0 → 0 ≡ min visits most
nothing visits most none = omega (arith, none)

pub either_free : {A : Type 0} (b : Bool) (x y : Outcome A) → x.visits ≡ 0 → y.visits ≡ 0 → (cond b x y).visits ≡ 0
either_free true x y one two = one
either_free false x y one two = two

pub unless_free : {A : Type 0} (heap : PlainHeap) (fault : Option plain.Fault) (next : Outcome A) → next.visits ≡ 0 → (unless_fault heap fault next).visits ≡ 0
unless_free heap None next free = free
unless_free heap (Some fault) next free = refl

pub number_free : {A : Type 0} (heap : PlainHeap) (v : Val) (s : Shown) (next : ℤ → Outcome A) → ((z : ℤ) → (next z).visits ≡ 0) → (of_number heap v s next).visits ≡ 0
number_free heap v (Number z) next free = free z
number_free heap v Nothing next free = refl
number_free heap v (Text bytes) next free = refl
number_free heap v (Tuple items) next free = refl
number_free heap v (Items items) next free = refl
number_free heap v (Pairs pairs) next free = refl
number_free heap v (Range start stop step) next free = refl
number_free heap v Other next free = refl

pub gives_free : (heap : PlainHeap) (answer : Result ℤ NumFault) → (gives_number heap answer).visits ≡ 0
gives_free heap (Ok z) = refl
gives_free heap (Err fault) = refl

pub key_free : {A : Type 0} (heap : PlainHeap) (key : Val) (next : Outcome A) → next.visits ≡ 0 → (with_key_of heap key next).visits ≡ 0
key_free heap key next free = either_free (is_some (key_of heap key)) next (raises (plain.UnsupportedOne (codes "__hash__") (type_name heap key)) heap) free refl

-- makings
-- =======

go_free : {A B : Type 0} (answer : Result A Stop) (heap : PlainHeap) (visits : ℕ) (next : A → PlainHeap → Outcome B) → visits ≡ 0 → ((a : A) (h : PlainHeap) → (next a h).visits ≡ 0)
    → (go_on_with answer heap visits next).visits ≡ 0
go_free (Ok a) heap visits next none free = let after = free a heap in omega arith
go_free (Err stop) heap visits next none free = none

pub followed_free : {A B : Type 0} (first : Outcome A) (next : A → PlainHeap → Outcome B) → first.visits ≡ 0 → ((a : A) (h : PlainHeap) → (next a h).visits ≡ 0) → (followed_by first next).visits ≡ 0
followed_free first next none free = go_free first.answer first.heap first.visits next none free

pub making_free : (heap : PlainHeap) (o : Object Val (List ℕ)) → (making heap o).visits ≡ 0
making_free heap o = either_free (does_fit heap (cells_of o) (bytes_of o)) (gives (At (used heap)) (with_made heap o)) (is_full heap (cells_of o) (bytes_of o)) refl refl

pub text_free : (heap : PlainHeap) (bytes : List ℕ) → (making_text heap bytes).visits ≡ 0
text_free heap [] = refl
text_free heap (byte ∷ bytes) = making_free heap (TextObject (byte ∷ bytes))

tuple_free : (heap : PlainHeap) (items : List Val) → (making_tuple heap items).visits ≡ 0
tuple_free heap [] = refl
tuple_free heap (item ∷ items) = making_free heap (TupleObject (item ∷ items))

pub texts_free : (heap : PlainHeap) (texts : List (List ℕ)) → (making_texts heap texts).visits ≡ 0
texts_free heap [] = refl
texts_free heap (text ∷ texts) =
    followed_free (making_text heap text) _ (text_free heap text) (λ v behind. followed_free (making_texts behind texts) _ (texts_free behind texts) (λ vs last. refl))

pub list_free : (heap : PlainHeap) (count : ℕ) (kept : PlainHeap → Outcome (List Val)) → ((h : PlainHeap) → (kept h).visits ≡ 0) → (list_of heap count kept).visits ≡ 0
list_free heap count kept free =
    followed_free (making heap (ListObject [] (room_for count))) _ (making_free heap (ListObject [] (room_for count)))
    (λ made behind. followed_free (kept behind) _ (free behind) (λ items last. refl))

pub exception_free : (heap : PlainHeap) (kind : Kind) (items : List Val) → (making_exception heap kind items).visits ≡ 0
exception_free heap kind items = followed_free (making_tuple heap items) _ (tuple_free heap items) (λ args behind. making_free behind (ExceptionObject kind args [] 0 []))

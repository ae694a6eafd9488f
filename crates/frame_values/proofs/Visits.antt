-- Primitives that make no visits.
use Rattle.std.proofs.Common.{◌≡◌, ℕ, ℤ, List, [], ◌∷◌, ◌++◌, length, map, Bool, true, false, cond, Option, Some, None, Result, Ok, Err, refl, arith}
use Rattle.std.specs.Prelude.{is_some, codes, nat_lt, slice_index}
use Rattle.std.specs.List.{repeat}
use Rattle.frame_moves.specs.mpy_base.World.{Object, ListObject, TupleObject, TextObject, MethodObject, ModuleObject, object}
use Rattle.frame_moves.specs.mpy_base.Weights.{used, does_fit, cells_of, bytes_of, with_made, room_for}
use Rattle.frame_moves.specs.mpy_base.Val.{Val, Str, At}
use Rattle.prim_names.specs.prim_types.py_values.declared.small_int.NumFault.{NumFault}
use Rattle.prim_names.specs.prim_types.py_values.Shown.{PlainHeap, Shown, Number, Text, Pairs, Items, Tuple, Range, at_least_zero, shown}
use Rattle.prim_names.specs.prim_types.py_values.Names.{type_name}
use Rattle.prim_names.specs.prim_types.py_values.Keys.{key_of, value_of_key}
use Rattle.prim_names.specs.prim_types.py_primitives.Faults.{UnsupportedOne}
use Rattle.prim_names.specs.prim_types.py_primitives.Outcome.{Outcome, Stop, gives, raises, is_full, go_on_with, followed_by, making, making_text, making_tuple, making_list, making_texts}
use Rattle.prim_names.specs.prim_types.py_primitives.Iterables.{shown_item, over_items, items_in, kept_items, use_iter, item_of, place_at, length_of}
use Rattle.prim_names.specs.prim_types.py_primitives.Operators as operators
use Rattle.prim_names.specs.prim_types.py_primitives.Operators.{Operator, UnaryOperator, gives_number, binary_shown, binary, unary_shown, unary, unary_answer, number_answer, with_key_of, match_kinds, op_match, exception_kind, all_of, named_kind, members}
use Rattle.prim_names.specs.prim_types.py_primitives.Uses.{Attribute, Found, Method, Absent, attribute, gives_attribute, get_attr, set_in, set_attr, at_found, at_shown, at_place, at_key, of_key, shown_at, get_item, set_shown, set_item, delete_shown, delete_item, unpack_items, unpack}
use Rattle.prim_names.proofs.Stores.{put_visits}

either_free : {A : Type 0} (b : Bool) (x y : Outcome A) → x.visits ≡ 0 → y.visits ≡ 0 → (cond b x y).visits ≡ 0
either_free true x y one two = one
either_free false x y one two = two

-- makings
-- =======

pub making_free : (heap : PlainHeap) (o : Object Val (List ℕ)) → (making heap o).visits ≡ 0
making_free heap o = either_free (does_fit heap (cells_of o) (bytes_of o)) (gives (At (used heap)) (with_made heap o)) (is_full heap (cells_of o) (bytes_of o)) refl refl

text_free : (heap : PlainHeap) (bytes : List ℕ) → (making_text heap bytes).visits ≡ 0
text_free heap [] = refl
text_free heap (byte ∷ bytes) = making_free heap (TextObject (byte ∷ bytes))

pub tuple_free : (heap : PlainHeap) (items : List Val) → (making_tuple heap items).visits ≡ 0
tuple_free heap [] = refl
tuple_free heap (item ∷ items) = making_free heap (TupleObject (item ∷ items))

pub list_free : (heap : PlainHeap) (items : List Val) → (making_list heap items).visits ≡ 0
list_free heap items = making_free heap (ListObject items (room_for (length items)))

go_free : {A B : Type 0} (answer : Result A Stop) (heap : PlainHeap) (visits : ℕ) (next : A → PlainHeap → Outcome B) → visits ≡ 0 → ((a : A) (h : PlainHeap) → (next a h).visits ≡ 0)
    → (go_on_with answer heap visits next).visits ≡ 0
go_free (Ok a) heap visits next none free = let after = free a heap in omega arith
go_free (Err stop) heap visits next none free = none

followed_free : {A B : Type 0} (first : Outcome A) (next : A → PlainHeap → Outcome B) → first.visits ≡ 0 → ((a : A) (h : PlainHeap) → (next a h).visits ≡ 0) → (followed_by first next).visits ≡ 0
followed_free first next none free = go_free first.answer first.heap first.visits next none free

texts_free : (heap : PlainHeap) (texts : List (List ℕ)) → (making_texts heap texts).visits ≡ 0
texts_free heap [] = refl
texts_free heap (text ∷ texts) =
    followed_free (making_text heap text) _ (text_free heap text) (λ v behind. followed_free (making_texts behind texts) _ (texts_free behind texts) (λ vs last. refl))

-- attributes
-- ==========

given_free : (heap : PlainHeap) (v : Val) (name : List ℕ) (found : Attribute) → (gives_attribute heap v name found).visits ≡ 0
given_free heap v name (Found found) = refl
given_free heap v name (Method method) = making_free heap (MethodObject v method)
given_free heap v name Absent = refl

pub get_attr_free : (heap : PlainHeap) (v : Val) (name : List ℕ) → (get_attr heap v name).visits ≡ 0
get_attr_free heap v name = given_free heap v name (attribute heap v name)

in_free : (heap : PlainHeap) (o : Val) (name : List ℕ) (v : Val) (found : Option (Object Val (List ℕ))) → (set_in heap o name v found).visits ≡ 0
in_free heap o name v (Some (ModuleObject own_name (Some names))) = put_visits heap names (Str name) v
in_free heap o name v _ = refl

pub set_attr_free : (heap : PlainHeap) (o : Val) (name : List ℕ) (v : Val) → (set_attr heap o name v).visits ≡ 0
set_attr_free heap (At n) name v = in_free heap (At n) name v (object heap.objects n)
set_attr_free heap _ name v = refl

-- indexes
-- =======

found_free : {A : Type 0} (heap : PlainHeap) (v : Val) (place : Option ℕ) (next : ℕ → Outcome A) → ((at : ℕ) → (next at).visits ≡ 0) → (at_found heap v place next).visits ≡ 0
found_free heap v (Some at) next free = free at
found_free heap v None next free = refl

shown_free : {A : Type 0} (heap : PlainHeap) (v index : Val) (s : Shown) (next : ℕ → Outcome A) → ((at : ℕ) → (next at).visits ≡ 0) → (at_shown heap v index s next).visits ≡ 0
shown_free heap v index (Number z) next free = found_free heap v (place_at (length_of heap v) z) next free
shown_free heap v index _ next free = refl

place_free : {A : Type 0} (heap : PlainHeap) (v index : Val) (next : ℕ → Outcome A) → ((at : ℕ) → (next at).visits ≡ 0) → (at_place heap v index next).visits ≡ 0
place_free heap v index next free = shown_free heap v index (shown heap index) next free

key_free : {A : Type 0} (heap : PlainHeap) (key : Val) (next : Outcome A) → next.visits ≡ 0 → (with_key_of heap key next).visits ≡ 0
key_free heap key next free = either_free (is_some (key_of heap key)) next (raises (UnsupportedOne (codes "__hash__") (type_name heap key)) heap) free refl

at_key_free : {A : Type 0} (heap : PlainHeap) (key : Val) (found : Option Val) (next : Val → Outcome A) → ((v : Val) → (next v).visits ≡ 0) → (at_key heap key found next).visits ≡ 0
at_key_free heap key (Some v) next free = free v
at_key_free heap key None next free = refl

of_key_free : {A : Type 0} (heap : PlainHeap) (pairs : List (Val × Val)) (key : Val) (next : Val → Outcome A) → ((v : Val) → (next v).visits ≡ 0) → (of_key heap pairs key next).visits ≡ 0
of_key_free heap pairs key next free =
    key_free heap key (at_key heap key (value_of_key heap pairs key) next) (at_key_free heap key (value_of_key heap pairs key) next free)

one_free : (heap : PlainHeap) (at : ℕ) (s : Shown) → (shown_item heap at s).visits ≡ 0
one_free heap at (Text bytes) = text_free heap (slice_index bytes at ∷ [])
one_free heap at _ = refl

pub item_free : (heap : PlainHeap) (v : Val) (at : ℕ) → (item_of heap v at).visits ≡ 0
item_free heap v at = one_free heap at (shown heap v)

at_free : (heap : PlainHeap) (v index : Val) (s : Shown) → (shown_at heap v index s).visits ≡ 0
at_free heap v index (Pairs pairs) = of_key_free heap pairs index (λ found. gives found heap) (λ found. refl)
at_free heap v index (Text bytes) = place_free heap v index (item_of heap v) (item_free heap v)
at_free heap v index (Tuple items) = place_free heap v index (item_of heap v) (item_free heap v)
at_free heap v index (Items items) = place_free heap v index (item_of heap v) (item_free heap v)
at_free heap v index (Range start stop step) = place_free heap v index (item_of heap v) (item_free heap v)
at_free heap v index _ = refl

pub get_item_free : (heap : PlainHeap) (v index : Val) → (get_item heap v index).visits ≡ 0
get_item_free heap v index = at_free heap v index (shown heap v)

set_free : (heap : PlainHeap) (o index v : Val) (s : Shown) → (set_shown heap o index v s).visits ≡ 0
set_free heap (At n) index v (Pairs pairs) = key_free heap index _ (put_visits heap n index v)
set_free heap (At n) index v (Items items) = place_free heap (At n) index _ (λ at. refl)
set_free heap o index v _ = refl

pub set_item_free : (heap : PlainHeap) (o index v : Val) → (set_item heap o index v).visits ≡ 0
set_item_free heap o index v = set_free heap o index v (shown heap o)

delete_free : (heap : PlainHeap) (o index : Val) (s : Shown) → (delete_shown heap o index s).visits ≡ 0
delete_free heap (At n) index (Pairs pairs) = of_key_free heap pairs index _ (λ found. refl)
delete_free heap (At n) index (Items items) = place_free heap (At n) index _ (λ at. refl)
delete_free heap o index _ = refl

pub delete_item_free : (heap : PlainHeap) (o index : Val) → (delete_item heap o index).visits ≡ 0
delete_item_free heap o index = delete_free heap o index (shown heap o)

-- operators
-- =========

number_free : (heap : PlainHeap) (answer : Result ℤ NumFault) → (gives_number heap answer).visits ≡ 0
number_free heap (Ok z) = refl
number_free heap (Err fault) = refl

binary_shown_free : (heap : PlainHeap) (op : Operator) (a b : Val) (s t : Shown) → (binary_shown heap op a b s t).visits ≡ 0
binary_shown_free heap op a b (Number x) (Number y) = number_free heap (number_answer op x y)
binary_shown_free heap operators.Add a b (Text s) (Text t) = text_free heap (s ++ t)
binary_shown_free heap operators.Add a b (Tuple xs) (Tuple ys) = tuple_free heap (xs ++ ys)
binary_shown_free heap operators.Add a b (Items xs) (Items ys) = list_free heap (xs ++ ys)
binary_shown_free heap operators.Multiply a b (Text s) (Number n) = text_free heap (repeat (at_least_zero n) s)
binary_shown_free heap operators.Multiply a b (Number n) (Text s) = text_free heap (repeat (at_least_zero n) s)
binary_shown_free heap operators.Multiply a b (Tuple xs) (Number n) = tuple_free heap (repeat (at_least_zero n) xs)
binary_shown_free heap operators.Multiply a b (Number n) (Tuple xs) = tuple_free heap (repeat (at_least_zero n) xs)
binary_shown_free heap operators.Multiply a b (Items xs) (Number n) = list_free heap (repeat (at_least_zero n) xs)
binary_shown_free heap operators.Multiply a b (Number n) (Items xs) = list_free heap (repeat (at_least_zero n) xs)
binary_shown_free heap op a b _ _ = refl

pub binary_free : (heap : PlainHeap) (op : Operator) (a b : Val) → (binary heap op a b).visits ≡ 0
binary_free heap op a b = binary_shown_free heap op a b (shown heap a) (shown heap b)

unary_shown_free : (heap : PlainHeap) (op : UnaryOperator) (v : Val) (s : Shown) → (unary_shown heap op v s).visits ≡ 0
unary_shown_free heap op v (Number z) = number_free heap (unary_answer op z)
unary_shown_free heap op v _ = refl

pub unary_free : (heap : PlainHeap) (op : UnaryOperator) (v : Val) → (unary heap op v).visits ≡ 0
unary_free heap op v = unary_shown_free heap op v (shown heap v)

matched_free : (heap : PlainHeap) (kind : Option _) (kinds : Option (List _)) → (match_kinds heap kind kinds).visits ≡ 0
matched_free heap (Some kind) (Some kinds) = refl
matched_free heap _ _ = refl

pub match_free : (heap : PlainHeap) (e kinds : Val) → (op_match heap e kinds).visits ≡ 0
match_free heap e kinds = matched_free heap (exception_kind heap e) (all_of named_kind (members kinds (shown heap kinds)))

-- iterables
-- =========

over_free : {A : Type 0} (heap : PlainHeap) (v : Val) (items : Option (List Val)) (next : List Val → Outcome A) → ((items : List Val) → (next items).visits ≡ 0) → (over_items heap v items next).visits ≡ 0
over_free heap v (Some items) next free = free items
over_free heap v None next free = refl

pub use_free : (heap : PlainHeap) (v : Val) → (use_iter heap v).visits ≡ 0
use_free heap v = over_free heap v (items_in heap v) _ (λ items. refl)

kept_free : (heap : PlainHeap) (items : List Val) (s : Shown) → (kept_items heap items s).visits ≡ 0
kept_free heap items (Text bytes) = texts_free heap (map (λ byte. byte ∷ []) bytes)
kept_free heap items _ = refl

items_free : (heap : PlainHeap) (want : ℕ) (v : Val) (items : List Val) → (unpack_items heap want v items).visits ≡ 0
items_free heap want v items =
    either_free (nat_lt (length items) want) _ _ refl (either_free (nat_lt want (length items)) _ _ refl (kept_free heap items (shown heap v)))

pub unpack_free : (heap : PlainHeap) (want : ℕ) (v : Val) → (unpack heap want v).visits ≡ 0
unpack_free heap want v = over_free heap v (items_in heap v) _ (items_free heap want v)

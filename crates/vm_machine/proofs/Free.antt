-- Effects that make no visits.
use Rattle.std.proofs.Common.{◌≡◌, ℕ, zero, suc, List, [], ◌∷◌, length, map, Bool, true, false, cond, Option, Some, None, refl, arith, slice_get, if◌then◌else◌}
use Rattle.std.specs.Prelude.{ℤ, Result, Ok, Err, codes, is_some, nat_lt, slice_index, slice_set, option_and_then}
use Rattle.std.specs.List.{remove}
use Rattle.mpy_base.specs.declared.builtin.Builtin.{Builtin}
use Rattle.mpy_base.specs.World.{Object, TextObject, TupleObject, ListObject, DictObject, FunctionObject, MethodObject, ModuleObject, object, pairs_at, with_list, with_dict, with_names}
use Rattle.mpy_base.specs.Weights.{used, does_fit, cells_of, bytes_of, with_made, room_for, dict_growth, with_pairs}
use Rattle.mpy_base.specs.Val.{Val, Nil, Str, At, PlainWorld}
use Rattle.state_steps.specs.vm_frames.py_effects.py_values.Shown.{PlainHeap, Shown, Number, Text, Tuple, Items, Pairs, Range, shown}
use Rattle.state_steps.specs.vm_frames.py_effects.py_values.Keys.{key_of, with_key, value_of_key, without_key}
use Rattle.state_steps.specs.vm_frames.py_effects.py_values.Names.{type_name}
use Rattle.state_steps.specs.vm_frames.py_effects.py_values.declared.small_int.NumFault.{NumFault}
use Rattle.state_steps.specs.vm_frames.py_effects.py_primitives.Builtins.{global_named}
use Rattle.state_steps.specs.vm_frames.py_effects.py_primitives.Faults.{Fault, UnsupportedOne, UnpacksMore, UnpacksFewer}
use Rattle.state_steps.specs.vm_frames.py_effects.py_primitives.Outcome.{Outcome, Stop, gives, raises, is_full, go_on_with, followed_by, making, making_text, making_texts, making_tuple, making_list}
use Rattle.state_steps.specs.vm_frames.py_effects.py_primitives.Iterables.{items_in, over_items, kept_items, shown_item, item_of, length_of, place_at, use_iter}
use Rattle.state_steps.specs.vm_frames.py_effects.py_primitives.Operators.{UnaryOperator, Plus, Minus, Invert, with_key_of, gives_number, unary_answer, unary_shown, unary}
use Rattle.state_steps.specs.vm_frames.py_effects.py_primitives.Uses.{at_found, at_shown, at_key, of_key, shown_at, get_item, put_pair, set_shown, set_item, delete_shown, delete_item, Attribute, Found, Method, Absent, attribute, gives_attribute, get_attr, set_in, set_attr, unpack_items, unpack}
use Rattle.state_steps.specs.vm_frames.py_effects.Effect.{Effect, number_of}
use Rattle.state_steps.specs.vm_frames.py_effects.Effect as effects
use Rattle.state_steps.specs.vm_frames.py_effects.Names.{Locals, named_in, built_in, found_global, load_global, deleted_global, delete_global, local_at, assigned, load_local, looked_up, load_method, imported_from, import_from, stored_shown, store_pair}
use Rattle.state_steps.specs.vm_frames.py_effects.Calling.{Keys, bound, bind}
use Rattle.state_steps.specs.vm_frames.py_effects.Modules.{Made, registered, make_module, making_module}
use Rattle.state_steps.specs.vm_frames.bc_machine.Operations.{unary_at}

-- outcomes
-- ========

choice : {A : Type 0} (b : Bool) (x y : Outcome A) → x.visits ≡ 0 → y.visits ≡ 0 → (cond b x y).visits ≡ 0
choice true x y p q = p
choice false x y p q = q

module _ {A B : Type 0} where
  go_free : (r : Result A Stop) (heap : PlainHeap) (visits : ℕ) (next : A → PlainHeap → Outcome B) → visits ≡ 0 → ((a : A) (w : PlainHeap) → (next a w).visits ≡ 0) → (go_on_with r heap visits next).visits ≡ 0
  go_free (Ok a) heap visits next e none = omega (arith, e, none a heap)
  go_free (Err stop) heap visits next e none = e

  followed_free : (first : Outcome A) (next : A → PlainHeap → Outcome B) → first.visits ≡ 0 → ((a : A) (w : PlainHeap) → (next a w).visits ≡ 0) → (followed_by first next).visits ≡ 0
  followed_free first next e none = go_free first.answer first.heap first.visits next e none

pub making_free : (heap : PlainHeap) (o : Object Val (List ℕ)) → (making heap o).visits ≡ 0
making_free heap o = choice (does_fit heap (cells_of o) (bytes_of o)) (gives (At (used heap)) (with_made heap o)) (is_full heap (cells_of o) (bytes_of o)) refl refl

text_free : (heap : PlainHeap) (bytes : List ℕ) → (making_text heap bytes).visits ≡ 0
text_free heap [] = refl
text_free heap (byte ∷ bytes) = making_free heap (TextObject (byte ∷ bytes))

texts_free : (heap : PlainHeap) (texts : List (List ℕ)) → (making_texts heap texts).visits ≡ 0
texts_free heap [] = refl
texts_free heap (text ∷ texts) =
    followed_free (making_text heap text) _ (text_free heap text) (λ v behind. followed_free (making_texts behind texts) _ (texts_free behind texts) (λ vs last. refl))

pub tuple_free : (heap : PlainHeap) (items : List Val) → (making_tuple heap items).visits ≡ 0
tuple_free heap [] = refl
tuple_free heap (item ∷ items) = making_free heap (TupleObject (item ∷ items))

pub list_free : (heap : PlainHeap) (items : List Val) → (making_list heap items).visits ≡ 0
list_free heap items = making_free heap (ListObject items (room_for (length items)))

-- iterables
-- =========

kept_free : (heap : PlainHeap) (items : List Val) (s : Shown) → (kept_items heap items s).visits ≡ 0
kept_free heap items (Text bytes) = texts_free heap (map (λ byte. byte ∷ []) bytes)
kept_free heap items _ = refl

shown_item_free : (heap : PlainHeap) (at : ℕ) (s : Shown) → (shown_item heap at s).visits ≡ 0
shown_item_free heap at (Text bytes) = text_free heap (slice_index bytes at ∷ [])
shown_item_free heap at _ = refl

pub item_free : (heap : PlainHeap) (v : Val) (at : ℕ) → (item_of heap v at).visits ≡ 0
item_free heap v at = shown_item_free heap at (shown heap v)

over_free : {A : Type 0} (heap : PlainHeap) (v : Val) (o : Option (List Val)) (next : List Val → Outcome A) → ((items : List Val) → (next items).visits ≡ 0) → (over_items heap v o next).visits ≡ 0
over_free heap v (Some items) next h = h items
over_free heap v None next h = refl

pub iter_free : (heap : PlainHeap) (v : Val) → (use_iter heap v).visits ≡ 0
iter_free heap v = over_free heap v (items_in heap v) (λ items. gives v heap) (λ items. refl)

unpack_items_free : (heap : PlainHeap) (want : ℕ) (v : Val) (items : List Val) → (unpack_items heap want v items).visits ≡ 0
unpack_items_free heap want v items =
    choice (nat_lt (length items) want) (raises (UnpacksMore (length items)) heap) (if nat_lt want (length items) then raises (UnpacksFewer want) heap else kept_items heap items (shown heap v)) refl
    (choice (nat_lt want (length items)) (raises (UnpacksFewer want) heap) (kept_items heap items (shown heap v)) refl (kept_free heap items (shown heap v)))

pub unpack_free : (heap : PlainHeap) (want : ℕ) (v : Val) → (unpack heap want v).visits ≡ 0
unpack_free heap want v = over_free heap v (items_in heap v) (unpack_items heap want v) (unpack_items_free heap want v)

-- indexes
-- =======

found_free : {A : Type 0} (heap : PlainHeap) (v : Val) (o : Option ℕ) (next : ℕ → Outcome A) → ((at : ℕ) → (next at).visits ≡ 0) → (at_found heap v o next).visits ≡ 0
found_free heap v (Some at) next h = h at
found_free heap v None next h = refl

place_free : {A : Type 0} (heap : PlainHeap) (v index : Val) (s : Shown) (next : ℕ → Outcome A) → ((at : ℕ) → (next at).visits ≡ 0) → (at_shown heap v index s next).visits ≡ 0
place_free heap v index (Number z) next h = found_free heap v (place_at (length_of heap v) z) next h
place_free heap v index _ next h = refl

key_free : {A : Type 0} (heap : PlainHeap) (key : Val) (next : Outcome A) → next.visits ≡ 0 → (with_key_of heap key next).visits ≡ 0
key_free heap key next e = choice (is_some (key_of heap key)) next (raises (UnsupportedOne (codes "__hash__") (type_name heap key)) heap) e refl

at_key_free : {A : Type 0} (heap : PlainHeap) (key : Val) (o : Option Val) (next : Val → Outcome A) → ((v : Val) → (next v).visits ≡ 0) → (at_key heap key o next).visits ≡ 0
at_key_free heap key (Some v) next h = h v
at_key_free heap key None next h = refl

of_key_free : {A : Type 0} (heap : PlainHeap) (pairs : List (Val × Val)) (key : Val) (next : Val → Outcome A) → ((v : Val) → (next v).visits ≡ 0) → (of_key heap pairs key next).visits ≡ 0
of_key_free heap pairs key next h =
    key_free heap key (at_key heap key (value_of_key heap pairs key) next) (at_key_free heap key (value_of_key heap pairs key) next h)

shown_at_free : (heap : PlainHeap) (v index : Val) (s : Shown) → (shown_at heap v index s).visits ≡ 0
shown_at_free heap v index (Pairs pairs) = of_key_free heap pairs index (λ found. gives found heap) (λ found. refl)
shown_at_free heap v index (Text bytes) = place_free heap v index (shown heap index) (item_of heap v) (item_free heap v)
shown_at_free heap v index (Tuple items) = place_free heap v index (shown heap index) (item_of heap v) (item_free heap v)
shown_at_free heap v index (Items items) = place_free heap v index (shown heap index) (item_of heap v) (item_free heap v)
shown_at_free heap v index (Range start stop step) = place_free heap v index (shown heap index) (item_of heap v) (item_free heap v)
shown_at_free heap v index _ = refl

pub get_free : (heap : PlainHeap) (v index : Val) → (get_item heap v index).visits ≡ 0
get_free heap v index = shown_at_free heap v index (shown heap v)

pub put_free : (heap : PlainHeap) (dict : ℕ) (key v : Val) → (put_pair heap dict key v).visits ≡ 0
put_free heap dict key v =
    let pairs = with_key heap (pairs_at heap dict) key v in
    let cells = dict_growth heap dict (length pairs) in
    choice (does_fit heap cells 0) (gives Nil (with_pairs heap dict pairs)) (is_full heap cells 0) refl refl

set_shown_free : (heap : PlainHeap) (o index v : Val) (s : Shown) → (set_shown heap o index v s).visits ≡ 0
set_shown_free heap (At n) index v (Pairs pairs) = key_free heap index (put_pair heap n index v) (put_free heap n index v)
set_shown_free heap (At n) index v (Items items) =
    place_free heap (At n) index (shown heap index) (λ at. gives Nil (with_list heap n (slice_set items at v))) (λ at. refl)
set_shown_free heap o index v _ = refl

pub set_free : (heap : PlainHeap) (o index v : Val) → (set_item heap o index v).visits ≡ 0
set_free heap o index v = set_shown_free heap o index v (shown heap o)

delete_shown_free : (heap : PlainHeap) (o index : Val) (s : Shown) → (delete_shown heap o index s).visits ≡ 0
delete_shown_free heap (At n) index (Pairs pairs) =
    of_key_free heap pairs index (λ found. gives Nil (with_dict heap n (without_key heap pairs index))) (λ found. refl)
delete_shown_free heap (At n) index (Items items) =
    place_free heap (At n) index (shown heap index) (λ at. gives Nil (with_list heap n (remove items at))) (λ at. refl)
delete_shown_free heap o index _ = refl

pub delete_free : (heap : PlainHeap) (o index : Val) → (delete_item heap o index).visits ≡ 0
delete_free heap o index = delete_shown_free heap o index (shown heap o)

-- attributes
-- ==========

gives_attribute_free : (heap : PlainHeap) (v : Val) (name : List ℕ) (a : Attribute) → (gives_attribute heap v name a).visits ≡ 0
gives_attribute_free heap v name (Found found) = refl
gives_attribute_free heap v name (Method method) = making_free heap (MethodObject v method)
gives_attribute_free heap v name Absent = refl

pub get_attr_free : (heap : PlainHeap) (v : Val) (name : List ℕ) → (get_attr heap v name).visits ≡ 0
get_attr_free heap v name = gives_attribute_free heap v name (attribute heap v name)

set_in_free : (heap : PlainHeap) (o : Val) (name : List ℕ) (v : Val) (x : Option (Object Val (List ℕ))) → (set_in heap o name v x).visits ≡ 0
set_in_free heap o name v (Some (ModuleObject own_name (Some names))) = put_free heap names (Str name) v
set_in_free heap o name v _ = refl

pub set_attr_free : (heap : PlainHeap) (o : Val) (name : List ℕ) (v : Val) → (set_attr heap o name v).visits ≡ 0
set_attr_free heap (At n) name v = set_in_free heap (At n) name v (object heap.objects n)
set_attr_free heap o name v = refl

-- operators of one operand
-- ========================

number_free : (heap : PlainHeap) (r : Result ℤ NumFault) → (gives_number heap r).visits ≡ 0
number_free heap (Ok z) = refl
number_free heap (Err fault) = refl

unary_shown_free : (heap : PlainHeap) (op : UnaryOperator) (v : Val) (s : Shown) → (unary_shown heap op v s).visits ≡ 0
unary_shown_free heap op v (Number z) = number_free heap (unary_answer op z)
unary_shown_free heap op v _ = refl

abbrev pub IsFreeOperator : Option (PlainHeap → Val → Outcome Val) → Type 0
IsFreeOperator None = Unit {0}
IsFreeOperator (Some op) = (heap : PlainHeap) (v : Val) → (op heap v).visits ≡ 0

pub unary_free : (number : ℕ) → IsFreeOperator (unary_at number)
unary_free zero = λ heap v. unary_shown_free heap Plus v (shown heap v)
unary_free (suc zero) = λ heap v. unary_shown_free heap Minus v (shown heap v)
unary_free (suc (suc zero)) = λ heap v. unary_shown_free heap Invert v (shown heap v)
unary_free (suc (suc (suc zero))) = λ heap v. refl
unary_free (suc (suc (suc (suc n)))) = tt

-- effects on the world
-- ====================

built_in_free : (w : PlainWorld) (name : List ℕ) (o : Option Builtin) → (built_in w name o).visits ≡ 0
built_in_free w name (Some b) = refl
built_in_free w name None = refl

found_global_free : (w : PlainWorld) (name : List ℕ) (o : Option Val) → (found_global w name o).visits ≡ 0
found_global_free w name (Some v) = refl
found_global_free w name None = built_in_free w name (global_named name)

pub load_global_free : (w : PlainWorld) (names : ℕ) (name : List ℕ) → (load_global w names name).visits ≡ 0
load_global_free w names name = found_global_free w name (named_in w names name)

deleted_free : (w : PlainWorld) (names : ℕ) (name : List ℕ) (o : Option Val) → (deleted_global w names name o).visits ≡ 0
deleted_free w names name (Some v) = refl
deleted_free w names name None = refl

pub delete_global_free : (w : PlainWorld) (names : ℕ) (name : List ℕ) → (delete_global w names name).visits ≡ 0
delete_global_free w names name = deleted_free w names name (named_in w names name)

assigned_free : (w : PlainWorld) (o : Option Val) → (assigned w o).visits ≡ 0
assigned_free w (Some v) = refl
assigned_free w None = refl

pub load_local_free : (w : PlainWorld) (locals : Locals) (slot : ℕ) → (load_local w locals slot).visits ≡ 0
load_local_free w locals slot = assigned_free w (local_at locals slot)

looked_free : (w : PlainWorld) (o : Val) (name : List ℕ) (a : Attribute) → (looked_up w o name a).visits ≡ 0
looked_free w o name (Found v) = refl
looked_free w o name (Method method) = refl
looked_free w o name Absent = refl

pub load_method_free : (w : PlainWorld) (o : Val) (name : List ℕ) → (load_method w o name).visits ≡ 0
load_method_free w o name = looked_free w o name (attribute w.heap o name)

imported_free : (heap : PlainHeap) (o : Val) (name : List ℕ) (a : Attribute) → (imported_from heap o name a).visits ≡ 0
imported_free heap o name (Found v) = refl
imported_free heap o name (Method method) = making_free heap (MethodObject o method)
imported_free heap o name Absent = refl

pub import_from_free : (w : PlainWorld) (o : Val) (name : List ℕ) → (import_from w o name).visits ≡ 0
import_from_free w o name = imported_free w.heap o name (attribute w.heap o name)

stored_free : (w : PlainWorld) (d key v : Val) (s : Shown) → (stored_shown w d key v s).visits ≡ 0
stored_free w d key v (Pairs pairs) = set_free w.heap d key v
stored_free w d key v _ = refl

pub store_pair_free : (w : PlainWorld) (d key v : Val) → (store_pair w d key v).visits ≡ 0
store_pair_free w d key v = stored_free w d key v (shown w.heap d)

-- no visits are made
abbrev NoVisits : {A : Type 0} → Effect A → Type 0
NoVisits effect = effect.visits ≡ 0

registered_free : (w : PlainWorld) (name : List ℕ) (effect : Effect Made) (r : Result Made Stop) → NoVisits effect
    → NoVisits {A = Made} (elim r [ Ok made ↦ record { answer = Ok made; world = registered effect.world name made; visits = 0 } | Err stop ↦ effect ])
registered_free w name effect (Ok made) e = refl
registered_free w name effect (Err stop) e = e

making_module_free : (w : PlainWorld) (name : List ℕ) → (making_module w name).visits ≡ 0
making_module_free w name =
    followed_free (making w.heap (ModuleObject name None)) _ (making_free w.heap (ModuleObject name None)) (λ m behind.
    followed_free (making behind (DictObject [] 4)) _ (making_free behind (DictObject [] 4)) (λ names last.
    followed_free (put_pair (with_names last (number_of m) (number_of names)) (number_of names) (Str (codes "__name__")) (Str name)) _
    (put_free (with_names last (number_of m) (number_of names)) (number_of names) (Str (codes "__name__")) (Str name)) (λ stored end. refl)))

pub make_module_free : (w : PlainWorld) (name : List ℕ) → (make_module w name).visits ≡ 0
make_module_free w name = registered_free w name (making_module w name) (making_module w name).answer (making_module_free w name)

bound_free : (w : PlainWorld) (r : Result Locals Fault) → NoVisits {A = Locals} (elim r [ Ok slots ↦ effects.does slots w | Err fault ↦ effects.faults fault w ])
bound_free w (Ok slots) = refl
bound_free w (Err fault) = refl

pub bind_free : (w : PlainWorld) (params : List (List ℕ)) (given : ℕ) (defaults : Val) (args : List Val) (keys : Keys) → (bind w params given defaults args keys).visits ≡ 0
bind_free w params given defaults args keys = bound_free w (bound w.heap params given defaults args keys)

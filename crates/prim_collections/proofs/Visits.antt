-- How many visits makings and the items of iterables take.
use Rattle.std.proofs.Common.{◌≡◌, ℕ, zero, suc, List, [], ◌∷◌, length, map, replicate, Bool, true, false, cond, Option, Result, Ok, Err, refl, ap₂, ◌∙◌, arith}
use Rattle.std.proofs.lemmas.List.{length-map}
use Rattle.std.proofs.lemmas.List.FromFn.{length-map-range_with_len}
use Rattle.prim_builtins.specs.arena_heap.declared.value.Value.{Value}
use Rattle.prim_builtins.specs.arena_heap.declared.value.StrNo.{StrNo}
use Rattle.prim_builtins.specs.arena_heap.declared.value.ConstNo.{ConstNo}
use Rattle.prim_builtins.specs.mpy_base.declared.builtin.Builtin.TheVariants as builtins
use Rattle.prim_builtins.specs.mpy_base.World.{Object, ListObject, TupleObject, TextObject, Heap}
use Rattle.prim_builtins.specs.mpy_base.Weights.{does_fit, cells_of, bytes_of, used, with_made, room_for}
use Rattle.prim_builtins.specs.mpy_base.Val.{Val, Nil, Int, At}
use Rattle.prim_builtins.specs.py_values.Shown.{PlainHeap, Shown, Text, Tuple, Items, Pairs, Range, range_len, shown}
use Rattle.prim_builtins.specs.py_primitives.Outcome.{Outcome, Stop, gives, is_full, go_on_with, followed_by, making, making_text, making_texts, list_of, tuple_of}
use Rattle.prim_builtins.specs.py_primitives.Iterables.{letter, shown_items, shown_length, over_items, iterating, kept_items, range_number, range_numbers, length_of}
use Rattle.prim_builtins.specs.py_primitives.Calls.{list_from, tuple_from, call_list, tuple_shown, call}
use Rattle.prim_builtins.specs.prim_walks.Plain.{plain, plain_pair, plain_heap}

module _ {A B : Type 0} where
  go_none : (r : Result A Stop) (heap : PlainHeap) (visits : ℕ) (next : A → PlainHeap → Outcome B) → visits ≡ 0 → ((a : A) (w : PlainHeap) → (next a w).visits ≡ 0) → (go_on_with r heap visits next).visits ≡ 0
  go_none (Ok a) heap visits next e none = omega (arith, e, none a heap)
  go_none (Err stop) heap visits next e none = e

  pub followed_none : (first : Outcome A) (next : A → PlainHeap → Outcome B) → first.visits ≡ 0 → ((a : A) (w : PlainHeap) → (next a w).visits ≡ 0) → (followed_by first next).visits ≡ 0
  followed_none first next e none = go_none first.answer first.heap first.visits next e none

made_none : (heap : PlainHeap) (o : Object Val (List ℕ)) (b : Bool) → (cond b (gives (At (used heap)) (with_made heap o)) (is_full heap (cells_of o) (bytes_of o))).visits ≡ 0
made_none heap o true = refl
made_none heap o false = refl

pub making_none : (heap : PlainHeap) (o : Object Val (List ℕ)) → (making heap o).visits ≡ 0
making_none heap o = made_none heap o (does_fit heap (cells_of o) (bytes_of o))

pub text_none : (heap : PlainHeap) (bytes : List ℕ) → (making_text heap bytes).visits ≡ 0
text_none heap [] = refl
text_none heap (byte ∷ bytes) = making_none heap (TextObject (byte ∷ bytes))

texts_none : (heap : PlainHeap) (texts : List (List ℕ)) → (making_texts heap texts).visits ≡ 0
texts_none heap [] = refl
texts_none heap (text ∷ texts) =
    followed_none (making_text heap text) _ (text_none heap text) (λ v behind. followed_none (making_texts behind texts) _ (texts_none behind texts) (λ vs last. refl))

kept_none : (heap : PlainHeap) (items : List Val) (s : Shown) → (kept_items heap items s).visits ≡ 0
kept_none heap items (Text bytes) = texts_none heap (map (λ byte. byte ∷ []) bytes)
kept_none heap items _ = refl

pub list_visits : (heap : PlainHeap) (v : Val) (items : List Val) → (list_from heap v items).visits ≡ length items
list_visits heap v items =
    let none : (list_of heap (length items) (λ behind. kept_items behind items (shown heap v))).visits ≡ 0 =
    followed_none (making heap (ListObject [] (room_for (length items)))) _ (making_none heap (ListObject [] (room_for (length items))))
    (λ made behind. followed_none (kept_items behind items (shown heap v)) _ (kept_none behind items (shown heap v)) (λ vs last. refl)) in
    omega (arith, none)

tuple_none : (heap : PlainHeap) (n : ℕ) (kept : PlainHeap → Outcome (List Val)) → ((w : PlainHeap) → (kept w).visits ≡ 0) → (tuple_of heap n kept).visits ≡ 0
tuple_none heap zero kept none = refl
tuple_none heap (suc n) kept none =
    followed_none (making heap (TupleObject (replicate (suc n) Nil))) _ (making_none heap (TupleObject (replicate (suc n) Nil)))
    (λ made behind. followed_none (kept behind) _ (none behind) (λ vs last. refl))

pub tuple_visits : (heap : PlainHeap) (v : Val) (items : List Val) → (tuple_from heap v items).visits ≡ length items
tuple_visits heap v items =
    let none = tuple_none heap (length items) (λ behind. kept_items behind items (shown heap v)) (λ w. kept_none w items (shown heap v)) in
    omega (arith, none)

-- what visits each item
by_shown : (heap : PlainHeap) (v : Val) (next : List Val → Outcome Val) → ((items : List Val) → (next items).visits ≡ length items) → (s : Shown) → (over_items heap v (shown_items s) next).visits ≡ shown_length s
by_shown heap v next each (Text bytes) = each (map letter bytes) ∙ length-map bytes letter
by_shown heap v next each (Tuple items) = each items
by_shown heap v next each (Items items) = each items
by_shown heap v next each (Pairs pairs) = each (map (λ (q : Val × Val). q.0) pairs) ∙ length-map pairs (λ (q : Val × Val). q.0)
by_shown heap v next each (Range start stop step) =
    let number : ℕ → Val = λ k. Int (range_number start step k) in
    each (range_numbers start stop step) ∙ length-map-range_with_len number 0 (range_len start stop step)
by_shown heap v next each _ = refl

pub list_of_visits : (heap : PlainHeap) (v : Val) → (iterating heap v (list_from heap v)).visits ≡ length_of heap v
list_of_visits heap v = by_shown heap v (list_from heap v) (list_visits heap v) (shown heap v)

pub empty_visits : (heap : PlainHeap) → (call_list heap []).visits ≡ 0
empty_visits heap = making_none heap (ListObject [] (room_for 0))

pub tuple_of_visits : (heap : PlainHeap) (v : Val) → (iterating heap v (tuple_from heap v)).visits ≡ length_of heap v
tuple_of_visits heap v = by_shown heap v (tuple_from heap v) (tuple_visits heap v) (shown heap v)

-- calls with one argument
module _ (texts : StrNo → Option (List ℕ)) (tuples : ConstNo → Option (List Value)) (h : Heap Value ℕ) (args : List Value) (keys : List (Value × Value)) (none : keys ≡ []) where
  pub list_called : (v : Value) → args ≡ v ∷ [] → (call (plain_heap texts tuples h) builtins.List (map (plain texts tuples) args) (map (plain_pair texts tuples) keys)).visits ≡ length_of (plain_heap texts tuples h) (plain texts tuples v)
  list_called v one =
      ap₂ (λ (vs : List Value) (ks : List (Value × Value)). (call (plain_heap texts tuples h) builtins.List (map (plain texts tuples) vs) (map (plain_pair texts tuples) ks)).visits) one none
      ∙ list_of_visits (plain_heap texts tuples h) (plain texts tuples v)

  pub tuple_called : (v : Value) → args ≡ v ∷ []
      → (call (plain_heap texts tuples h) builtins.Tuple (map (plain texts tuples) args) (map (plain_pair texts tuples) keys)).visits ≡ (tuple_shown (plain_heap texts tuples h) (plain texts tuples v) (shown (plain_heap texts tuples h) (plain texts tuples v))).visits
  tuple_called v one = ap₂ (λ (vs : List Value) (ks : List (Value × Value)). (call (plain_heap texts tuples h) builtins.Tuple (map (plain texts tuples) vs) (map (plain_pair texts tuples) ks)).visits) one none

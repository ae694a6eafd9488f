-- Operators in place, and their visits.
use Rattle.std.proofs.Common.{◌≡◌, ℕ, ℤ, List, [], ◌∷◌, ◌++◌, length, map, Bool, true, false, cond, Option, Some, None, Result, Ok, Err, refl, sym, ap, ◌∙◌, subst, arith}
use Rattle.std.proofs.lemmas.List.{length-map}
use Rattle.std.proofs.lemmas.List.FromFn.{length-map-range_with_len}
use Rattle.prim_operators.specs.arena_heap.declared.value.Value.{Value}
use Rattle.prim_operators.specs.arena_heap.declared.value.Value.TheVariants as values
use Rattle.prim_operators.specs.arena_heap.declared.value.StrNo.{StrNo}
use Rattle.prim_operators.specs.arena_heap.declared.value.ConstNo.{ConstNo}
use Rattle.prim_operators.specs.arena_heap.declared.value.ListNo.{ListNo}
use Rattle.prim_operators.specs.mpy_base.World.{Object, ListObject, TupleObject, TextObject, DictObject, FunctionObject, ExceptionObject, MethodObject, RangeObject, ModuleObject, Heap, ObjectKind, AList, object, kind_of, items_at, with_list}
use Rattle.prim_operators.specs.mpy_base.Weights.{used, with_made, does_fit, room_for, cells_of, bytes_of, list_growth, with_list_room}
use Rattle.prim_operators.specs.mpy_base.Val.{Val, At, Int}
use Rattle.prim_operators.specs.arena_heap.Values.{ArenaObject, Leads}
use Rattle.prim_operators.specs.arena_objects.Iterables.{or_nothing}
use Rattle.prim_operators.specs.py_values.declared.small_int.NumFault.{NumFault}
use Rattle.prim_operators.specs.py_values.Shown.{PlainHeap, Shown, Number, Text, Tuple, Items, Pairs, Range, range_len, shown, shown_object}
use Rattle.prim_operators.specs.py_primitives.Outcome as primitives
use Rattle.prim_operators.specs.py_primitives.Outcome.{Outcome, gives, is_full, with_visits, go_on_with, followed_by, making, making_text, making_tuple, making_texts}
use Rattle.prim_operators.specs.py_primitives.Iterables.{letter, range_number, range_numbers, shown_items, shown_length, kept_items, over_items}
use Rattle.prim_operators.specs.py_primitives.Operators.{Add, number_answer, gives_number, binary_shown, binary, extended_by, extend, in_place_shown, in_place}
use Rattle.prim_operators.specs.prim_walks.Plain.{plain, plain_by, plain_object, plain_heap, fixed_of, fixed_within}
use Rattle.prim_operators.proofs.prim_walks_lemmas.PlainValues.{object_plain, within_step}
use Rattle.prim_operators.proofs.IndexUses.{list_shown}

-- visits
-- ======

either_free : {A : Type 0} (b : Bool) (x y : Outcome A) → x.visits ≡ 0 → y.visits ≡ 0 → (cond b x y).visits ≡ 0
either_free true x y p q = p
either_free false x y p q = q

making_free : (heap : PlainHeap) (o : Object Val (List ℕ)) → (making heap o).visits ≡ 0
making_free heap o = either_free (does_fit heap (cells_of o) (bytes_of o)) (gives (At (used heap)) (with_made heap o)) (is_full heap (cells_of o) (bytes_of o)) refl refl

text_free : (heap : PlainHeap) (bytes : List ℕ) → (making_text heap bytes).visits ≡ 0
text_free heap [] = refl
text_free heap (byte ∷ bytes) = making_free heap (TextObject (byte ∷ bytes))

tuple_free : (heap : PlainHeap) (items : List Val) → (making_tuple heap items).visits ≡ 0
tuple_free heap [] = refl
tuple_free heap (item ∷ items) = making_free heap (TupleObject (item ∷ items))

going_free : {A B : Type 0} (answer : Result A primitives.Stop) (heap : PlainHeap) (visits : ℕ) (next : A → PlainHeap → Outcome B) → visits ≡ 0 → ((a : A) → (next a heap).visits ≡ 0)
    → (go_on_with answer heap visits next).visits ≡ 0
going_free (Ok a) heap visits next none free = omega (arith, none, free a)
going_free (Err stop) heap visits next none free = none

texts_free : (heap : PlainHeap) (texts : List (List ℕ)) → (making_texts heap texts).visits ≡ 0
texts_free heap [] = refl
texts_free heap (text ∷ texts) =
    let first = making_text heap text in
    going_free first.answer first.heap first.visits _ (text_free heap text)
    (λ v. let rest = making_texts first.heap texts in going_free rest.answer rest.heap rest.visits _ (texts_free first.heap texts) (λ vs. refl))

kept_free : (heap : PlainHeap) (items : List Val) (s : Shown) → (kept_items heap items s).visits ≡ 0
kept_free heap items (Text bytes) = texts_free heap (map (λ byte. byte ∷ []) bytes)
kept_free heap items _ = refl

extended_visits : (heap : PlainHeap) (l : ℕ) (v : Val) (items : List Val) → (extended_by heap l v items).visits ≡ length items
extended_visits heap l v items =
    let total = length (items_at heap l ++ items) in
    let kept = kept_items (with_list_room heap l total) items (shown heap v) in
    let taken : Outcome Val = followed_by kept (λ vs behind. gives (At l) (with_list behind l (items_at heap l ++ vs))) in
    let free : taken.visits ≡ 0 = going_free kept.answer kept.heap kept.visits _ (kept_free (with_list_room heap l total) items (shown heap v)) (λ vs. refl) in
    let all = either_free (does_fit heap (list_growth heap l total) 0) taken (is_full heap (list_growth heap l total) 0) free refl in
    omega (arith, all)

over_visits : (heap : PlainHeap) (l : ℕ) (v : Val) (s : Shown) → (over_items heap v (shown_items s) (extended_by heap l v)).visits ≡ shown_length s
over_visits heap l v (Text bytes) = extended_visits heap l v (map letter bytes) ∙ length-map bytes letter
over_visits heap l v (Tuple items) = extended_visits heap l v items
over_visits heap l v (Items items) = extended_visits heap l v items
over_visits heap l v (Pairs pairs) = extended_visits heap l v (map (λ (pair : Val × Val). pair.0) pairs) ∙ length-map pairs (λ (pair : Val × Val). pair.0)
over_visits heap l v (Range start stop step) = extended_visits heap l v (range_numbers start stop step) ∙ length-map-range_with_len (λ (at : ℕ). Int (range_number start step at)) 0 (range_len start stop step)
over_visits heap l v _ = refl

-- each item is one visit
pub extend_visits : (heap : PlainHeap) (l : ℕ) (v : Val) → (extend heap l v).visits ≡ shown_length (shown heap v)
extend_visits heap l v = over_visits heap l v (shown heap v)

number_free : (heap : PlainHeap) (answer : Result ℤ NumFault) → (gives_number heap answer).visits ≡ 0
number_free heap (Ok z) = refl
number_free heap (Err fault) = refl

add_free : (heap : PlainHeap) (a b : Val) (s t : Shown) → (binary_shown heap Add a b s t).visits ≡ 0
add_free heap a b (Number x) (Number y) = number_free heap (number_answer Add x y)
add_free heap a b (Text xs) (Text ys) = text_free heap (xs ++ ys)
add_free heap a b (Tuple xs) (Tuple ys) = tuple_free heap (xs ++ ys)
add_free heap a b (Items xs) (Items ys) = making_free heap (ListObject (xs ++ ys) (room_for (length (xs ++ ys))))
add_free heap a b _ _ = refl

-- lists and others
-- ================

other_shown : (heap : PlainHeap) (n : ℕ) (b : Val) (o : Option (Object Val (List ℕ))) → (kind_of o ≡ Some AList → ⊥) → in_place_shown heap Add (At n) b (shown_object o) ≡ binary heap Add (At n) b
other_shown heap n b None other = refl
other_shown heap n b (Some (ListObject items room)) other = absurd (other refl)
other_shown heap n b (Some (TupleObject items)) other = refl
other_shown heap n b (Some (TextObject bytes)) other = refl
other_shown heap n b (Some (DictObject pairs room)) other = refl
other_shown heap n b (Some (FunctionObject name module_name code names defaults)) other = refl
other_shown heap n b (Some (ExceptionObject kind args file line name)) other = refl
other_shown heap n b (Some (MethodObject bound method)) other = refl
other_shown heap n b (Some (RangeObject start stop step)) other = refl
other_shown heap n b (Some (ModuleObject name names)) other = refl

fixed_in_place : (heap : PlainHeap) (b : Val) (items : List Val) → in_place heap Add (fixed_of items) b ≡ binary heap Add (fixed_of items) b
fixed_in_place heap b [] = refl
fixed_in_place heap b (v ∷ vs) = refl

module _ (texts : StrNo → Option (List ℕ)) (tuples : ConstNo → Option (List Value)) (h : Heap Value ℕ) where
  pub list_in_place : (v : Value) (l : ListNo) (b : Val) → v ≡ values.List l → Leads h.objects v
      → in_place (plain_heap texts tuples h) Add (plain texts tuples v) b ≡ extend (plain_heap texts tuples h) l.cell b
  list_in_place v l b is leads =
      let heap = plain_heap texts tuples h in
      ap (λ (w : Value). in_place heap Add (plain texts tuples w) b) is
      ∙ ap (λ (s : Shown). in_place_shown heap Add (At l.cell) b s) (list_shown texts tuples h (values.List l) l refl (subst (Leads h.objects) is leads))

  kind_same : (o : Option ArenaObject) → kind_of (plain_object texts tuples o) ≡ kind_of o
  kind_same None = refl
  kind_same (Some (ListObject items room)) = refl
  kind_same (Some (TupleObject items)) = refl
  kind_same (Some (TextObject bytes)) = refl
  kind_same (Some (DictObject pairs room)) = refl
  kind_same (Some (FunctionObject name module_name code names defaults)) = refl
  kind_same (Some (ExceptionObject kind args file line name)) = refl
  kind_same (Some (MethodObject bound method)) = refl
  kind_same (Some (RangeObject start stop step)) = refl
  kind_same (Some (ModuleObject name names)) = refl

  here : (n : ℕ) (b : Val) (kind : ObjectKind) → kind_of (object h.objects n) ≡ Some kind → (Some kind ≡ Some AList → ⊥) → in_place (plain_heap texts tuples h) Add (At n) b ≡ binary (plain_heap texts tuples h) Add (At n) b
  here n b kind is other =
      other_shown (plain_heap texts tuples h) n b (object (plain_heap texts tuples h).objects n)
      (λ e. other (sym is ∙ (sym (kind_same (object h.objects n)) ∙ (sym (ap (λ (o : Option (Object Val (List ℕ))). kind_of o) (object_plain texts tuples h.objects n)) ∙ e))))

  pub other_in_place : (v : Value) (b : Val) → ((l : ListNo) → v ≡ values.List l → ⊥) → Leads h.objects v
      → in_place (plain_heap texts tuples h) Add (plain texts tuples v) b ≡ binary (plain_heap texts tuples h) Add (plain texts tuples v) b
  other_in_place values.None b other leads = refl
  other_in_place (values.Bool x) b other leads = refl
  other_in_place (values.Int z) b other leads = refl
  other_in_place (values.Str s) b other leads = refl
  other_in_place (values.Fixed c) b other leads =
      let heap = plain_heap texts tuples h in
      let items = map (plain_by texts (fixed_within texts tuples 31)) (or_nothing (tuples c)) in
      ap (λ (w : Val). in_place heap Add w b) (within_step texts tuples 31 c) ∙ (fixed_in_place heap b items ∙ ap (λ (w : Val). binary heap Add w b) (sym (within_step texts tuples 31 c)))
  other_in_place values.Empty b other leads = refl
  other_in_place (values.List n) b other leads = absurd (other n refl)
  other_in_place (values.Dict n) b other leads = here n.cell b _ leads.meets (λ e. cc)
  other_in_place (values.Tuple n) b other leads = here n.cell b _ leads.meets (λ e. cc)
  other_in_place (values.Text n) b other leads = here n.cell b _ leads.meets (λ e. cc)
  other_in_place (values.Fun n) b other leads = here n.cell b _ leads.meets (λ e. cc)
  other_in_place (values.Exc n) b other leads = here n.cell b _ leads.meets (λ e. cc)
  other_in_place (values.Method n) b other leads = here n.cell b _ leads.meets (λ e. cc)
  other_in_place (values.Range n) b other leads = here n.cell b _ leads.meets (λ e. cc)
  other_in_place (values.Module n) b other leads = here n.cell b _ leads.meets (λ e. cc)
  other_in_place (values.Built x) b other leads = refl

  -- what is no list has no visits
  pub other_visits : (v : Value) (b : Val) → ((l : ListNo) → v ≡ values.List l → ⊥) → Leads h.objects v → (in_place (plain_heap texts tuples h) Add (plain texts tuples v) b).visits ≡ 0
  other_visits v b other leads = ap (λ (o : Outcome Val). o.visits) (other_in_place v b other leads) ∙ add_free (plain_heap texts tuples h) (plain texts tuples v) b _ _

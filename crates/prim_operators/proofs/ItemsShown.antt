-- The items of an arena's iterables, as the meaning has them.
use Rattle.std.proofs.Common.{◌≡◌, ℕ, pos, ◌+ℤ◌, ◌*ℤ◌, ◌<◌, List, [], ◌∷◌, length, map, true, false, Option, Some, None, refl, sym, ap, ◌∙◌, subst, arith}
use Rattle.std.specs.Prelude.{slice_get, is_some}
use Rattle.std.specs.Option.{option_map}
use Rattle.std.proofs.lemmas.List.{length-map}
use Rattle.std.proofs.lemmas.Option.{slice_get-map, slice_get_within}
use Rattle.prim_faults.specs.arena_heap.declared.value.Value.{Value}
use Rattle.prim_faults.specs.arena_heap.declared.value.Value.TheVariants as values
use Rattle.prim_faults.specs.arena_heap.declared.value.StrNo.{StrNo}
use Rattle.prim_faults.specs.arena_heap.declared.value.ConstNo.{ConstNo}
use Rattle.prim_faults.specs.mpy_base.World.{ListObject, TupleObject, TextObject, DictObject, RangeObject, Heap, ObjectKind, AList, ATuple, ADict, ARange, AText, object, kind_of, text_of}
use Rattle.prim_faults.specs.mpy_base.Val.{Val}
use Rattle.prim_faults.specs.arena_heap.Values.{ArenaObject, Leads, IsStr}
use Rattle.prim_faults.specs.arena_objects.Iterables as arena
use Rattle.prim_faults.specs.arena_objects.Iterables.{or_nothing, given, spelled}
use Rattle.prim_faults.proofs.arena_objects_lemmas.Gifts.{count_numbers, number_in}
use Rattle.prim_faults.specs.py_values.Shown.{PlainHeap, Shown, Text, Tuple, range_len, shown, shown_object}
use Rattle.prim_faults.specs.py_values.Names.{type_name}
use Rattle.prim_faults.specs.py_primitives.Faults.{NotIterable}
use Rattle.prim_faults.specs.py_primitives.Outcome.{gives, raises}
use Rattle.prim_faults.specs.py_primitives.Iterables.{shown_items, items_in, shown_length, shown_item, or_nil, over_items}
use Rattle.prim_faults.specs.prim_walks.Plain.{plain, plain_by, plain_pair, plain_object, plain_heap, fixed_within}
use Rattle.prim_faults.proofs.prim_walks_lemmas.PlainValues.{object_plain, fixed_shown, within_step, shown_fixed}
use Rattle.prim_operators.specs.declared.operands.Shape.TheVariants as shapes
use Rattle.prim_operators.specs.Operands.{HasItems, IsNested}
use Rattle.prim_operators.specs.Pairs.{ShowsShape}

-- an iterable, and what is none
pub iterates : (heap : PlainHeap) (v : Val) (o : Option (List Val)) → true ≡ is_some o → over_items heap v o (λ items. gives v heap) ≡ gives v heap
iterates heap v (Some items) e = refl
iterates heap v None e = absurd cc

pub iterates_not : (heap : PlainHeap) (v : Val) (o : Option (List Val)) → false ≡ is_some o → over_items heap v o (λ items. gives v heap) ≡ raises (NotIterable (type_name heap v)) heap
iterates_not heap v (Some items) e = absurd cc
iterates_not heap v None e = refl

abbrev Gives : Option ObjectKind → Type 0
Gives (Some AList) = Unit {0}
Gives (Some ATuple) = Unit {0}
Gives (Some ADict) = Unit {0}
Gives (Some ARange) = Unit {0}
Gives _ = ⊥

module _ (texts : StrNo → Option (List ℕ)) (tuples : ConstNo → Option (List Value)) where
  keys_plain : (pairs : List (Value × Value)) → map (λ (q : Val × Val). q.0) (map (plain_pair texts tuples) pairs) ≡ map (plain texts tuples) (map (λ (q : Value × Value). q.0) pairs)
  keys_plain [] = refl
  keys_plain (pair ∷ pairs) = ap (λ (vs : List Val). plain texts tuples pair.0 ∷ vs) (keys_plain pairs)

  read_plain : (heap : PlainHeap) (xs : List Value) (at : ℕ) (w : Value) → slice_get xs at ≡ Some w → gives (or_nil (slice_get (map (plain texts tuples) xs) at)) heap ≡ gives (plain texts tuples w) heap
  read_plain heap xs at w e =
      ap (λ (o : Option Val). gives (or_nil o) heap) (slice_get-map (plain texts tuples) xs at ∙ ap (λ (o : Option Value). option_map (plain texts tuples) o) e)

  -- the item of an object
  object_item : (heap : PlainHeap) (o : Option ArenaObject) (at : ℕ) (w : Value) → Gives (kind_of o) → slice_get (given o) at ≡ Some w
      → shown_item heap at (shown_object (plain_object texts tuples o)) ≡ gives (plain texts tuples w) heap
  object_item heap (Some (ListObject items room)) at w g e = read_plain heap items at w e
  object_item heap (Some (TupleObject items)) at w g e = read_plain heap items at w e
  object_item heap (Some (DictObject pairs room)) at w g e =
      ap (λ (vs : List Val). gives (or_nil (slice_get vs at)) heap) (keys_plain pairs) ∙ read_plain heap (map (λ (q : Value × Value). q.0) pairs) at w e
  object_item heap (Some (RangeObject start stop step)) at w g e =
      let within = slice_get_within (arena.range_numbers start stop step) at w e in
      let lt : at < range_len start stop step = omega (arith, within, count_numbers start stop step) in
      let both : Some (values.Int (start +ℤ pos at *ℤ step)) ≡ Some w = sym (number_in start stop step at lt) ∙ e in
      let same : values.Int (start +ℤ pos at *ℤ step) ≡ w = cc in
      ap (λ (v : Value). gives (plain texts tuples v) heap) same
  object_item heap _ at w g e = absurd g

  object_length : (o : Option ArenaObject) → Gives (kind_of o) → shown_length (shown_object (plain_object texts tuples o)) ≡ length (given o)
  object_length (Some (ListObject items room)) g = length-map items (plain texts tuples)
  object_length (Some (TupleObject items)) g = length-map items (plain texts tuples)
  object_length (Some (DictObject pairs room)) g = length-map pairs (plain_pair texts tuples) ∙ sym (length-map pairs (λ (q : Value × Value). q.0))
  object_length (Some (RangeObject start stop step)) g = sym (count_numbers start stop step)
  object_length _ g = absurd g

  module _ (h : Heap Value ℕ) where
    item_here : (n at : ℕ) (kind : ObjectKind) (w : Value) → kind_of (object h.objects n) ≡ Some kind → Gives (Some kind) → slice_get (given (object h.objects n)) at ≡ Some w
        → shown_item (plain_heap texts tuples h) at (shown_object (object (plain_heap texts tuples h).objects n)) ≡ gives (plain texts tuples w) (plain_heap texts tuples h)
    item_here n at kind w is g e =
        ap (λ o. shown_item (plain_heap texts tuples h) at (shown_object o)) (object_plain texts tuples h.objects n)
        ∙ object_item (plain_heap texts tuples h) (object h.objects n) at w (subst Gives (sym is) g) e

    -- the item of an iterable
    pub item_plain : (v : Value) (at : ℕ) (w : Value) → HasItems v → Leads h.objects v → IsNested tuples v → slice_get (arena.items_in tuples h v) at ≡ Some w
        → shown_item (plain_heap texts tuples h) at (shown (plain_heap texts tuples h) (plain texts tuples v)) ≡ gives (plain texts tuples w) (plain_heap texts tuples h)
    item_plain (values.Fixed c) at w has leads nests e =
        ap (shown_item (plain_heap texts tuples h) at) (fixed_shown texts tuples (plain_heap texts tuples h) c nests)
        ∙ read_plain (plain_heap texts tuples h) (or_nothing (tuples c)) at w e
    item_plain values.Empty at w has leads nests e = read_plain (plain_heap texts tuples h) [] at w e
    item_plain (values.List l) at w has leads nests e = item_here l.cell at AList w leads.meets tt e
    item_plain (values.Tuple l) at w has leads nests e = item_here l.cell at ATuple w leads.meets tt e
    item_plain (values.Dict l) at w has leads nests e = item_here l.cell at ADict w leads.meets tt e
    item_plain (values.Range l) at w has leads nests e = item_here l.cell at ARange w leads.meets tt e
    item_plain _ at w has leads nests e = absurd has

    length_here : (n : ℕ) (kind : ObjectKind) → kind_of (object h.objects n) ≡ Some kind → Gives (Some kind)
        → shown_length (shown_object (object (plain_heap texts tuples h).objects n)) ≡ length (given (object h.objects n))
    length_here n kind is g = ap (λ o. shown_length (shown_object o)) (object_plain texts tuples h.objects n) ∙ object_length (object h.objects n) (subst Gives (sym is) g)

    -- how many items it has
    pub length_plain : (v : Value) → HasItems v → Leads h.objects v → IsNested tuples v
        → shown_length (shown (plain_heap texts tuples h) (plain texts tuples v)) ≡ length (arena.items_in tuples h v)
    length_plain (values.Fixed c) has leads nests =
        ap shown_length (fixed_shown texts tuples (plain_heap texts tuples h) c nests) ∙ length-map (or_nothing (tuples c)) (plain texts tuples)
    length_plain values.Empty has leads nests = refl
    length_plain (values.List l) has leads nests = length_here l.cell AList leads.meets tt
    length_plain (values.Tuple l) has leads nests = length_here l.cell ATuple leads.meets tt
    length_plain (values.Dict l) has leads nests = length_here l.cell ADict leads.meets tt
    length_plain (values.Range l) has leads nests = length_here l.cell ARange leads.meets tt
    length_plain _ has leads nests = absurd has

    text_here : (o : Option ArenaObject) → kind_of o ≡ Some AText → shown_object (plain_object texts tuples o) ≡ Text (text_of o)
    text_here (Some (TextObject bytes)) is = refl
    text_here _ is = absurd cc

    -- a str shows its bytes
    pub str_shown : (v : Value) → IsStr v → Leads h.objects v → shown (plain_heap texts tuples h) (plain texts tuples v) ≡ Text (spelled texts h v)
    str_shown (values.Str s) str leads = refl
    str_shown (values.Text t) str leads = ap shown_object (object_plain texts tuples h.objects t.cell) ∙ text_here (object h.objects t.cell) leads.meets
    str_shown _ str leads = absurd str

-- a constant tuple has items, and is no key
pub fixed_iterates : (texts : StrNo → Option (List ℕ)) (tuples : ConstNo → Option (List Value)) (h : Heap Value ℕ) (v : Value) (c : ConstNo) → v ≡ values.Fixed c
    → true ≡ is_some (items_in (plain_heap texts tuples h) (plain texts tuples v))
fixed_iterates texts tuples h v c is =
    let heap = plain_heap texts tuples h in
    let items = map (plain_by texts (fixed_within texts tuples 31)) (or_nothing (tuples c)) in
    sym (ap (λ (w : Value). is_some (items_in heap (plain texts tuples w))) is
    ∙ (ap (λ (w : Val). is_some (items_in heap w)) (within_step texts tuples 31 c) ∙ ap (λ (s : Shown). is_some (shown_items s)) (shown_fixed heap items)))

pub fixed_shape : (texts : StrNo → Option (List ℕ)) (tuples : ConstNo → Option (List Value)) (h : Heap Value ℕ) (v : Value) (c : ConstNo) → v ≡ values.Fixed c
    → ShowsShape (shown (plain_heap texts tuples h) (plain texts tuples v)) shapes.Tuple
fixed_shape texts tuples h v c is =
    let heap = plain_heap texts tuples h in
    let items = map (plain_by texts (fixed_within texts tuples 31)) (or_nothing (tuples c)) in
    let shows : shown heap (plain texts tuples v) ≡ Tuple items = ap (λ (w : Value). shown heap (plain texts tuples w)) is ∙ (ap (shown heap) (within_step texts tuples 31 c) ∙ shown_fixed heap items) in
    subst (λ (s : Shown). ShowsShape s shapes.Tuple) (sym shows) tt

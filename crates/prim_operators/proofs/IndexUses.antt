-- Uses of items by their indexes.
use Rattle.std.proofs.Common.{◌≡◌, ℕ, List, map, Option, Some, None, refl, sym, ap, ◌∙◌, subst}
use Rattle.prim_faults.specs.arena_heap.declared.value.Value.{Value}
use Rattle.prim_faults.specs.arena_heap.declared.value.Value.TheVariants as values
use Rattle.prim_faults.specs.arena_heap.declared.value.StrNo.{StrNo}
use Rattle.prim_faults.specs.arena_heap.declared.value.ConstNo.{ConstNo}
use Rattle.prim_faults.specs.arena_heap.declared.value.DictNo.{DictNo}
use Rattle.prim_faults.specs.arena_heap.declared.value.ListNo.{ListNo}
use Rattle.prim_faults.specs.mpy_base.World.{ListObject, DictObject, Heap, AList, ADict, object, kind_of, items_of, items_at, pairs_of, pairs_at}
use Rattle.prim_faults.specs.mpy_base.Val.{Val, At}
use Rattle.prim_faults.specs.arena_heap.Values.{ArenaObject, Leads}
use Rattle.prim_faults.specs.arena_objects.Iterables.{or_nothing}
use Rattle.prim_faults.specs.py_values.Shown.{PlainHeap, Shown, Nothing, Number, Text, Tuple, Items, Pairs, Range, Other, shown, shown_object}
use Rattle.prim_faults.specs.py_values.Names.{type_name}
use Rattle.prim_faults.specs.py_primitives.Faults.{NotAnIndex, NotSubscriptable, NotDeletable}
use Rattle.prim_faults.specs.py_primitives.Outcome.{Outcome, raises}
use Rattle.prim_faults.specs.py_primitives.Iterables.{item_of}
use Rattle.prim_faults.specs.py_primitives.Uses.{at_shown, at_place, shown_at, delete_shown, delete_item}
use Rattle.prim_faults.specs.prim_walks.Plain.{plain, plain_by, plain_pair, plain_object, plain_heap, fixed_within}
use Rattle.prim_faults.proofs.prim_walks_lemmas.PlainValues.{object_plain, within_step, shown_fixed}
use Rattle.prim_operators.specs.Containers.{IsSequence, HasNoItems}
use Rattle.prim_operators.proofs.Looked.{shown_number}

-- an index that is no number
pub at_other : {A : Type 0} (heap : PlainHeap) (v index : Val) (s : Shown) (next : ℕ → Outcome A) → shown_number s ≡ None
    → at_shown heap v index s next ≡ raises (NotAnIndex (type_name heap v) (type_name heap index)) heap
at_other heap v index (Number z) next e = absurd cc
at_other heap v index _ next e = refl

pub sequence_at : (heap : PlainHeap) (v index : Val) (s : Shown) → IsSequence s → shown_at heap v index s ≡ at_place heap v index (item_of heap v)
sequence_at heap v index (Text bytes) is = refl
sequence_at heap v index (Tuple items) is = refl
sequence_at heap v index (Range start stop step) is = refl
sequence_at heap v index _ is = absurd is

pub nothing_at : (heap : PlainHeap) (v index : Val) (s : Shown) → HasNoItems s → shown_at heap v index s ≡ raises (NotSubscriptable (type_name heap v)) heap
nothing_at heap v index Nothing is = refl
nothing_at heap v index (Number z) is = refl
nothing_at heap v index Other is = refl
nothing_at heap v index _ is = absurd is

module _ (texts : StrNo → Option (List ℕ)) (tuples : ConstNo → Option (List Value)) (h : Heap Value ℕ) where
  list_here : (o : Option ArenaObject) → kind_of o ≡ Some AList → shown_object (plain_object texts tuples o) ≡ Items (map (plain texts tuples) (items_of o))
  list_here (Some (ListObject items room)) is = refl
  list_here _ is = absurd cc

  dict_here : (o : Option ArenaObject) → kind_of o ≡ Some ADict → shown_object (plain_object texts tuples o) ≡ Pairs (map (plain_pair texts tuples) (pairs_of o))
  dict_here (Some (DictObject pairs room)) is = refl
  dict_here _ is = absurd cc

  -- what a list and a dict show
  pub list_shown : (v : Value) (l : ListNo) → v ≡ values.List l → Leads h.objects v → shown (plain_heap texts tuples h) (plain texts tuples v) ≡ Items (map (plain texts tuples) (items_at h l.cell))
  list_shown v l is leads =
      let there : Leads h.objects (values.List l) = subst (Leads h.objects) is leads in
      ap (λ (w : Value). shown (plain_heap texts tuples h) (plain texts tuples w)) is
      ∙ (ap shown_object (object_plain texts tuples h.objects l.cell) ∙ list_here (object h.objects l.cell) there.meets)

  pub dict_shown : (v : Value) (d : DictNo) → v ≡ values.Dict d → Leads h.objects v → shown (plain_heap texts tuples h) (plain texts tuples v) ≡ Pairs (map (plain_pair texts tuples) (pairs_at h d.cell))
  dict_shown v d is leads =
      let there : Leads h.objects (values.Dict d) = subst (Leads h.objects) is leads in
      ap (λ (w : Value). shown (plain_heap texts tuples h) (plain texts tuples w)) is
      ∙ (ap shown_object (object_plain texts tuples h.objects d.cell) ∙ dict_here (object h.objects d.cell) there.meets)

  pub fixed_sequence : (v : Value) (c : ConstNo) → v ≡ values.Fixed c → IsSequence (shown (plain_heap texts tuples h) (plain texts tuples v))
  fixed_sequence v c is =
      let heap = plain_heap texts tuples h in
      let items = map (plain_by texts (fixed_within texts tuples 31)) (or_nothing (tuples c)) in
      let shows : shown heap (plain texts tuples v) ≡ Tuple items = ap (λ (w : Value). shown heap (plain texts tuples w)) is ∙ (ap (shown heap) (within_step texts tuples 31 c) ∙ shown_fixed heap items) in
      subst IsSequence (sym shows) tt

-- what only lists and dicts take
pub delete_sequence : (heap : PlainHeap) (v index : Val) (s : Shown) → IsSequence s → delete_shown heap v index s ≡ raises (NotDeletable (type_name heap v)) heap
delete_sequence heap (At n) index (Text bytes) is = refl
delete_sequence heap (At n) index (Tuple items) is = refl
delete_sequence heap (At n) index (Range start stop step) is = refl
delete_sequence heap (At n) index _ is = absurd is
delete_sequence heap _ index s is = refl

pub delete_nothing : (heap : PlainHeap) (v index : Val) (s : Shown) → HasNoItems s → delete_shown heap v index s ≡ raises (NotDeletable (type_name heap v)) heap
delete_nothing heap (At n) index Nothing is = refl
delete_nothing heap (At n) index (Number z) is = refl
delete_nothing heap (At n) index Other is = refl
delete_nothing heap (At n) index _ is = absurd is
delete_nothing heap _ index s is = refl

module _ (texts : StrNo → Option (List ℕ)) (tuples : ConstNo → Option (List Value)) (h : Heap Value ℕ) where
  pub delete_list : (v : Value) (l : ListNo) (index : Val) → v ≡ values.List l → Leads h.objects v
      → delete_item (plain_heap texts tuples h) (plain texts tuples v) index ≡ delete_shown (plain_heap texts tuples h) (At l.cell) index (Items (map (plain texts tuples) (items_at h l.cell)))
  delete_list v l index is leads =
      let heap = plain_heap texts tuples h in
      ap (λ (w : Value). delete_item heap (plain texts tuples w) index) is
      ∙ ap (λ (s : Shown). delete_shown heap (At l.cell) index s) (list_shown texts tuples h (values.List l) l refl (subst (Leads h.objects) is leads))

  pub delete_dict : (v : Value) (d : DictNo) (index : Val) → v ≡ values.Dict d → Leads h.objects v
      → delete_item (plain_heap texts tuples h) (plain texts tuples v) index ≡ delete_shown (plain_heap texts tuples h) (At d.cell) index (Pairs (map (plain_pair texts tuples) (pairs_at h d.cell)))
  delete_dict v d index is leads =
      let heap = plain_heap texts tuples h in
      ap (λ (w : Value). delete_item heap (plain texts tuples w) index) is
      ∙ ap (λ (s : Shown). delete_shown heap (At d.cell) index s) (dict_shown texts tuples h (values.Dict d) d refl (subst (Leads h.objects) is leads))

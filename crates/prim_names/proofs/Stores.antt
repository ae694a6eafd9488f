-- Pairs that are stored, as the meaning has them.
use Rattle.std.proofs.Common.{◌≡◌, ℕ, List, length, Bool, true, false, cond, Option, refl, ap, ◌∙◌}
use Rattle.std.specs.Prelude.{codes, is_some}
use Rattle.mpy_base.specs.World.{Heap, pairs_at}
use Rattle.mpy_base.specs.Weights.{does_fit, dict_growth, with_pairs}
use Rattle.mpy_base.specs.Val.{Val, Nil, Str, At, PlainWorld}
use Rattle.prim_methods.specs.arena_heap.declared.value.Value.{Value}
use Rattle.prim_methods.specs.arena_heap.declared.value.Value.TheVariants as values
use Rattle.prim_methods.specs.arena_heap.declared.value.StrNo.{StrNo}
use Rattle.prim_methods.specs.arena_heap.declared.value.ConstNo.{ConstNo}
use Rattle.prim_methods.specs.arena_heap.declared.value.DictNo.{DictNo}
use Rattle.prim_methods.specs.arena_heap.Values.{Leads}
use Rattle.prim_raising.specs.py_effects.py_values.Shown.{PlainHeap, Shown, Text, Tuple, Range, Pairs, shown}
use Rattle.prim_raising.specs.py_effects.py_values.Keys.{key_of, with_key}
use Rattle.prim_raising.specs.py_effects.py_values.Names.{type_name}
use Rattle.prim_raising.specs.py_effects.py_primitives.Faults.{UnsupportedOne, NotAssignable}
use Rattle.prim_raising.specs.py_effects.py_primitives.Outcome.{Outcome, gives, raises, is_full}
use Rattle.prim_raising.specs.py_effects.py_primitives.Uses.{put_pair, set_item}
use Rattle.prim_raising.specs.py_effects.Effect.{on_heap, faults}
use Rattle.prim_raising.specs.py_effects.Names.{stored_shown, store_pair}
use Rattle.prim_methods.specs.prim_walks.Plain.{plain, plain_heap}
use Rattle.prim_methods.specs.prim_operators.declared.containers.Container.{Container}
use Rattle.prim_methods.specs.prim_operators.declared.containers.Container.TheVariants as containers
use Rattle.prim_methods.specs.prim_operators.Containers.{IsSequence, HasNoItems, IsContainer}
use Rattle.prim_methods.proofs.prim_operators_lemmas.IndexUses.{list_shown, dict_shown}
use Rattle.prim_methods.proofs.prim_assignments_lemmas.ItemUses.{set_dict}

by_fit : (heap new : PlainHeap) (cells : ℕ) (b : Bool) → (cond b (gives Nil new) (is_full heap cells 0)).visits ≡ 0
by_fit heap new cells true = refl
by_fit heap new cells false = refl

pub put_visits : (heap : PlainHeap) (d : ℕ) (key v : Val) → (put_pair heap d key v).visits ≡ 0
put_visits heap d key v =
    let pairs = with_key heap (pairs_at heap d) key v in
    by_fit heap (with_pairs heap d pairs) (dict_growth heap d (length pairs)) (does_fit heap (dict_growth heap d (length pairs)) 0)

by_key : (heap : PlainHeap) (key : Val) (next : Outcome Val) (b : Bool) → next.visits ≡ 0 → (cond b next (raises (UnsupportedOne (codes "__hash__") (type_name heap key)) heap)).visits ≡ 0
by_key heap key next true none = none
by_key heap key next false none = refl

module _ (texts : StrNo → Option (List ℕ)) (tuples : ConstNo → Option (List Value)) (h : Heap Value ℕ) where
  -- a key that is set in a dict makes no visits
  pub set_visits : (o : Value) (d : DictNo) (key v : Val) → o ≡ values.Dict d → Leads h.objects o → (set_item (plain_heap texts tuples h) (plain texts tuples o) key v).visits ≡ 0
  set_visits o d key v is leads =
      let heap = plain_heap texts tuples h in
      ap (λ (r : Outcome Val). r.visits) (set_dict texts tuples h o d key v is leads)
      ∙ by_key heap key (put_pair heap d.cell key v) (is_some (key_of heap key)) (put_visits heap d.cell key v)

  -- a name that is set in a namespace
  pub set_name : (d : DictNo) (name : List ℕ) (v : Val) → Leads h.objects (values.Dict d) → set_item (plain_heap texts tuples h) (At d.cell) (Str name) v ≡ put_pair (plain_heap texts tuples h) d.cell (Str name) v
  set_name d name v leads = set_dict texts tuples h (values.Dict d) d (Str name) v refl leads

  pub stored_dict : (w : PlainWorld) (o : Value) (d : DictNo) (key v : Val) → o ≡ values.Dict d → Leads h.objects o → (let world = record w { heap = plain_heap texts tuples h } in
      store_pair world (plain texts tuples o) key v ≡ on_heap world (set_item (plain_heap texts tuples h) (plain texts tuples o) key v))
  stored_dict w o d key v is leads =
      ap (stored_shown (record w { heap = plain_heap texts tuples h }) (plain texts tuples o) key v) (dict_shown texts tuples h o d is leads)

not_sequence : (w : PlainWorld) (o key v : Val) (s : Shown) → IsSequence s → stored_shown w o key v s ≡ faults (NotAssignable (type_name w.heap o)) w
not_sequence w o key v (Text bytes) is = refl
not_sequence w o key v (Tuple items) is = refl
not_sequence w o key v (Range start stop step) is = refl
not_sequence w o key v _ is = absurd is

not_nothing : (w : PlainWorld) (o key v : Val) (s : Shown) → HasNoItems s → stored_shown w o key v s ≡ faults (NotAssignable (type_name w.heap o)) w
not_nothing w o key v (Pairs pairs) has = absurd has
not_nothing w o key v _ has = refl

-- a pair is stored in no other value
pub stored_nowhere : (texts : StrNo → Option (List ℕ)) (tuples : ConstNo → Option (List Value)) (h : Heap Value ℕ) (w : PlainWorld) (o : Value) (key v : Val) (container : Container) → IsContainer h o container
    → ((d : DictNo) → container ≡ containers.Dict d → ⊥) → Leads h.objects o
    → (let world = record w { heap = plain_heap texts tuples h } in store_pair world (plain texts tuples o) key v ≡ faults (NotAssignable (type_name (plain_heap texts tuples h) (plain texts tuples o))) world)
stored_nowhere texts tuples h w o key v (containers.Dict d) is other leads = absurd (other d refl)
stored_nowhere texts tuples h w o key v (containers.List l) is other leads =
    ap (stored_shown (record w { heap = plain_heap texts tuples h }) (plain texts tuples o) key v) (list_shown texts tuples h o l is leads)
stored_nowhere texts tuples h w o key v containers.Sequence is other leads =
    not_sequence (record w { heap = plain_heap texts tuples h }) (plain texts tuples o) key v (shown (plain_heap texts tuples h) (plain texts tuples o)) (is texts tuples)
stored_nowhere texts tuples h w o key v containers.Other is other leads =
    not_nothing (record w { heap = plain_heap texts tuples h }) (plain texts tuples o) key v (shown (plain_heap texts tuples h) (plain texts tuples o)) (is texts tuples)

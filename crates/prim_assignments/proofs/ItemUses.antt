-- Items, keys and attributes that are set, as the meaning has them.
use Rattle.std.proofs.Common.{◌≡◌, ℕ, List, [], ◌∷◌, map, Bool, true, false, cond, Option, Some, None, refl, sym, ap, ◌∙◌, subst}
use Rattle.std.specs.Prelude.{is_some, codes}
use Rattle.prim_operators.specs.arena_heap.declared.value.Value.{Value}
use Rattle.prim_operators.specs.arena_heap.declared.value.Value.TheVariants as values
use Rattle.prim_operators.specs.arena_heap.declared.value.StrNo.{StrNo}
use Rattle.prim_operators.specs.arena_heap.declared.value.ConstNo.{ConstNo}
use Rattle.prim_operators.specs.arena_heap.declared.value.DictNo.{DictNo}
use Rattle.prim_operators.specs.arena_heap.declared.value.ListNo.{ListNo}
use Rattle.prim_operators.specs.arena_heap.declared.value.ModuleNo.{ModuleNo}
use Rattle.prim_operators.specs.mpy_base.World.{ListObject, TupleObject, TextObject, DictObject, FunctionObject, ExceptionObject, MethodObject, RangeObject, ModuleObject, Heap, AModule, object, kind_of, items_at, pairs_at}
use Rattle.prim_operators.specs.mpy_base.World as world
use Rattle.prim_operators.specs.mpy_base.Val.{Val, Str, At}
use Rattle.prim_operators.specs.arena_heap.Values.{ArenaObject, Leads}
use Rattle.prim_operators.specs.arena_objects.Iterables.{or_nothing}
use Rattle.prim_operators.specs.py_values.Shown.{PlainHeap, Shown, Nothing, Number, Text, Tuple, Items, Pairs, Range, Other}
use Rattle.prim_operators.specs.py_values.Names.{type_name}
use Rattle.prim_operators.specs.py_values.Keys.{key_of}
use Rattle.prim_operators.specs.py_primitives.Faults.{UnsupportedOne, NotAssignable}
use Rattle.prim_operators.specs.py_primitives.Outcome.{Outcome, raises}
use Rattle.prim_operators.specs.py_primitives.Operators.{with_key_of}
use Rattle.prim_operators.specs.py_primitives.Uses.{set_shown, set_item, put_pair, no_attribute, set_in, set_attr}
use Rattle.prim_operators.specs.prim_walks.Plain.{plain, plain_by, plain_pair, plain_object, plain_heap, fixed_of, fixed_within}
use Rattle.prim_operators.proofs.prim_walks_lemmas.PlainValues.{object_plain, within_step}
use Rattle.prim_operators.specs.Containers.{IsSequence, HasNoItems}
use Rattle.prim_operators.proofs.IndexUses.{list_shown, dict_shown}

-- what is a key, and what is none
module _ (heap : PlainHeap) (key : Val) (next : Outcome Val) where
  tested : (b : Bool) → is_some (key_of heap key) ≡ b → with_key_of heap key next ≡ cond b next (raises (UnsupportedOne (codes "__hash__") (type_name heap key)) heap)
  tested b e = ap (λ (c : Bool). cond c next (raises (UnsupportedOne (codes "__hash__") (type_name heap key)) heap)) e

  pub hashed : true ≡ is_some (key_of heap key) → with_key_of heap key next ≡ next
  hashed e = tested true (sym e)

  pub unhashed : false ≡ is_some (key_of heap key) → with_key_of heap key next ≡ raises (UnsupportedOne (codes "__hash__") (type_name heap key)) heap
  unhashed e = tested false (sym e)

-- what only lists and dicts take
pub set_sequence : (heap : PlainHeap) (o index v : Val) (s : Shown) → IsSequence s → set_shown heap o index v s ≡ raises (NotAssignable (type_name heap o)) heap
set_sequence heap (At n) index v (Text bytes) is = refl
set_sequence heap (At n) index v (Tuple items) is = refl
set_sequence heap (At n) index v (Range start stop step) is = refl
set_sequence heap (At n) index v _ is = absurd is
set_sequence heap _ index v s is = refl

pub set_nothing : (heap : PlainHeap) (o index v : Val) (s : Shown) → HasNoItems s → set_shown heap o index v s ≡ raises (NotAssignable (type_name heap o)) heap
set_nothing heap (At n) index v Nothing is = refl
set_nothing heap (At n) index v (Number z) is = refl
set_nothing heap (At n) index v Other is = refl
set_nothing heap (At n) index v _ is = absurd is
set_nothing heap _ index v s is = refl

module _ (texts : StrNo → Option (List ℕ)) (tuples : ConstNo → Option (List Value)) (h : Heap Value ℕ) where
  pub set_list : (o : Value) (l : ListNo) (index v : Val) → o ≡ values.List l → Leads h.objects o
      → set_item (plain_heap texts tuples h) (plain texts tuples o) index v ≡ set_shown (plain_heap texts tuples h) (At l.cell) index v (Items (map (plain texts tuples) (items_at h l.cell)))
  set_list o l index v is leads =
      let heap = plain_heap texts tuples h in
      ap (λ (w : Value). set_item heap (plain texts tuples w) index v) is
      ∙ ap (λ (s : Shown). set_shown heap (At l.cell) index v s) (list_shown texts tuples h (values.List l) l refl (subst (Leads h.objects) is leads))

  pub set_dict : (o : Value) (d : DictNo) (index v : Val) → o ≡ values.Dict d → Leads h.objects o
      → set_item (plain_heap texts tuples h) (plain texts tuples o) index v ≡ set_shown (plain_heap texts tuples h) (At d.cell) index v (Pairs (map (plain_pair texts tuples) (pairs_at h d.cell)))
  set_dict o d index v is leads =
      let heap = plain_heap texts tuples h in
      ap (λ (w : Value). set_item heap (plain texts tuples w) index v) is
      ∙ ap (λ (s : Shown). set_shown heap (At d.cell) index v s) (dict_shown texts tuples h (values.Dict d) d refl (subst (Leads h.objects) is leads))

-- attributes
-- ==========

fixed_no_attribute : (heap : PlainHeap) (name : List ℕ) (v : Val) (items : List Val) → set_attr heap (fixed_of items) name v ≡ no_attribute heap (fixed_of items) name
fixed_no_attribute heap name v [] = refl
fixed_no_attribute heap name v (w ∷ ws) = refl

module _ (texts : StrNo → Option (List ℕ)) (tuples : ConstNo → Option (List Value)) (h : Heap Value ℕ) (name : List ℕ) (v : Val) where
  -- a name of a module's namespace
  pub set_named : (n own_name names : ℕ) → object h.objects n ≡ Some (ModuleObject own_name (Some names)) → set_attr (plain_heap texts tuples h) (At n) name v ≡ put_pair (plain_heap texts tuples h) names (Str name) v
  set_named n own_name names parts =
      let heap = plain_heap texts tuples h in
      ap (λ (o : Option (world.Object Val (List ℕ))). set_in heap (At n) name v o) (object_plain texts tuples h.objects n)
      ∙ ap (λ (o : Option ArenaObject). set_in heap (At n) name v (plain_object texts tuples o)) parts

  -- where none is set
  pub set_nameless : (n own_name : ℕ) → object h.objects n ≡ Some (ModuleObject own_name None) → set_attr (plain_heap texts tuples h) (At n) name v ≡ no_attribute (plain_heap texts tuples h) (At n) name
  set_nameless n own_name parts =
      let heap = plain_heap texts tuples h in
      ap (λ (o : Option (world.Object Val (List ℕ))). set_in heap (At n) name v o) (object_plain texts tuples h.objects n)
      ∙ ap (λ (o : Option ArenaObject). set_in heap (At n) name v (plain_object texts tuples o)) parts

  other_object : (n : ℕ) (o : Option ArenaObject) → (kind_of o ≡ Some AModule → ⊥) → set_in (plain_heap texts tuples h) (At n) name v (plain_object texts tuples o) ≡ no_attribute (plain_heap texts tuples h) (At n) name
  other_object n None unlike = refl
  other_object n (Some (ListObject items room)) unlike = refl
  other_object n (Some (TupleObject items)) unlike = refl
  other_object n (Some (TextObject bytes)) unlike = refl
  other_object n (Some (DictObject pairs room)) unlike = refl
  other_object n (Some (FunctionObject own_name module_name code names defaults)) unlike = refl
  other_object n (Some (ExceptionObject kind args file line own_name)) unlike = refl
  other_object n (Some (MethodObject bound method)) unlike = refl
  other_object n (Some (RangeObject start stop step)) unlike = refl
  other_object n (Some (ModuleObject own_name names)) unlike = absurd (unlike refl)

  here : (n : ℕ) (kind : world.ObjectKind) → kind_of (object h.objects n) ≡ Some kind → (Some kind ≡ Some AModule → ⊥) → set_attr (plain_heap texts tuples h) (At n) name v ≡ no_attribute (plain_heap texts tuples h) (At n) name
  here n kind is unlike =
      let heap = plain_heap texts tuples h in
      ap (λ (o : Option (world.Object Val (List ℕ))). set_in heap (At n) name v o) (object_plain texts tuples h.objects n)
      ∙ other_object n (object h.objects n) (λ e. unlike (sym is ∙ e))

  -- other values take none
  pub set_unnamed : (o : Value) → ((m : ModuleNo) → o ≡ values.Module m → ⊥) → Leads h.objects o
      → set_attr (plain_heap texts tuples h) (plain texts tuples o) name v ≡ no_attribute (plain_heap texts tuples h) (plain texts tuples o) name
  set_unnamed values.None unlike leads = refl
  set_unnamed (values.Bool b) unlike leads = refl
  set_unnamed (values.Int z) unlike leads = refl
  set_unnamed (values.Str s) unlike leads = refl
  set_unnamed (values.Fixed c) unlike leads =
      let heap = plain_heap texts tuples h in
      let items = map (plain_by texts (fixed_within texts tuples 31)) (or_nothing (tuples c)) in
      ap (λ (w : Val). set_attr heap w name v) (within_step texts tuples 31 c)
      ∙ (fixed_no_attribute heap name v items ∙ ap (λ (w : Val). no_attribute {A = Val} heap w name) (sym (within_step texts tuples 31 c)))
  set_unnamed values.Empty unlike leads = refl
  set_unnamed (values.List n) unlike leads = here n.cell _ leads.meets (λ e. cc)
  set_unnamed (values.Dict n) unlike leads = here n.cell _ leads.meets (λ e. cc)
  set_unnamed (values.Tuple n) unlike leads = here n.cell _ leads.meets (λ e. cc)
  set_unnamed (values.Text n) unlike leads = here n.cell _ leads.meets (λ e. cc)
  set_unnamed (values.Fun n) unlike leads = here n.cell _ leads.meets (λ e. cc)
  set_unnamed (values.Exc n) unlike leads = here n.cell _ leads.meets (λ e. cc)
  set_unnamed (values.Method n) unlike leads = here n.cell _ leads.meets (λ e. cc)
  set_unnamed (values.Range n) unlike leads = here n.cell _ leads.meets (λ e. cc)
  set_unnamed (values.Module n) unlike leads = absurd (unlike n refl)
  set_unnamed (values.Built b) unlike leads = refl

-- What values are, as the meaning has them.
use Rattle.std.proofs.Common.{◌≡◌, ℕ, List, [], ◌∷◌, map, Option, Some, None, refl, ap, ◌∙◌}
use Rattle.std.specs.Prelude.{bytes_eq, is_some}
use Rattle.mpy_base.specs.declared.builtin.Builtin.{Builtin}
use Rattle.mpy_base.specs.declared.builtin.Builtin.TheVariants as builtins
use Rattle.mpy_base.specs.declared.kind.Kind.{Kind}
use Rattle.prim_builtins.specs.arena_heap.declared.value.Value.{Value}
use Rattle.prim_builtins.specs.arena_heap.declared.value.Value.TheVariants as values
use Rattle.prim_builtins.specs.arena_heap.declared.value.StrNo.{StrNo}
use Rattle.prim_builtins.specs.arena_heap.declared.value.ConstNo.{ConstNo}
use Rattle.prim_builtins.specs.arena_heap.declared.value.ExcNo.{ExcNo}
use Rattle.mpy_base.specs.World.{ListObject, TupleObject, TextObject, DictObject, FunctionObject, ExceptionObject, MethodObject, RangeObject, ModuleObject, Heap, AnException, object, kind_of}
use Rattle.mpy_base.specs.Val.{Val, At}
use Rattle.prim_builtins.specs.arena_heap.Values.{ArenaObject, Leads}
use Rattle.prim_builtins.specs.arena_objects.Iterables.{or_nothing}
use Rattle.prim_builtins.specs.py_values.Shown.{PlainHeap, Shown, Number, shown}
use Rattle.prim_builtins.specs.py_values.Names.{type_name, builtin_name}
use Rattle.prim_builtins.specs.py_primitives.Builtins.{kind_in}
use Rattle.prim_builtins.specs.py_primitives.Operators.{named_kind, raised_kind, exception_kind}
use Rattle.prim_builtins.specs.py_primitives.Calls.{named_type, is_number, is_instance}
use Rattle.prim_builtins.specs.prim_walks.Plain.{plain, plain_by, plain_object, plain_heap, fixed_of, fixed_within}
use Rattle.prim_builtins.proofs.prim_walks_lemmas.PlainValues.{object_plain, within_step}
use Rattle.prim_builtins.specs.prim_operators.Operands.{number_in}
use Rattle.prim_builtins.proofs.prim_operators_lemmas.Looked.{shown_number, number_shown}

fixed_type : (items : List Val) → named_type (fixed_of items) ≡ None
fixed_type [] = refl
fixed_type (v ∷ vs) = refl

fixed_kind : (items : List Val) → named_kind (fixed_of items) ≡ None
fixed_kind [] = refl
fixed_kind (v ∷ vs) = refl

fixed_raised : (heap : PlainHeap) (items : List Val) → exception_kind heap (fixed_of items) ≡ None
fixed_raised heap [] = refl
fixed_raised heap (v ∷ vs) = refl

number_shows : (s : Shown) → is_number s ≡ is_some (shown_number s)
number_shows (Number z) = refl
number_shows _ = refl

-- the types of other built-ins are asked for by their names
pub named_instance : (heap : PlainHeap) (v : Val) (b : Builtin) → kind_in b ≡ None → (b ≡ builtins.Int → ⊥) → is_instance heap v b ≡ bytes_eq (type_name heap v) (builtin_name b)
named_instance heap v builtins.Int none other = absurd (other refl)
named_instance heap v (builtins.Kind kind) none other = absurd cc
named_instance heap v _ none other = refl

module _ (texts : StrNo → Option (List ℕ)) (tuples : ConstNo → Option (List Value)) where
  -- constant tuples are no types and no kinds
  abbrev fixed_items : ConstNo → List Val
  fixed_items c = map (plain_by texts (fixed_within texts tuples 31)) (or_nothing (tuples c))

  pub tuple_type : (v : Value) (c : ConstNo) → v ≡ values.Fixed c → named_type (plain texts tuples v) ≡ None
  tuple_type v c is = ap (λ (w : Value). named_type (plain texts tuples w)) is ∙ (ap named_type (within_step texts tuples 31 c) ∙ fixed_type (fixed_items c))

  pub tuple_kind : (v : Value) (c : ConstNo) → v ≡ values.Fixed c → named_kind (plain texts tuples v) ≡ None
  tuple_kind v c is = ap (λ (w : Value). named_kind (plain texts tuples w)) is ∙ (ap named_kind (within_step texts tuples 31 c) ∙ fixed_kind (fixed_items c))

  other_object : (o : Option ArenaObject) → (kind_of o ≡ Some AnException → ⊥) → raised_kind (plain_object texts tuples o) ≡ None
  other_object (Some (ExceptionObject kind args file line name)) other = absurd (other refl)
  other_object (Some (TupleObject items)) other = refl
  other_object (Some (ListObject items room)) other = refl
  other_object (Some (TextObject bytes)) other = refl
  other_object (Some (DictObject pairs room)) other = refl
  other_object (Some (FunctionObject name module_name code names defaults)) other = refl
  other_object (Some (MethodObject value method)) other = refl
  other_object (Some (RangeObject start stop step)) other = refl
  other_object (Some (ModuleObject name names)) other = refl
  other_object None other = refl

  module _ (h : Heap Value ℕ) where
    pub raised : (n : ℕ) (kind : Kind) (args : Value) (file line name : ℕ) → object h.objects n ≡ Some (ExceptionObject kind args file line name) → exception_kind (plain_heap texts tuples h) (At n) ≡ Some kind
    raised n kind args file line name e = ap raised_kind (object_plain texts tuples h.objects n) ∙ ap (λ (o : Option ArenaObject). raised_kind (plain_object texts tuples o)) e

    at_other : (n : ℕ) → (kind_of (object h.objects n) ≡ Some AnException → ⊥) → exception_kind (plain_heap texts tuples h) (At n) ≡ None
    at_other n other = ap raised_kind (object_plain texts tuples h.objects n) ∙ other_object (object h.objects n) other

    -- a value that is no exception
    pub no_exception : (v : Value) → Leads h.objects v → ((e : ExcNo) → v ≡ values.Exc e → ⊥) → exception_kind (plain_heap texts tuples h) (plain texts tuples v) ≡ None
    no_exception values.None leads other = refl
    no_exception (values.Bool b) leads other = refl
    no_exception (values.Int z) leads other = refl
    no_exception (values.Str s) leads other = refl
    no_exception (values.Fixed c) leads other = ap (exception_kind (plain_heap texts tuples h)) (within_step texts tuples 31 c) ∙ fixed_raised (plain_heap texts tuples h) (fixed_items c)
    no_exception values.Empty leads other = refl
    no_exception (values.List t) leads other = let is = leads.meets in at_other t.cell (λ e. cc)
    no_exception (values.Dict t) leads other = let is = leads.meets in at_other t.cell (λ e. cc)
    no_exception (values.Tuple t) leads other = let is = leads.meets in at_other t.cell (λ e. cc)
    no_exception (values.Text t) leads other = let is = leads.meets in at_other t.cell (λ e. cc)
    no_exception (values.Fun t) leads other = let is = leads.meets in at_other t.cell (λ e. cc)
    no_exception (values.Exc t) leads other = absurd (other t refl)
    no_exception (values.Method t) leads other = let is = leads.meets in at_other t.cell (λ e. cc)
    no_exception (values.Range t) leads other = let is = leads.meets in at_other t.cell (λ e. cc)
    no_exception (values.Module t) leads other = let is = leads.meets in at_other t.cell (λ e. cc)
    no_exception (values.Built b) leads other = refl

    -- bools and integers are numbers
    pub is_a_number : (v : Value) → is_number (shown (plain_heap texts tuples h) (plain texts tuples v)) ≡ is_some (number_in v)
    is_a_number v = number_shows (shown (plain_heap texts tuples h) (plain texts tuples v)) ∙ ap is_some (number_shown texts tuples h v)

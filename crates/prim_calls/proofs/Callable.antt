-- Values that are no callees.
use Rattle.std.proofs.Common.{◌≡◌, ℕ, List, [], ◌∷◌, map, Option, Some, None, refl, sym, ap, ◌∙◌}
use Rattle.mpy_base.specs.declared.builtin.Builtin.{Builtin}
use Rattle.prim_methods.specs.arena_heap.declared.value.Value.{Value}
use Rattle.prim_methods.specs.arena_heap.declared.value.Value.TheVariants as values
use Rattle.prim_methods.specs.arena_heap.declared.value.FunNo.{FunNo}
use Rattle.prim_methods.specs.arena_heap.declared.value.MethodNo.{MethodNo}
use Rattle.prim_methods.specs.arena_heap.declared.value.StrNo.{StrNo}
use Rattle.prim_methods.specs.arena_heap.declared.value.ConstNo.{ConstNo}
use Rattle.mpy_base.specs.World.{ListObject, TupleObject, TextObject, DictObject, FunctionObject, ExceptionObject, MethodObject, RangeObject, ModuleObject, Heap, ObjectKind, AFunction, AMethod, IsA, object, kind_of}
use Rattle.mpy_base.specs.Val.{Val, At, PlainWorld}
use Rattle.prim_methods.specs.arena_heap.Values.{ArenaObject, Leads}
use Rattle.prim_methods.specs.arena_objects.Iterables.{or_nothing}
use Rattle.prim_types.specs.py_values.Names.{type_name}
use Rattle.prim_types.specs.py_primitives.Faults.{NotCallable}
use Rattle.prim_outputs.specs.py_effects.Effect.{faults}
use Rattle.prim_outputs.specs.py_effects.Calling.{Callee, Acts, callee_object, callee_of}
use Rattle.prim_methods.specs.prim_walks.Plain.{plain, plain_by, plain_object, plain_heap, fixed_of, fixed_within}
use Rattle.prim_methods.proofs.prim_walks_lemmas.PlainValues.{object_plain, within_step}
use Rattle.prim_methods.specs.prim_faults.Sights.{world_over}

abbrev refuses : PlainWorld → List ℕ → Callee
refuses w name = Acts (λ args keys. faults (NotCallable name) w)

fixed_refused : (w : PlainWorld) (items : List Val) → callee_of w (fixed_of items) ≡ refuses w (type_name w.heap (fixed_of items))
fixed_refused w [] = refl
fixed_refused w (v ∷ vs) = refl

module _ (texts : StrNo → Option (List ℕ)) (tuples : ConstNo → Option (List Value)) (h : Heap Value ℕ) (world : PlainWorld) where
  abbrev w : PlainWorld
  w = world_over texts tuples world h

  other_object : (v : Val) (o : Option ArenaObject) (kind : ObjectKind) → kind_of o ≡ Some kind → (kind ≡ AFunction → ⊥) → (kind ≡ AMethod → ⊥)
      → callee_object w v (plain_object texts tuples o) ≡ refuses w (type_name w.heap v)
  other_object v None kind is function method = refl
  other_object v (Some (ListObject items room)) kind is function method = refl
  other_object v (Some (TupleObject items)) kind is function method = refl
  other_object v (Some (TextObject bytes)) kind is function method = refl
  other_object v (Some (DictObject pairs room)) kind is function method = refl
  other_object v (Some (FunctionObject name module_name code names defaults)) kind is function method = let same : kind ≡ AFunction = cc in absurd (function same)
  other_object v (Some (ExceptionObject of_kind args file line name)) kind is function method = refl
  other_object v (Some (MethodObject o m)) kind is function method = let same : kind ≡ AMethod = cc in absurd (method same)
  other_object v (Some (RangeObject start stop step)) kind is function method = refl
  other_object v (Some (ModuleObject name names)) kind is function method = refl

  here : (n : ℕ) (kind : ObjectKind) → IsA h.objects kind n → (kind ≡ AFunction → ⊥) → (kind ≡ AMethod → ⊥) → callee_of w (At n) ≡ refuses w (type_name w.heap (At n))
  here n kind is function method =
      ap (callee_object w (At n)) (object_plain texts tuples h.objects n) ∙ other_object (At n) (object h.objects n) kind is function method

  other : (v : Value) → ((f : FunNo) → v ≡ values.Fun f → ⊥) → ((m : MethodNo) → v ≡ values.Method m → ⊥) → ((b : Builtin) → v ≡ values.Built b → ⊥) → Leads h.objects v
      → callee_of w (plain texts tuples v) ≡ refuses w (type_name w.heap (plain texts tuples v))
  other values.None function method built leads = refl
  other (values.Bool b) function method built leads = refl
  other (values.Int z) function method built leads = refl
  other (values.Str s) function method built leads = refl
  other (values.Fixed c) function method built leads =
      let items = map (plain_by texts (fixed_within texts tuples 31)) (or_nothing (tuples c)) in
      ap (λ (x : Val). callee_of w x) (within_step texts tuples 31 c)
      ∙ (fixed_refused w items ∙ ap (λ (x : Val). refuses w (type_name w.heap x)) (sym (within_step texts tuples 31 c)))
  other values.Empty function method built leads = refl
  other (values.List n) function method built leads = here n.cell _ leads.meets (λ e. cc) (λ e. cc)
  other (values.Dict n) function method built leads = here n.cell _ leads.meets (λ e. cc) (λ e. cc)
  other (values.Tuple n) function method built leads = here n.cell _ leads.meets (λ e. cc) (λ e. cc)
  other (values.Text n) function method built leads = here n.cell _ leads.meets (λ e. cc) (λ e. cc)
  other (values.Fun n) function method built leads = absurd (function n refl)
  other (values.Exc n) function method built leads = here n.cell _ leads.meets (λ e. cc) (λ e. cc)
  other (values.Method n) function method built leads = absurd (method n refl)
  other (values.Range n) function method built leads = here n.cell _ leads.meets (λ e. cc) (λ e. cc)
  other (values.Module n) function method built leads = here n.cell _ leads.meets (λ e. cc) (λ e. cc)
  other (values.Built b) function method built leads = absurd (built b refl)

  -- a value that is no function, no bound method and no built-in
  pub not_callable : (v : Value) (name : List ℕ) → ((f : FunNo) → v ≡ values.Fun f → ⊥) → ((m : MethodNo) → v ≡ values.Method m → ⊥) → ((b : Builtin) → v ≡ values.Built b → ⊥)
      → Leads h.objects v → name ≡ type_name (plain_heap texts tuples h) (plain texts tuples v) → refuses w name ≡ callee_of w (plain texts tuples v)
  not_callable v name function method built leads is = ap (λ (n : List ℕ). refuses w n) is ∙ sym (other v function method built leads)

-- The members of values, as the meaning has them.
use Rattle.std.proofs.Common.{◌≡◌, ℕ, List, [], ◌∷◌, map, Option, Some, None, refl, ap, ◌∙◌}
use Rattle.prim_builtins.specs.arena_heap.declared.value.Value.{Value}
use Rattle.prim_builtins.specs.arena_heap.declared.value.Value.TheVariants as values
use Rattle.prim_builtins.specs.arena_heap.declared.value.StrNo.{StrNo}
use Rattle.prim_builtins.specs.arena_heap.declared.value.ConstNo.{ConstNo}
use Rattle.mpy_base.specs.World.{ListObject, TupleObject, TextObject, DictObject, FunctionObject, ExceptionObject, MethodObject, RangeObject, ModuleObject, Heap, ATuple, object, kind_of}
use Rattle.mpy_base.specs.Val.{Val, At}
use Rattle.prim_builtins.specs.arena_heap.Values.{ArenaObject, Leads}
use Rattle.prim_builtins.specs.arena_objects.Iterables.{given}
use Rattle.prim_builtins.specs.py_values.Shown.{shown, shown_object}
use Rattle.prim_builtins.specs.py_primitives.Operators.{members}
use Rattle.prim_builtins.specs.prim_walks.Plain.{plain, plain_object, plain_heap}
use Rattle.prim_builtins.proofs.prim_walks_lemmas.PlainValues.{object_plain, fixed_shown}
use Rattle.prim_builtins.specs.prim_operators.Operands.{IsNested}
use Rattle.prim_types.specs.Members.{members_in}

module _ (texts : StrNo → Option (List ℕ)) (tuples : ConstNo → Option (List Value)) where
  itself : (v : Val) (o : Option ArenaObject) → (kind_of o ≡ Some ATuple → ⊥) → members v (shown_object (plain_object texts tuples o)) ≡ v ∷ []
  itself v (Some (TupleObject items)) other = absurd (other refl)
  itself v (Some (ListObject items room)) other = refl
  itself v (Some (TextObject bytes)) other = refl
  itself v (Some (DictObject pairs room)) other = refl
  itself v (Some (FunctionObject name module_name code names defaults)) other = refl
  itself v (Some (ExceptionObject kind args file line name)) other = refl
  itself v (Some (MethodObject value method)) other = refl
  itself v (Some (RangeObject start stop step)) other = refl
  itself v (Some (ModuleObject name names)) other = refl
  itself v None other = refl

  of_tuple : (v : Val) (o : Option ArenaObject) → kind_of o ≡ Some ATuple → members v (shown_object (plain_object texts tuples o)) ≡ map (plain texts tuples) (given o)
  of_tuple v (Some (TupleObject items)) is = refl
  of_tuple v _ is = absurd cc

  module _ (h : Heap Value ℕ) where
    shown_at : (n : ℕ) → shown (plain_heap texts tuples h) (At n) ≡ shown_object (plain_object texts tuples (object h.objects n))
    shown_at n = ap shown_object (object_plain texts tuples h.objects n)

    alone : (n : ℕ) → (kind_of (object h.objects n) ≡ Some ATuple → ⊥) → members (At n) (shown (plain_heap texts tuples h) (At n)) ≡ At n ∷ []
    alone n other = ap (members (At n)) (shown_at n) ∙ itself (At n) (object h.objects n) other

    pub members_plain : (v : Value) → Leads h.objects v → IsNested tuples v
        → members (plain texts tuples v) (shown (plain_heap texts tuples h) (plain texts tuples v)) ≡ map (plain texts tuples) (members_in tuples h v)
    members_plain values.None leads nests = refl
    members_plain (values.Bool b) leads nests = refl
    members_plain (values.Int z) leads nests = refl
    members_plain (values.Str s) leads nests = refl
    members_plain (values.Fixed c) leads nests = ap (members (plain texts tuples (values.Fixed c))) (fixed_shown texts tuples (plain_heap texts tuples h) c nests)
    members_plain values.Empty leads nests = refl
    members_plain (values.Tuple t) leads nests = ap (members (At t.cell)) (shown_at t.cell) ∙ of_tuple (At t.cell) (object h.objects t.cell) leads.meets
    members_plain (values.List t) leads nests = let is = leads.meets in alone t.cell (λ e. cc)
    members_plain (values.Dict t) leads nests = let is = leads.meets in alone t.cell (λ e. cc)
    members_plain (values.Text t) leads nests = let is = leads.meets in alone t.cell (λ e. cc)
    members_plain (values.Fun t) leads nests = let is = leads.meets in alone t.cell (λ e. cc)
    members_plain (values.Exc t) leads nests = let is = leads.meets in alone t.cell (λ e. cc)
    members_plain (values.Method t) leads nests = let is = leads.meets in alone t.cell (λ e. cc)
    members_plain (values.Range t) leads nests = let is = leads.meets in alone t.cell (λ e. cc)
    members_plain (values.Module t) leads nests = let is = leads.meets in alone t.cell (λ e. cc)
    members_plain (values.Built b) leads nests = refl

-- Values that are no number, and values that aren't None.
use Rattle.std.proofs.Common.{◌≡◌, ℕ, ℤ, List, [], ◌∷◌, map, Bool, true, false, not, Option, Some, None, refl, sym, ap, ◌∙◌}
use Rattle.mpy_base.specs.World.{Object, ListObject, TupleObject, TextObject, DictObject, FunctionObject, ExceptionObject, MethodObject, RangeObject, ModuleObject, object}
use Rattle.mpy_base.specs.Val.{Val}
use Rattle.frame_moves.specs.arena_heap.declared.value.Value.{Value}
use Rattle.frame_moves.specs.arena_heap.declared.value.Value.TheVariants as values
use Rattle.frame_moves.specs.arena_heap.declared.value.StrNo.{StrNo}
use Rattle.frame_moves.specs.arena_heap.declared.value.ConstNo.{ConstNo}
use Rattle.frame_moves.specs.arena_objects.Iterables.{or_nothing}
use Rattle.frame_moves.specs.py_values.Shown.{PlainHeap, shown, shown_object}
use Rattle.frame_moves.specs.bc_machine.Library.{Name}
use Rattle.frame_moves.specs.bc_machine.Parts.{is_zero}
use Rattle.frame_moves.specs.prim_walks.Plain.{plain, plain_by, fixed_of, fixed_within}
use Rattle.frame_moves.proofs.prim_walks_lemmas.PlainValues.{within_step}
use Rattle.frame_exits.specs.Importing.{given_name}

object_zero : (o : Option (Object Val (List ℕ))) → false ≡ is_zero (shown_object o)
object_zero None = refl
object_zero (Some (ListObject items room)) = refl
object_zero (Some (TupleObject items)) = refl
object_zero (Some (TextObject bytes)) = refl
object_zero (Some (DictObject pairs room)) = refl
object_zero (Some (FunctionObject name module_name code names defaults)) = refl
object_zero (Some (ExceptionObject kind args file line name)) = refl
object_zero (Some (MethodObject o m)) = refl
object_zero (Some (RangeObject start stop step)) = refl
object_zero (Some (ModuleObject name names)) = refl

tuple_zero : (heap : PlainHeap) (items : List Val) → false ≡ is_zero (shown heap (fixed_of items))
tuple_zero heap [] = refl
tuple_zero heap (v ∷ vs) = refl

tuple_given : (name : Name) (items : List Val) → name ≡ given_name (fixed_of items) name
tuple_given name [] = refl
tuple_given name (v ∷ vs) = refl

module _ (texts : StrNo → Option (List ℕ)) (tuples : ConstNo → Option (List Value)) where
  abbrev items_of : ConstNo → List Val
  items_of c = map (plain_by texts (fixed_within texts tuples 31)) (or_nothing (tuples c))

  -- what is no number isn't 0
  pub no_zero : (heap : PlainHeap) (v : Value) → ((b : Bool) → v ≡ values.Bool b → ⊥) → ((z : ℤ) → v ≡ values.Int z → ⊥) → false ≡ is_zero (shown heap (plain texts tuples v))
  no_zero heap values.None truth int = refl
  no_zero heap (values.Bool b) truth int = absurd (truth b refl)
  no_zero heap (values.Int z) truth int = absurd (int z refl)
  no_zero heap (values.Str s) truth int = refl
  no_zero heap (values.Fixed c) truth int = tuple_zero heap (items_of c) ∙ sym (ap (λ (x : Val). is_zero (shown heap x)) (within_step texts tuples 31 c))
  no_zero heap values.Empty truth int = refl
  no_zero heap (values.List n) truth int = object_zero (object heap.objects n.cell)
  no_zero heap (values.Dict n) truth int = object_zero (object heap.objects n.cell)
  no_zero heap (values.Tuple n) truth int = object_zero (object heap.objects n.cell)
  no_zero heap (values.Text n) truth int = object_zero (object heap.objects n.cell)
  no_zero heap (values.Fun n) truth int = object_zero (object heap.objects n.cell)
  no_zero heap (values.Exc n) truth int = object_zero (object heap.objects n.cell)
  no_zero heap (values.Method n) truth int = object_zero (object heap.objects n.cell)
  no_zero heap (values.Range n) truth int = object_zero (object heap.objects n.cell)
  no_zero heap (values.Module n) truth int = object_zero (object heap.objects n.cell)
  no_zero heap (values.Built b) truth int = refl

  -- True counts as 1
  pub truth_zero : (heap : PlainHeap) (v : Value) (b : Bool) → v ≡ values.Bool b → not b ≡ is_zero (shown heap (plain texts tuples v))
  truth_zero heap v b is = by_truth b ∙ ap (λ (x : Value). is_zero (shown heap (plain texts tuples x))) (sym is)
    where
      by_truth : (b : Bool) → not b ≡ is_zero (shown heap (plain texts tuples (values.Bool b)))
      by_truth true = refl
      by_truth false = refl

  -- names are imported from it
  pub names_given : (name : Name) (v : Value) → (v ≡ values.None → ⊥) → name ≡ given_name (plain texts tuples v) name
  names_given name values.None other = absurd (other refl)
  names_given name (values.Bool b) other = refl
  names_given name (values.Int z) other = refl
  names_given name (values.Str s) other = refl
  names_given name (values.Fixed c) other = tuple_given name (items_of c) ∙ sym (ap (λ (x : Val). given_name x name) (within_step texts tuples 31 c))
  names_given name values.Empty other = refl
  names_given name (values.List n) other = refl
  names_given name (values.Dict n) other = refl
  names_given name (values.Tuple n) other = refl
  names_given name (values.Text n) other = refl
  names_given name (values.Fun n) other = refl
  names_given name (values.Exc n) other = refl
  names_given name (values.Method n) other = refl
  names_given name (values.Range n) other = refl
  names_given name (values.Module n) other = refl
  names_given name (values.Built b) other = refl

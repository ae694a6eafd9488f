-- Objects and lists as the machine has them.
use Rattle.std.proofs.Common.{◌≡◌, ℕ, zero, suc, List, [], ◌∷◌, map, Option, Some, None, All, refl, sym, ap, ◌∙◌, subst}
use Rattle.std.specs.Prelude.{slice_get}
use Rattle.std.proofs.lemmas.List.Elements.{All-head, All-tail}
use Rattle.std.proofs.lemmas.Option.{same_Some}
use Rattle.state_calls.specs.mpy_base.World.{ListObject, TupleObject, TextObject, DictObject, FunctionObject, ExceptionObject, MethodObject, RangeObject, ModuleObject, ObjectKind, Objects, object, kind_of, IsA}
use Rattle.state_calls.specs.arena_heap.declared.value.Value.{Value}
use Rattle.state_calls.specs.arena_heap.declared.value.StrNo.{StrNo}
use Rattle.state_calls.specs.arena_heap.declared.value.ConstNo.{ConstNo}
use Rattle.state_calls.specs.arena_heap.Values.{ArenaObject}
use Rattle.state_calls.specs.prim_walks.Plain.{plain_object}
use Rattle.state_calls.proofs.prim_walks_lemmas.PlainValues.{object_plain}

pub get_map : {A B : Type 0} (f : A → B) (xs : List A) (i : ℕ) (x : A) → slice_get xs i ≡ Some x → slice_get (map f xs) i ≡ Some (f x)
get_map f [] i x e = cc
get_map f (y ∷ xs) zero x e = ap (λ z. Some (f z)) (same_Some y x e)
get_map f (y ∷ xs) (suc i) x e = get_map f xs i x e

pub all_get : {A : Type 0} (P : A → Type 0) (xs : List A) (i : ℕ) (x : A) → All P xs → slice_get xs i ≡ Some x → P x
all_get P [] i x h e = cc
all_get P (y ∷ xs) zero x h e = subst P (same_Some y x e) (All-head P y xs h)
all_get P (y ∷ xs) (suc i) x h e = all_get P xs i x (All-tail P y xs h) e

-- a plain object is of the same kind
module _ (texts : StrNo → Option (List ℕ)) (tuples : ConstNo → Option (List Value)) where
  same_kind : (o : Option ArenaObject) → kind_of (plain_object texts tuples o) ≡ kind_of o
  same_kind None = refl
  same_kind (Some (ListObject items room)) = refl
  same_kind (Some (TupleObject items)) = refl
  same_kind (Some (TextObject bytes)) = refl
  same_kind (Some (DictObject pairs room)) = refl
  same_kind (Some (FunctionObject name module_name code names defaults)) = refl
  same_kind (Some (ExceptionObject kind args file line name)) = refl
  same_kind (Some (MethodObject v method)) = refl
  same_kind (Some (RangeObject start stop step)) = refl
  same_kind (Some (ModuleObject name names)) = refl

  kinds_are : (objects : Objects Value ℕ) (n : ℕ) → kind_of (object (map (plain_object texts tuples) objects) n) ≡ kind_of (object objects n)
  kinds_are objects n = ap kind_of (object_plain texts tuples objects n) ∙ same_kind (object objects n)

  pub to_plain : (objects : Objects Value ℕ) (kind : ObjectKind) (n : ℕ) → IsA objects kind n → IsA (map (plain_object texts tuples) objects) kind n
  to_plain objects kind n is = kinds_are objects n ∙ is

  pub from_plain : (objects : Objects Value ℕ) (kind : ObjectKind) (n : ℕ) → IsA (map (plain_object texts tuples) objects) kind n → IsA objects kind n
  from_plain objects kind n is = sym (kinds_are objects n) ∙ is

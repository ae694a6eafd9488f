-- A test of all of some values, where each is to be something.
use Rattle.std.proofs.Common.{◌≡◌, ℕ, ◌+◌, List, [], ◌∷◌, drop, map, Bool, true, false, ◌||◌, Option, Some, None, refl, ap, ◌∙◌}
use Rattle.std.specs.Prelude.{option_and_then, slice_get}
use Rattle.std.specs.Option.{option_map}
use Rattle.std.specs.List.{list_any}
use Rattle.std.proofs.Math.Bool.{or_assoc}
use Rattle.prim_builtins.specs.arena_heap.declared.value.Value.{Value}
use Rattle.mpy_base.specs.Val.{Val}
use Rattle.prim_builtins.specs.py_primitives.Operators.{all_of}
use Rattle.prim_builtins.proofs.prim_walks_lemmas.EqualSteps.{dropped}

module _ {A : Type 0} (f : Val → Option A) (test : A → Bool) where
  -- the test of the values that are left, behind those that gave this
  abbrev pub any_from : Bool → List Val → Option Bool
  any_from found [] = Some found
  any_from found (v ∷ vs) = option_and_then (λ x. any_from (found || test x) vs) (f v)

  more : (found : Bool) (x : A) (o : Option (List A))
      → option_map (λ xs. (found || test x) || list_any test xs) o ≡ option_map (λ xs. found || list_any test xs) (option_map (λ xs. x ∷ xs) o)
  more found x None = refl
  more found x (Some xs) = ap (λ (b : Bool). Some b) (or_assoc found (test x) (list_any test xs))

  nothing : (found : Bool) → found ≡ (found || false)
  nothing true = refl
  nothing false = refl

  any_next : (found : Bool) (vs : List Val) (o : Option A) → ((now : Bool) → any_from now vs ≡ option_map (λ xs. now || list_any test xs) (all_of f vs))
      → option_and_then (λ x. any_from (found || test x) vs) o ≡ option_map (λ xs. found || list_any test xs) (option_and_then (λ x. option_map (λ xs. x ∷ xs) (all_of f vs)) o)
  any_next found vs None each = refl
  any_next found vs (Some x) each = each (found || test x) ∙ more found x (all_of f vs)

  any_all : (vs : List Val) (found : Bool) → any_from found vs ≡ option_map (λ xs. found || list_any test xs) (all_of f vs)
  any_all [] found = ap (λ (b : Bool). Some b) (nothing found)
  any_all (v ∷ vs) found = any_next found vs (f v) (any_all vs)

  pub whole : (vs : List Val) → any_from false vs ≡ option_map (list_any test) (all_of f vs)
  whole vs = any_all vs false

  module _ (p : Value → Val) (vs : List Value) (found : Bool) (at : ℕ) (v : Value) (is : slice_get vs at ≡ Some v) where
    -- one value more
    pub step : (x : A) → f (p v) ≡ Some x → any_from found (drop at (map p vs)) ≡ any_from (found || test x) (drop (at + 1) (map p vs))
    step x e =
        ap (any_from found) (dropped p vs at v is)
        ∙ ap (λ (o : Option A). option_and_then (λ y. any_from (found || test y) (drop (at + 1) (map p vs))) o) e

    -- or one that is nothing
    pub stops : f (p v) ≡ None → any_from found (drop at (map p vs)) ≡ None
    stops e =
        ap (any_from found) (dropped p vs at v is)
        ∙ ap (λ (o : Option A). option_and_then (λ y. any_from (found || test y) (drop (at + 1) (map p vs))) o) e

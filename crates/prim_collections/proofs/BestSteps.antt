-- The search for the best of values, step by step.
use Rattle.std.proofs.Common.{◌≡◌, ℕ, suc, ◌+◌, ◌<◌, ◌≤◌, List, [], ◌∷◌, length, map, drop, get_or, Bool, true, false, cond, Option, Some, None, Result, Ok, Err, refl, sym, ap, ◌∙◌, subst, arith, drop-cons}
use Rattle.std.specs.Prelude.{if◌then◌else◌}
use Rattle.std.specs.declared.cmp.Ordering.{Ordering}
use Rattle.std.proofs.lemmas.List.{drop_all}
use Rattle.prim_builtins.specs.arena_heap.declared.value.Value.{Value}
use Rattle.prim_builtins.specs.arena_heap.declared.value.Value.TheVariants as values
use Rattle.prim_builtins.specs.mpy_base.Val.{Val}
use Rattle.prim_builtins.specs.py_values.Shown.{PlainHeap}
use Rattle.prim_builtins.specs.py_values.Equality.{Walk, answers, visit}
use Rattle.prim_builtins.specs.py_primitives.Walks.{go_on}
use Rattle.prim_builtins.specs.py_primitives.Order.{Sign, Unordered, order, has_sign, better, best_from}
use Rattle.prim_collections.specs.Best.{best_among}

-- what holds of two holds of the chosen one
pub chosen_one : {A : Type 0} (P : A → Type 0) (t : Bool) (v b w : A) → w ≡ cond t v b → P v → P b → P w
chosen_one P true v b w e p q = subst P (sym e) p
chosen_one P false v b w e p q = subst P (sym e) q

module _ (heap : PlainHeap) (sign : Sign) where
  stays : (e : Unordered) (vs : List Val) → best_from heap sign (Err e) vs ≡ answers (Err e)
  stays e [] = refl
  stays e (v ∷ vs) = refl

  abbrev behind : Val → Val → List Val → Result Ordering Unordered → Walk (Result Val Unordered)
  behind v best vs found = best_from heap sign (better heap sign v best found) vs

  -- one value more, by the answer of its comparison
  step_by : (v best : Val) (vs : List Val) (a : Option (Result Ordering Unordered)) → (order heap v best).answer ≡ a
      → best_from heap sign (Ok best) (v ∷ vs) ≡ visit (go_on a (order heap v best).visits (behind v best vs))
  step_by v best vs a e = ap (λ (o : Option (Result Ordering Unordered)). visit (go_on o (order heap v best).visits (behind v best vs))) e

  module _ (f : Value → Val) (xs : List Value) where
    abbrev rest : ℕ → List Val
    rest at = map f (drop at xs)

    rest_cons : (at : ℕ) → at < length xs → rest at ≡ f (get_or xs at values.None) ∷ rest (at + 1)
    rest_cons at lt = let one : suc at ≡ at + 1 = omega arith in ap (map f) (drop-cons xs at values.None lt) ∙ ap (λ (k : ℕ). f (get_or xs at values.None) ∷ map f (drop k xs)) one

    -- the first value is the best so far
    pub best_begins : 0 < length xs → best_among heap sign (map f xs) ≡ visit (best_from heap sign (Ok (f (get_or xs 0 values.None))) (rest 1))
    best_begins some = begins xs some
      where
        begins : (ys : List Value) → 0 < length ys → best_among heap sign (map f ys) ≡ visit (best_from heap sign (Ok (f (get_or ys 0 values.None))) (map f (drop 1 ys)))
        begins [] lt = absurd (omega arith)
        begins (y ∷ ys) lt = refl

    -- the last one was seen
    pub best_ends : (at : ℕ) (best : Val) → length xs ≤ at → best_from heap sign (Ok best) (rest at) ≡ answers (Ok best)
    best_ends at best le = ap (λ (ys : List Value). best_from heap sign (Ok best) (map f ys)) (drop_all at xs le)

    module _ (at : ℕ) (lt : at < length xs) (v b : Value) (read : v ≡ get_or xs at values.None) where
      step : (a : Option (Result Ordering Unordered)) → (order heap (f v) (f b)).answer ≡ a
          → best_from heap sign (Ok (f b)) (rest at) ≡ visit (go_on a (order heap (f v) (f b)).visits (behind (f v) (f b) (rest (at + 1))))
      step a e =
          ap (best_from heap sign (Ok (f b))) (rest_cons at lt ∙ ap (λ (w : Value). f w ∷ rest (at + 1)) (sym read))
          ∙ step_by (f v) (f b) (rest (at + 1)) a e

      chosen : (t : Bool) → cond t (f v) (f b) ≡ f (cond t v b)
      chosen true = refl
      chosen false = refl

      better_is : (o : Ordering) (w : Value) → w ≡ (if has_sign sign o then v else b) → better heap sign (f v) (f b) (Ok o) ≡ Ok (f w)
      better_is o w e = ap (λ (x : Val). Ok x) (chosen (has_sign sign o) ∙ ap f (sym e))

      -- a comparison that answers
      pub step_answer : (o : Ordering) (w : Value) → (order heap (f v) (f b)).answer ≡ Some (Ok o) → w ≡ (if has_sign sign o then v else b)
          → (best_from heap sign (Ok (f b)) (rest at)).answer ≡ (best_from heap sign (Ok (f w)) (rest (at + 1))).answer
      step_answer o w e is =
          ap (λ (walk : Walk (Result Val Unordered)). walk.answer) (step (Some (Ok o)) e)
          ∙ ap (λ (r : Result Val Unordered). (best_from heap sign r (rest (at + 1))).answer) (better_is o w is)

      pub step_visits : (o : Ordering) (w : Value) → (order heap (f v) (f b)).answer ≡ Some (Ok o) → w ≡ (if has_sign sign o then v else b)
          → (best_from heap sign (Ok (f b)) (rest at)).visits ≡ suc ((order heap (f v) (f b)).visits + (best_from heap sign (Ok (f w)) (rest (at + 1))).visits)
      step_visits o w e is =
          ap (λ (walk : Walk (Result Val Unordered)). walk.visits) (step (Some (Ok o)) e)
          ∙ ap (λ (r : Result Val Unordered). suc ((order heap (f v) (f b)).visits + (best_from heap sign r (rest (at + 1))).visits)) (better_is o w is)

      -- two values that have no order
      pub step_unordered : (e : Unordered) → (order heap (f v) (f b)).answer ≡ Some (Err e) → (best_from heap sign (Ok (f b)) (rest at)).answer ≡ Some (Err e)
      step_unordered e is =
          ap (λ (walk : Walk (Result Val Unordered)). walk.answer) (step (Some (Err e)) is) ∙ ap (λ (walk : Walk (Result Val Unordered)). walk.answer) (stays e (rest (at + 1)))

      -- a comparison that goes too deep
      pub step_deep : (order heap (f v) (f b)).answer ≡ None → (best_from heap sign (Ok (f b)) (rest at)).answer ≡ None
      step_deep is = ap (λ (walk : Walk (Result Val Unordered)). walk.answer) (step None is)

      pub visits_unordered : (e : Unordered) → (order heap (f v) (f b)).answer ≡ Some (Err e) → (best_from heap sign (Ok (f b)) (rest at)).visits ≡ suc (order heap (f v) (f b)).visits
      visits_unordered e is =
          let none = ap (λ (walk : Walk (Result Val Unordered)). walk.visits) (stays e (rest (at + 1))) in
          ap (λ (walk : Walk (Result Val Unordered)). walk.visits) (step (Some (Err e)) is) ∙ omega (arith, none)

      pub visits_deep : (order heap (f v) (f b)).answer ≡ None → (best_from heap sign (Ok (f b)) (rest at)).visits ≡ suc (order heap (f v) (f b)).visits
      visits_deep is = ap (λ (walk : Walk (Result Val Unordered)). walk.visits) (step None is)

      at_least : (a : Option (Result Ordering Unordered)) (n : ℕ) → n ≤ (go_on a n (behind (f v) (f b) (rest (at + 1)))).visits
      at_least (Some found) n = omega arith
      at_least None n = omega arith

      -- the visits of the comparison are among them
      pub visits_most : suc (order heap (f v) (f b)).visits ≤ (best_from heap sign (Ok (f b)) (rest at)).visits
      visits_most =
          omega (arith, at_least (order heap (f v) (f b)).answer (order heap (f v) (f b)).visits, ap (λ (walk : Walk (Result Val Unordered)). walk.visits) (step (order heap (f v) (f b)).answer refl))

-- Comparisons of items and of pairs, one after another.
use Rattle.std.proofs.Common.{◌≡◌, ℕ, suc, ◌+◌, ◌-◌, ◌≤◌, List, [], ◌∷◌, Bool, false, Option, Some, None, Result, Ok, Err, length, map, drop, drop_of_length-le, refl, sym, ap, ◌∙◌, arith}
use Rattle.std.proofs.Math.Seq.{drop-cons}
use Rattle.std.specs.Prelude.{slice_get}
use Rattle.std.specs.Option.{option_map}
use Rattle.std.proofs.lemmas.List.{length-map}
use Rattle.std.proofs.lemmas.Option.{slice_get_within, get_or_from_slice_get, slice_get-map}
use Rattle.py_primitives.specs.mpy_base.Val.{Val}
use Rattle.py_primitives.specs.py_values.Shown.{PlainHeap, shown}
use Rattle.py_primitives.specs.py_values.Keys.{value_of_key}
use Rattle.py_primitives.specs.py_values.Equality.{Walk, visit, equal, equal_shown, equal_within, all_equal, all_found, equal_found}
use Rattle.prim_walks.specs.declared.budget.Halt.{Halt}
use Rattle.prim_walks.specs.declared.budget.Halt.TheVariants.{TooDeep, Spent}
use Rattle.prim_walks.specs.Runs.{run, spent}
use Rattle.prim_walks.proofs.RunSteps.{run_on, run_so, run_answers, run_deep, run_visit, run_spent}

drop_item : {X : Type 0} (xs : List X) (at : ℕ) (x : X) → slice_get xs at ≡ Some x → drop at xs ≡ x ∷ drop (at + 1) xs
drop_item xs at x e =
    let next : suc at ≡ at + 1 = omega arith in
    drop-cons xs at x (slice_get_within xs at x e) ∙ (ap (λ y. y ∷ drop (suc at) xs) (get_or_from_slice_get xs at x x e) ∙ ap (λ n. x ∷ drop n xs) next)

mapped : {X Y : Type 0} (f : X → Y) (xs : List X) (at : ℕ) (x : X) → slice_get xs at ≡ Some x → slice_get (map f xs) at ≡ Some (f x)
mapped f xs at x e = slice_get-map f xs at ∙ ap (option_map f) e

pub dropped : {X Y : Type 0} (f : X → Y) (xs : List X) (at : ℕ) (x : X) → slice_get xs at ≡ Some x → drop at (map f xs) ≡ f x ∷ drop (at + 1) (map f xs)
dropped f xs at x e = drop_item (map f xs) at (f x) (mapped f xs at x e)

pub none_left : {X Y : Type 0} (f : X → Y) (xs : List X) (at : ℕ) → length xs ≤ at → drop at (map f xs) ≡ []
none_left f xs at h = drop_of_length-le (map f xs) (omega (arith, length-map xs f))

module _ {X : Type 0} (heap : PlainHeap) (equal : Val → Val → Walk Bool) (f : X → Val) where
  -- a pair of items is compared in front of those that follow
  pub items_step : (xs ys : List X) (at : ℕ) (x y : X) (old new : Option ℕ) (r : Result Bool Halt) → slice_get xs at ≡ Some x → slice_get ys at ≡ Some y → run (equal (f x) (f y)) old ≡ (r, new)
      → run (all_equal heap equal (drop at (map f xs)) (drop at (map f ys))) old ≡ run_on r new (all_equal heap equal (drop (at + 1) (map f xs)) (drop (at + 1) (map f ys)))
  items_step xs ys at x y old new r is_x is_y e =
      let others = all_equal heap equal (drop (at + 1) (map f xs)) (drop (at + 1) (map f ys)) in
      ap (λ (zs : List Val). run (all_equal heap equal zs (drop at (map f ys))) old) (dropped f xs at x is_x)
      ∙ (ap (λ (zs : List Val). run (all_equal heap equal (f x ∷ drop (at + 1) (map f xs)) zs) old) (dropped f ys at y is_y)
      ∙ (run_so (equal (f x) (f y)) others old ∙ ap (λ (p : Result Bool Halt × Option ℕ). run_on p.0 p.1 others) e))

module _ {X : Type 0} (heap : PlainHeap) (equal : Val → Val → Walk Bool) (f : X → Val × Val) (others : List (Val × Val)) where
  -- the value of a key is compared with the one that the other dict has
  pub pairs_step : (ps : List X) (at : ℕ) (p : X) (v : Val) (old new : Option ℕ) (r : Result Bool Halt) → slice_get ps at ≡ Some p → value_of_key heap others ((f p).0) ≡ Some v
      → run (equal ((f p).1) v) old ≡ (r, new) → run (all_found heap equal (drop at (map f ps)) others) old ≡ run_on r new (all_found heap equal (drop (at + 1) (map f ps)) others)
  pairs_step ps at p v old new r is_p found e =
      let rest = all_found heap equal (drop (at + 1) (map f ps)) others in
      ap (λ (zs : List (Val × Val)). run (all_found heap equal zs others) old) (dropped f ps at p is_p)
      ∙ (ap (λ (o : Option Val). run (equal_found heap equal ((f p).1) o rest) old) found
      ∙ (run_so (equal ((f p).1) v) rest old ∙ ap (λ (q : Result Bool Halt × Option ℕ). run_on q.0 q.1 rest) e))

  -- or there is none
  pub pairs_lack : (ps : List X) (at : ℕ) (p : X) (left : Option ℕ) → slice_get ps at ≡ Some p → value_of_key heap others ((f p).0) ≡ None
      → run (all_found heap equal (drop at (map f ps)) others) left ≡ (Ok false, left)
  pairs_lack ps at p left is_p found =
      let rest = all_found heap equal (drop (at + 1) (map f ps)) others in
      ap (λ (zs : List (Val × Val)). run (all_found heap equal zs others) left) (dropped f ps at p is_p)
      ∙ (ap (λ (o : Option Val). run (equal_found heap equal ((f p).1) o rest) left) found ∙ run_answers false left)

module _ (heap : PlainHeap) (a b : Val) (depth : ℕ) where
  pub too_deep : (left : Option ℕ) → depth ≡ 0 → run (equal_within heap depth a b) left ≡ (Err TooDeep, left)
  too_deep left e = ap (λ (d : ℕ). run (equal_within heap d a b) left) e ∙ run_deep left

  abbrev below : Walk Bool
  below = equal_shown heap (equal_within heap (depth - 1)) a b (shown heap a) (shown heap b)

  one_down : (depth ≡ 0 → ⊥) → equal_within heap depth a b ≡ visit below
  one_down ne = let e : depth ≡ suc (depth - 1) = omega arith in ap (λ (d : ℕ). equal_within heap d a b) e

  -- no visit is left
  pub halted : (old : Option ℕ) → (depth ≡ 0 → ⊥) → spent old ≡ None → run (equal_within heap depth a b) old ≡ (Err Spent, old)
  halted old ne h = ap (λ (walk : Walk Bool). run walk old) (one_down ne) ∙ run_spent below old h

  -- a visit, and then what is left to be compared
  pub went : (old mid new : Option ℕ) (r : Result Bool Halt) (walk : Walk Bool) → (depth ≡ 0 → ⊥) → spent old ≡ Some mid → walk ≡ below → run walk mid ≡ (r, new)
      → run (equal_within heap depth a b) old ≡ (r, new)
  went old mid new r walk ne h is e =
      ap (λ (w : Walk Bool). run w old) (one_down ne) ∙ (run_visit below old mid h ∙ (sym (ap (λ (w : Walk Bool). run w mid) is) ∙ e))

pub equal_is : (heap : PlainHeap) (a b : Val) → equal heap a b ≡ equal_within heap 32 a b
unfolding equal
equal_is heap a b = refl

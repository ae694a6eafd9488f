-- The order of items, one pair after another.
use Rattle.std.proofs.Common.{◌≡◌, ℕ, suc, ◌+◌, ◌-◌, ◌≤◌, List, [], ◌∷◌, Bool, true, false, cond, Option, Some, None, Result, Ok, Err, length, map, drop, refl, sym, ap, ◌∙◌, arith}
use Rattle.std.specs.Prelude.{slice_get, min, nat_lt, ◌==◌}
use Rattle.std.specs.declared.cmp.Ordering.{Ordering}
use Rattle.std.specs.declared.cmp.Ordering.TheVariants.{Less, Equal, Greater}
use Rattle.std.specs.Ordering.{nat_cmp}
use Rattle.std.proofs.lemmas.List.{length-map, length-drop}
use Rattle.py_primitives.specs.mpy_base.Val.{Val}
use Rattle.py_primitives.specs.py_values.Shown.{PlainHeap, shown}
use Rattle.py_primitives.specs.py_values.Equality.{Walk, answers, visit, equal_within}
use Rattle.py_primitives.specs.Order.{Unordered, order, order_items, order_shown, order_within}
use Rattle.prim_walks.specs.declared.budget.Halt.{Halt}
use Rattle.prim_walks.specs.declared.budget.Halt.TheVariants.{TooDeep, Spent}
use Rattle.prim_walks.specs.Runs.{run, spent}
use Rattle.prim_walks.proofs.RunSteps.{run_next, run_then, run_answers, run_deep, run_visit, run_spent}
use Rattle.prim_walks.proofs.EqualSteps.{dropped}

abbrev pub Found : Type 0
Found = Result Ordering Unordered

-- two counts less the same are ordered as they are
cmp_less : (m n k : ℕ) → k ≤ m → k ≤ n → nat_cmp (m - k) (n - k) ≡ nat_cmp m n
cmp_less m n k h i =
    let lt : nat_lt (m - k) (n - k) ≡ nat_lt m n = grind arith in
    let eq : ((m - k) == (n - k)) ≡ (m == n) = grind arith in
    ap (λ (b : Bool). cond b Less (cond ((m - k) == (n - k)) Equal Greater)) lt ∙ ap (λ (b : Bool). cond (nat_lt m n) Less (cond b Equal Greater)) eq

module _ {X : Type 0} (equal : Val → Val → Walk Bool) (order : Val → Val → Walk Found) (f : X → Val) where
  -- what follows the comparison of a pair
  abbrev pub behind_pair : List Val → List Val → Val → Val → Bool → Walk Found
  behind_pair xs ys x y true = order_items equal order xs ys
  behind_pair xs ys x y false = order x y

  pub order_step : (xs ys : List X) (at : ℕ) (x y : X) (old new : Option ℕ) (r : Result Bool Halt) → slice_get xs at ≡ Some x → slice_get ys at ≡ Some y → run (equal (f x) (f y)) old ≡ (r, new)
      → run (order_items equal order (drop at (map f xs)) (drop at (map f ys))) old ≡ run_next (behind_pair (drop (at + 1) (map f xs)) (drop (at + 1) (map f ys)) (f x) (f y)) r new
  order_step xs ys at x y old new r is_x is_y e =
      let next = behind_pair (drop (at + 1) (map f xs)) (drop (at + 1) (map f ys)) (f x) (f y) in
      ap (λ (zs : List Val). run (order_items equal order zs (drop at (map f ys))) old) (dropped f xs at x is_x)
      ∙ (ap (λ (zs : List Val). run (order_items equal order (f x ∷ drop (at + 1) (map f xs)) zs) old) (dropped f ys at y is_y)
      ∙ (run_then next (equal (f x) (f y)) old ∙ ap (λ (p : Result Bool Halt × Option ℕ). run_next next p.0 p.1) e))

  by_counts : (xs ys : List Val) → min (length xs) (length ys) ≡ 0 → order_items equal order xs ys ≡ answers (Ok (nat_cmp (length xs) (length ys)))
  by_counts [] ys h = refl
  by_counts (x ∷ xs) [] h = refl
  by_counts (x ∷ xs) (y ∷ ys) h = absurd (omega arith)

  pub order_end : (xs ys : List X) (at : ℕ) (left : Option ℕ) → at ≡ min (length xs) (length ys)
      → run (order_items equal order (drop at (map f xs)) (drop at (map f ys))) left ≡ (Ok (Ok (nat_cmp (length xs) (length ys))), left)
  order_end xs ys at left h =
      let p : length (drop at (map f xs)) ≡ length xs - at = length-drop at (map f xs) ∙ ap (λ (k : ℕ). k - at) (length-map xs f) in
      let q : length (drop at (map f ys)) ≡ length ys - at = length-drop at (map f ys) ∙ ap (λ (k : ℕ). k - at) (length-map ys f) in
      let walk : Found → Walk Found = answers in
      ap (λ (w : Walk Found). run w left) (by_counts (drop at (map f xs)) (drop at (map f ys)) (omega (arith, p, q)))
      ∙ (ap (λ (k : ℕ). run (walk (Ok (nat_cmp k (length (drop at (map f ys)))))) left) p
      ∙ (ap (λ (k : ℕ). run (walk (Ok (nat_cmp (length xs - at) k))) left) q
      ∙ (ap (λ (o : Ordering). run (walk (Ok o)) left) (cmp_less (length xs) (length ys) at (omega arith) (omega arith)) ∙ run_answers (Ok (nat_cmp (length xs) (length ys))) left)))

module _ (heap : PlainHeap) (a b : Val) (depth : ℕ) where
  pub too_deep : (left : Option ℕ) → depth ≡ 0 → run (order_within heap depth a b) left ≡ (Err TooDeep, left)
  too_deep left e = ap (λ (d : ℕ). run (order_within heap d a b) left) e ∙ run_deep left

  abbrev below : Walk Found
  below = order_shown (equal_within heap (depth - 1)) (order_within heap (depth - 1)) a b (shown heap a) (shown heap b)

  one_down : (depth ≡ 0 → ⊥) → order_within heap depth a b ≡ visit below
  one_down ne = let e : depth ≡ suc (depth - 1) = omega arith in ap (λ (d : ℕ). order_within heap d a b) e

  -- no visit is left
  pub halted : (old : Option ℕ) → (depth ≡ 0 → ⊥) → spent old ≡ None → run (order_within heap depth a b) old ≡ (Err Spent, old)
  halted old ne h = ap (λ (walk : Walk Found). run walk old) (one_down ne) ∙ run_spent below old h

  -- a visit, and then what is left to be ordered
  pub went : (old mid new : Option ℕ) (r : Result Found Halt) (walk : Walk Found) → (depth ≡ 0 → ⊥) → spent old ≡ Some mid → walk ≡ below → run walk mid ≡ (r, new)
      → run (order_within heap depth a b) old ≡ (r, new)
  went old mid new r walk ne h is e =
      ap (λ (w : Walk Found). run w old) (one_down ne) ∙ (run_visit below old mid h ∙ (sym (ap (λ (w : Walk Found). run w mid) is) ∙ e))

pub order_is : (heap : PlainHeap) (a b : Val) → order heap a b ≡ order_within heap 32 a b
unfolding order
order_is heap a b = refl

-- The search for an equal item, one item after another.
use Rattle.std.proofs.Common.{◌≡◌, ℕ, ◌+◌, ◌≤◌, List, Bool, true, false, Option, Some, Result, Ok, length, map, drop, ap, ◌∙◌}
use Rattle.std.specs.Prelude.{slice_get}
use Rattle.py_primitives.specs.mpy_base.Val.{Val}
use Rattle.py_primitives.specs.py_values.Shown.{PlainHeap}
use Rattle.py_primitives.specs.py_values.Equality.{Walk, answers, equal, equal_within}
use Rattle.py_primitives.specs.Operators.{contains_equal}
use Rattle.prim_walks.specs.declared.budget.Halt.{Halt}
use Rattle.prim_walks.specs.Runs.{run}
use Rattle.prim_walks.proofs.RunSteps.{run_next, run_then, run_answers}
use Rattle.prim_walks.proofs.EqualSteps.{dropped, none_left, equal_is}

module _ {X : Type 0} (heap : PlainHeap) (w : Val) (f : X → Val) where
  -- what follows the comparison of an item
  abbrev pub behind_item : List Val → Bool → Walk Bool
  behind_item others true = answers true
  behind_item others false = contains_equal heap w others

  pub contains_step : (xs : List X) (at : ℕ) (x : X) (old new : Option ℕ) (r : Result Bool Halt) → slice_get xs at ≡ Some x → run (equal_within heap 32 (f x) w) old ≡ (r, new)
      → run (contains_equal heap w (drop at (map f xs))) old ≡ run_next (behind_item (drop (at + 1) (map f xs))) r new
  contains_step xs at x old new r is_x e =
      let next = behind_item (drop (at + 1) (map f xs)) in
      ap (λ (zs : List Val). run (contains_equal heap w zs) old) (dropped f xs at x is_x)
      ∙ (run_then next (equal heap (f x) w) old
      ∙ (ap (λ (walk : Walk Bool). run_next next (run walk old).0 (run walk old).1) (equal_is heap (f x) w) ∙ ap (λ (p : Result Bool Halt × Option ℕ). run_next next p.0 p.1) e))

  pub contains_end : (xs : List X) (at : ℕ) (left : Option ℕ) → length xs ≤ at → run (contains_equal heap w (drop at (map f xs))) left ≡ (Ok false, left)
  contains_end xs at left h = ap (λ (zs : List Val). run (contains_equal heap w zs) left) (none_left f xs at h) ∙ run_answers false left

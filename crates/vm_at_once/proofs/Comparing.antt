-- Two numbers that are compared.
use Rattle.std.proofs.Common.{◌≡◌, ℕ, ℤ, Bool, Some, Ok, Result, refl, ap, ◌∙◌}
use Rattle.std.specs.Prelude.{not}
use Rattle.std.specs.declared.cmp.Ordering.{Ordering}
use Rattle.std.specs.Ordering.{int_cmp, int_eq}
use Rattle.state_values.specs.mpy_base.Val.{Val, Int, Truth}
use Rattle.state_values.specs.bc_progress.py_values.Shown.{PlainHeap}
use Rattle.state_values.specs.bc_progress.py_values.Equality.{Walk}
use Rattle.state_values.specs.bc_progress.py_primitives.Order.{Sign, Unordered, has_sign}
use Rattle.state_values.specs.bc_progress.py_primitives.Outcome.{Outcome, gives, after_walk}
use Rattle.state_values.specs.bc_progress.py_primitives.Operators.{op_order, op_eq, op_ne, gives_order}
use Rattle.state_values.specs.bc_progress.bc_machine.Operations.{operator_at}
use Rattle.state_values.proofs.prim_comparisons_lemmas.TwoNumbers.{ordered_as, equal_as}
use Rattle.vm_at_once.specs.Numbers.{Gives}

abbrev truth_of : PlainHeap → Bool → Outcome Val
truth_of heap b = record { answer = Ok (Truth b); heap = heap; visits = 1 }

module _ (number : ℕ) (left right x y : ℤ) (holds : Bool) (is_left : x ≡ left) (is_right : y ≡ right) where
  same_order : int_cmp left right ≡ int_cmp x y
  same_order = rw (is_left, is_right) refl

  same_equal : int_eq left right ≡ int_eq x y
  same_equal = rw (is_left, is_right) refl

  pub ordered : (sign : Sign) → operator_at number ≡ Some (λ heap. op_order heap sign) → has_sign sign (int_cmp x y) ≡ holds → Gives number left right (Truth holds) 1
  ordered sign is h = (
    (λ heap. op_order heap sign),
    is,
    λ heap. ap (λ (w : Walk (Result Ordering Unordered)). after_walk heap w (gives_order heap sign)) (ordered_as heap (Int left) (Int right) left right refl refl)
        ∙ ap (truth_of heap) (ap (has_sign sign) same_order ∙ h),
  )

  pub equalled : operator_at number ≡ Some op_eq → int_eq x y ≡ holds → Gives number left right (Truth holds) 1
  equalled is h = (
    op_eq,
    is,
    λ heap. ap (λ (w : Walk Bool). after_walk heap w (λ (same : Bool). gives (Truth same) heap)) (equal_as heap (Int left) (Int right) left right refl refl)
        ∙ ap (truth_of heap) (same_equal ∙ h),
  )

  pub told_apart : operator_at number ≡ Some op_ne → not (int_eq x y) ≡ holds → Gives number left right (Truth holds) 1
  told_apart is h = (
    op_ne,
    is,
    λ heap. ap (λ (w : Walk Bool). after_walk heap w (λ (same : Bool). gives (Truth (not same)) heap)) (equal_as heap (Int left) (Int right) left right refl refl)
        ∙ ap (truth_of heap) (ap not same_equal ∙ h),
  )

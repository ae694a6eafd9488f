-- The walks of two numbers.
use Rattle.std.proofs.Common.{◌≡◌, ℤ, w32, to_z, of_z, Some, Ok, refl, ap, ◌∙◌}
use Rattle.std.specs.Ordering.{int_cmp, int_eq}
use Rattle.prim_faults.specs.arena_heap.Values.{IsSmall}
use Rattle.prim_faults.proofs.arena_objects_lemmas.RangeNumbers.{small_same}
use Rattle.prim_faults.specs.mpy_base.Val.{Val}
use Rattle.prim_faults.specs.py_values.Shown.{PlainHeap, Number, shown}
use Rattle.prim_faults.specs.py_values.Equality.{equal}
use Rattle.prim_faults.specs.py_primitives.Order.{order}

pub ordered_as : (heap : PlainHeap) (a b : Val) (x y : ℤ) → shown heap a ≡ Number x → shown heap b ≡ Number y → order heap a b ≡ record { answer = Some (Ok (int_cmp x y)); visits = 1 }
unfolding order
ordered_as heap a b x y is_x is_y = rw (is_x, is_y) refl

pub equal_as : (heap : PlainHeap) (a b : Val) (x y : ℤ) → shown heap a ≡ Number x → shown heap b ≡ Number y → equal heap a b ≡ record { answer = Some (int_eq x y); visits = 1 }
unfolding equal
equal_as heap a b x y is_x is_y = rw (is_x, is_y) refl

-- numbers of the code, as they are
pub compared : (x y : ℤ) → IsSmall x → IsSmall y → int_cmp (to_z w32 (of_z w32 x)) (to_z w32 (of_z w32 y)) ≡ int_cmp x y
compared x y p q = ap (λ (z : ℤ). int_cmp z (to_z w32 (of_z w32 y))) (small_same x p) ∙ ap (λ (z : ℤ). int_cmp x z) (small_same y q)

pub told_apart : (x y : ℤ) → IsSmall x → IsSmall y → int_eq (to_z w32 (of_z w32 x)) (to_z w32 (of_z w32 y)) ≡ int_eq x y
told_apart x y p q = ap (λ (z : ℤ). int_eq z (to_z w32 (of_z w32 y))) (small_same x p) ∙ ap (λ (z : ℤ). int_eq x z) (small_same y q)

-- Small integers of the code, as they are.
use Rattle.std.proofs.Common.{◌≡◌, ℤ, w32, to_z, of_z, ap, ◌∙◌}
use Rattle.prim_operators.specs.arena_heap.Values.{IsSmall}
use Rattle.prim_operators.proofs.arena_objects_lemmas.RangeNumbers.{small_same}

abbrev pub kept : ℤ → ℤ
kept z = to_z w32 (of_z w32 z)

pub one_same : {A : Type 0} (f : ℤ → A) (x : ℤ) → IsSmall x → f (kept x) ≡ f x
one_same f x p = ap f (small_same x p)

pub two_same : {A : Type 0} (f : ℤ → ℤ → A) (x y : ℤ) → IsSmall x → IsSmall y → f (kept x) (kept y) ≡ f x y
two_same f x y p q = ap (λ (t : ℤ). f t (kept y)) (small_same x p) ∙ one_same (f x) y q

pub three_same : {A : Type 0} (f : ℤ → ℤ → ℤ → A) (x y z : ℤ) → IsSmall x → IsSmall y → IsSmall z → f (kept x) (kept y) (kept z) ≡ f x y z
three_same f x y z p q r = ap (λ (t : ℤ). f t (kept y) (kept z)) (small_same x p) ∙ two_same (f x) y z q r

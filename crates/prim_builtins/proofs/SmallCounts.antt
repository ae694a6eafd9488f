-- Numbers that are no less than 0, as small integers.
use Rattle.std.proofs.Common.{◌≡◌, ◌^◌, ◌<◌, ◌≤◌, ℕ, pos, w32, to_z, ◌≤ℤ◌, arith}
use Rattle.std.proofs.lemmas.Int.{ints}
use Rattle.prim_operators.specs.py_values.Range.{IsSmall}

pub count_small : (n : ℕ) → n < 2 ^ 30 → IsSmall (pos n)
count_small n lt = grind (arith, ints)

pub count_same : (n : ℕ) → n < 2 ^ 30 → to_z w32 n ≡ pos n
count_same n lt = omega (arith, ints)

pub count_big : (n : ℕ) → 2 ^ 30 ≤ n → pos (2 ^ 30) ≤ℤ pos n
count_big n le = grind (arith, ints)

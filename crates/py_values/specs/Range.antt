-- The range of the small integers.
use Rattle.std.specs.Prelude.{ℤ, pos, neg_ℤ, ◌^◌, ◌≤ℤ◌, ◌<ℤ◌, Bool, ◌&&◌, int_le, int_lt}

-- from -2^30 to 2^30 - 1
abbrev pub IsSmall : ℤ → Type 0
IsSmall z = (neg_ℤ (pos (2 ^ 30)) ≤ℤ z) × (z <ℤ pos (2 ^ 30))

-- from -2^30 to 2^30 - 1, as a test
abbrev pub is_small : ℤ → Bool
is_small z = int_le (neg_ℤ (pos (2 ^ 30))) z && int_lt z (pos (2 ^ 30))

-- Bits of whole numbers, in two's complement without end: `negsuc n`, which is -n - 1, has the bits of n turned over.
use Rattle.std.specs.Prelude.{ℕ, ◌-◌, ℤ, pos, negsuc, bit_and, bit_or, bit_xor}
use Rattle.std.specs.Int.{bit_at}

-- the bits of m that n lacks
abbrev pub without : ℕ → ℕ → ℕ
without m n = m - bit_and m n

-- the bits that both have
abbrev pub int_and : ℤ → ℤ → ℤ
int_and (pos m) (pos n) = pos (bit_and m n)
int_and (pos m) (negsuc n) = pos (without m n)
int_and (negsuc m) (pos n) = pos (without n m)
int_and (negsuc m) (negsuc n) = negsuc (bit_or m n)

-- the bits that one has at least
abbrev pub int_or : ℤ → ℤ → ℤ
int_or (pos m) (pos n) = pos (bit_or m n)
int_or (pos m) (negsuc n) = negsuc (without n m)
int_or (negsuc m) (pos n) = negsuc (without m n)
int_or (negsuc m) (negsuc n) = negsuc (bit_and m n)

-- the bits that only one has
abbrev pub int_xor : ℤ → ℤ → ℤ
int_xor (pos m) (pos n) = pos (bit_xor m n)
int_xor (pos m) (negsuc n) = negsuc (bit_xor m n)
int_xor (negsuc m) (pos n) = negsuc (bit_xor m n)
int_xor (negsuc m) (negsuc n) = pos (bit_xor m n)

-- bit i of a number
abbrev pub bit_of : ℤ → ℕ → ℕ
bit_of (pos n) i = bit_at n i
bit_of (negsuc n) i = 1 - bit_at n i

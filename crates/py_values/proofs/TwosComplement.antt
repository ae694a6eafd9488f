-- Bits of whole numbers: bit by bit, and as 32 bits have them.
use Rattle.std.proofs.Common.{◌≡◌, ℕ, zero, suc, ◌+◌, ◌-◌, ◌%◌, ◌^◌, ◌<◌, min, max, ℤ, pos, negsuc, bit_and, bit_or, bit_xor, w32, w64, SFits, to_z, of_z, to_z-of_z, refl, sym, ap, ap₂, ◌∙◌, arith}
use Rattle.std.proofs.lemmas.Nat.{and-not, and_comm, and_le_l, and_le_r, and_assoc, or_lt, xor_lt}
use Rattle.std.specs.Int.Bits.{or_add_and, xor_add_and, and_self}
use Rattle.std.specs.Int.{bit_at}
use Rattle.std.proofs.lemmas.Nat.Bits.{bit_at_and, bit_at_or, bit_at_xor, bit_at-lt, bit_at_above, same_from_bits}
use Rattle.py_values.specs.Range.{IsSmall}
use Rattle.py_values.proofs.Range.{small_fits, widened}
use Rattle.py_values.specs.Bits.{without, int_and, int_or, int_xor, bit_of}

-- ---- bit by bit

without_is : (m n : ℕ) → without m n ≡ bit_xor m (bit_and m n)
without_is m n =
    let e = sym (and_assoc n m m) ∙ ap (λ k. bit_and k n) (and_self m) in
    omega (arith, xor_add_and m (bit_and m n), e, and_le_l m n)

less : (x y : ℕ) → x < 2 → y < 2 → (x + min x y) % 2 ≡ min x (1 - y)
less x y p q = omega arith

bit_at-without : (m n i : ℕ) → bit_at (without m n) i ≡ min (bit_at m i) (1 - bit_at n i)
bit_at-without m n i =
    ap (λ k. bit_at k i) (without_is m n) ∙ bit_at_xor m (bit_and m n) i ∙ ap (λ k. (bit_at m i + k) % 2) (bit_at_and m n i)
    ∙ less (bit_at m i) (bit_at n i) (bit_at-lt m i) (bit_at-lt n i)

pub bit_of-and : (a b : ℤ) (i : ℕ) → bit_of (int_and a b) i ≡ min (bit_of a i) (bit_of b i)
bit_of-and (pos m) (pos n) i = bit_at_and m n i
bit_of-and (pos m) (negsuc n) i = bit_at-without m n i
bit_of-and (negsuc m) (pos n) i = omega (arith, bit_at-without n m i)
bit_of-and (negsuc m) (negsuc n) i = omega (arith, bit_at_or m n i)

pub bit_of-or : (a b : ℤ) (i : ℕ) → bit_of (int_or a b) i ≡ max (bit_of a i) (bit_of b i)
bit_of-or (pos m) (pos n) i = bit_at_or m n i
bit_of-or (pos m) (negsuc n) i = omega (arith, bit_at-without n m i, bit_at-lt m i, bit_at-lt n i)
bit_of-or (negsuc m) (pos n) i = omega (arith, bit_at-without m n i, bit_at-lt m i, bit_at-lt n i)
bit_of-or (negsuc m) (negsuc n) i = omega (arith, bit_at_and m n i)

pub bit_of-xor : (a b : ℤ) (i : ℕ) → bit_of (int_xor a b) i ≡ (bit_of a i + bit_of b i) % 2
bit_of-xor (pos m) (pos n) i = bit_at_xor m n i
bit_of-xor (pos m) (negsuc n) i = omega (arith, bit_at_xor m n i, bit_at-lt m i, bit_at-lt n i)
bit_of-xor (negsuc m) (pos n) i = omega (arith, bit_at_xor m n i, bit_at-lt m i, bit_at-lt n i)
bit_of-xor (negsuc m) (negsuc n) i = omega (arith, bit_at_xor m n i, bit_at-lt m i, bit_at-lt n i)

below_pow : (n : ℕ) → n < 2 ^ n
below_pow zero = omega arith
below_pow (suc n) = omega (arith, below_pow n)

-- a number's bits end in the bits of its sign
apart : (m n : ℕ) → ((i : ℕ) → bit_at m i ≡ 1 - bit_at n i) → ⊥
apart m n h =
    let k = m + n in
    omega (arith, h k, bit_at_above m m k (below_pow m) (omega arith), bit_at_above n n k (below_pow n) (omega arith))

pub same_bits : (a b : ℤ) → ((i : ℕ) → bit_of a i ≡ bit_of b i) → a ≡ b
same_bits (pos m) (pos n) h = ap pos (same_from_bits m n h)
same_bits (pos m) (negsuc n) h = absurd (apart m n h)
same_bits (negsuc m) (pos n) h = absurd (apart n m (λ i. sym (h i)))
same_bits (negsuc m) (negsuc n) h = ap negsuc (same_from_bits m n (λ i. omega (arith, h i, bit_at-lt m i, bit_at-lt n i)))

-- ---- as 32 bits have them

and_not : (m n : ℕ) → m < 2 ^ 32 → n < 2 ^ 32 → bit_and m (2 ^ 32 - suc n) ≡ without m n
and_not m n p q =
    let e : 2 ^ 32 - suc n ≡ 2 ^ 32 - 1 - n = omega arith in
    ap (bit_and m) e ∙ and_comm m (2 ^ 32 - 1 - n) ∙ omega (arith, and-not 32 n m q p, and_comm n m)

neither : (m n : ℕ) → m < 2 ^ 31 → n < 2 ^ 31 → bit_and (2 ^ 32 - suc m) (2 ^ 32 - suc n) ≡ 2 ^ 32 - suc (bit_or m n)
neither m n p q =
    let x = 2 ^ 32 - suc m in
    let u = and_not x n (omega arith) (omega arith) in
    let v = and_comm x n ∙ and_not n m (omega arith) (omega arith) in
    omega (arith, u, v, or_add_and m n, and_comm m n, and_le_l n m)

and_bits : (a b : ℤ) → SFits w32 a → SFits w32 b → bit_and (of_z w32 a) (of_z w32 b) ≡ of_z w32 (int_and a b)
and_bits (pos m) (pos n) f g = refl
and_bits (pos m) (negsuc n) f g = and_not m n (omega arith) (omega arith)
and_bits (negsuc m) (pos n) f g = and_comm (2 ^ 32 - suc m) n ∙ and_not n m (omega arith) (omega arith)
and_bits (negsuc m) (negsuc n) f g = neither m n f.sfits g.sfits

or_bits : (a b : ℤ) → SFits w32 a → SFits w32 b → bit_or (of_z w32 a) (of_z w32 b) ≡ of_z w32 (int_or a b)
or_bits (pos m) (pos n) f g = refl
or_bits (pos m) (negsuc n) f g =
    omega (arith, or_add_and (of_z w32 (pos m)) (of_z w32 (negsuc n)), and_bits (pos m) (negsuc n) f g, and_comm m n, and_le_l m n, and_le_l n m)
or_bits (negsuc m) (pos n) f g =
    omega (arith, or_add_and (of_z w32 (negsuc m)) (of_z w32 (pos n)), and_bits (negsuc m) (pos n) f g, and_comm m n, and_le_l m n, and_le_l n m)
or_bits (negsuc m) (negsuc n) f g =
    omega (arith, or_add_and (of_z w32 (negsuc m)) (of_z w32 (negsuc n)), and_bits (negsuc m) (negsuc n) f g, or_add_and m n, and_le_l m n, or_lt 31 m n f.sfits g.sfits)

xor_bits : (a b : ℤ) → SFits w32 a → SFits w32 b → bit_xor (of_z w32 a) (of_z w32 b) ≡ of_z w32 (int_xor a b)
xor_bits (pos m) (pos n) f g = refl
xor_bits (pos m) (negsuc n) f g =
    omega (arith, xor_add_and (of_z w32 (pos m)) (of_z w32 (negsuc n)), and_bits (pos m) (negsuc n) f g, xor_add_and m n, and_le_l m n, xor_lt 31 m n f.sfits g.sfits)
xor_bits (negsuc m) (pos n) f g =
    omega (arith, xor_add_and (of_z w32 (negsuc m)) (of_z w32 (pos n)), and_bits (negsuc m) (pos n) f g, xor_add_and m n, and_comm m n, and_le_r m n, xor_lt 31 m n f.sfits g.sfits)
xor_bits (negsuc m) (negsuc n) f g =
    omega (arith, xor_add_and (of_z w32 (negsuc m)) (of_z w32 (negsuc n)), and_bits (negsuc m) (negsuc n) f g, or_add_and m n, xor_add_and m n, or_lt 31 m n f.sfits g.sfits)

and_fits : (a b : ℤ) → SFits w32 a → SFits w32 b → SFits w32 (int_and a b)
and_fits (pos m) (pos n) f g = record { sfits = omega (arith, and_le_l m n) }
and_fits (pos m) (negsuc n) f g = record { sfits = omega arith }
and_fits (negsuc m) (pos n) f g = record { sfits = omega arith }
and_fits (negsuc m) (negsuc n) f g = record { sfits = or_lt 31 m n f.sfits g.sfits }

or_fits : (a b : ℤ) → SFits w32 a → SFits w32 b → SFits w32 (int_or a b)
or_fits (pos m) (pos n) f g = record { sfits = or_lt 31 m n f.sfits g.sfits }
or_fits (pos m) (negsuc n) f g = record { sfits = omega arith }
or_fits (negsuc m) (pos n) f g = record { sfits = omega arith }
or_fits (negsuc m) (negsuc n) f g = record { sfits = omega (arith, and_le_l m n) }

xor_fits : (a b : ℤ) → SFits w32 a → SFits w32 b → SFits w32 (int_xor a b)
xor_fits (pos m) (pos n) f g = record { sfits = xor_lt 31 m n f.sfits g.sfits }
xor_fits (pos m) (negsuc n) f g = record { sfits = xor_lt 31 m n f.sfits g.sfits }
xor_fits (negsuc m) (pos n) f g = record { sfits = xor_lt 31 m n f.sfits g.sfits }
xor_fits (negsuc m) (negsuc n) f g = record { sfits = xor_lt 31 m n f.sfits g.sfits }

module _ (a b x y r : ℤ) (p : x ≡ a) (q : y ≡ b) (s : IsSmall a) (t : IsSmall b) where
  pub and_result : r ≡ to_z w32 (bit_and (of_z w32 x) (of_z w32 y)) → to_z w64 (of_z w64 r) ≡ int_and a b
  and_result e =
      let f = small_fits a s in
      let g = small_fits b t in
      let bits = ap₂ (λ k l. to_z w32 (bit_and (of_z w32 k) (of_z w32 l))) p q ∙ ap (to_z w32) (and_bits a b f g) in
      widened r (int_and a b) (e ∙ bits ∙ to_z-of_z (and_fits a b f g)) (and_fits a b f g)

  pub or_result : r ≡ to_z w32 (bit_or (of_z w32 x) (of_z w32 y)) → to_z w64 (of_z w64 r) ≡ int_or a b
  or_result e =
      let f = small_fits a s in
      let g = small_fits b t in
      let bits = ap₂ (λ k l. to_z w32 (bit_or (of_z w32 k) (of_z w32 l))) p q ∙ ap (to_z w32) (or_bits a b f g) in
      widened r (int_or a b) (e ∙ bits ∙ to_z-of_z (or_fits a b f g)) (or_fits a b f g)

  pub xor_result : r ≡ to_z w32 (bit_xor (of_z w32 x) (of_z w32 y)) → to_z w64 (of_z w64 r) ≡ int_xor a b
  xor_result e =
      let f = small_fits a s in
      let g = small_fits b t in
      let bits = ap₂ (λ k l. to_z w32 (bit_xor (of_z w32 k) (of_z w32 l))) p q ∙ ap (to_z w32) (xor_bits a b f g) in
      widened r (int_xor a b) (e ∙ bits ∙ to_z-of_z (xor_fits a b f g)) (xor_fits a b f g)

-- Numbers as they are put: those that have a spelling, and those that have none.
use Rattle.std.proofs.Common.{◌≡◌, ℕ, ◌+◌, ◌-◌, ◌/◌, ◌%◌, ◌<◌, ◌≤◌, ◌^◌, ℤ, pos, negsuc, neg_ℤ, ◌≤ℤ◌, ◌<ℤ◌, w32, SFits, to_z, of_z, int_lt, Bool, true, false, [], ◌∷◌, length, inl, inr, refl, sym, ap, ap₂, arith, length-append}
use Rattle.std.specs.Prelude.{◌&&◌, if◌then◌else◌}
use Rattle.std.proofs.lemmas.Bool.{cases_lt, lt-ltb, le-ltb, le-leb, lt-leb}
use Rattle.std.proofs.lemmas.Int.{ints}
use Rattle.std.proofs.lemmas.List.{length-replicate}
use Rattle.mpy_base.specs.Vuint.{vuint, high_groups}
use Rattle.bc_ops.specs.Signed.{IsSmall, magnitude, signed}
use Rattle.snap_grammar.specs.Spelling.{most}
use Rattle.snap_saving.specs.Put.{integer, left, number, overlong, zeros}

length-zeros : (count : ℕ) → length (zeros count) ≡ count
unfolding zeros
length-zeros count = length-replicate count 0

long_overlong : length overlong ≡ most + 1
unfolding overlong
long_overlong = length-zeros (most + 1)

vuint_some : (n : ℕ) → 1 ≤ length (vuint n)
unfolding vuint
vuint_some n = omega (arith, length-append (high_groups 4 (n / 128)) ((n % 128) ∷ []))

-- numbers
pub small_number : (n : ℕ) → n < 2 ^ 31 → vuint n ≡ number n
unfolding number
small_number n lt = sym (ap (λ (b : Bool). if b then vuint n else overlong) (lt-ltb n (2 ^ 31) lt))

pub no_number : (n : ℕ) → 2 ^ 31 ≤ n → overlong ≡ number n
unfolding number
no_number n le = sym (ap (λ (b : Bool). if b then vuint n else overlong) (le-ltb n (2 ^ 31) le))

pub number_short : (n : ℕ) → length (number n) ≤ most → n < 2 ^ 31
number_short n short = elim (cases_lt n (2 ^ 31)) [
  | inl lt ↦ lt
  | inr ge ↦ absurd (omega (arith, short, ap length (no_number n ge), long_overlong))
]

pub number_some : (n : ℕ) → 1 ≤ length (number n)
number_some n = elim (cases_lt n (2 ^ 31)) [
  | inl lt ↦ omega (arith, ap length (small_number n lt), vuint_some n)
  | inr ge ↦ omega (arith, ap length (no_number n ge), long_overlong)
]

-- signed numbers
pub passed : (z : ℤ) → SFits w32 z → to_z w32 (of_z w32 z) ≡ z
passed z f = omega (arith, ints)

low : (z : ℤ) → SFits w32 z → int_lt (to_z w32 (of_z w32 z)) (neg_ℤ (pos (2 ^ 30))) ≡ true → z <ℤ neg_ℤ (pos (2 ^ 30))
low z f h = grind (arith, ints)

high : (z : ℤ) → SFits w32 z → int_lt (pos (2 ^ 30 - 1)) (to_z w32 (of_z w32 z)) ≡ true → pos (2 ^ 30) ≤ℤ z
high z f h = grind (arith, ints)

least : (z : ℤ) → SFits w32 z → int_lt (to_z w32 (of_z w32 z)) (neg_ℤ (pos (2 ^ 30))) ≡ false → neg_ℤ (pos (2 ^ 30)) ≤ℤ z
least z f h = grind (arith, ints)

greatest : (z : ℤ) → SFits w32 z → int_lt (pos (2 ^ 30 - 1)) (to_z w32 (of_z w32 z)) ≡ false → z <ℤ pos (2 ^ 30)
greatest z f h = grind (arith, ints)

below : (z : ℤ) → z <ℤ neg_ℤ (pos (2 ^ 30)) → IsSmall z → ⊥
below (pos n) lt is = omega (arith, ints, lt)
below (negsuc n) lt is = omega (arith, ints, lt, is)

above : (z : ℤ) → pos (2 ^ 30) ≤ℤ z → IsSmall z → ⊥
above (pos n) le is = omega (arith, ints, le, is)
above (negsuc n) le is = omega (arith, ints, le)

between : (z : ℤ) → neg_ℤ (pos (2 ^ 30)) ≤ℤ z → z <ℤ pos (2 ^ 30) → IsSmall z
between (pos n) le lt = omega (arith, ints, lt)
between (negsuc n) le lt = omega (arith, ints, le)

pub too_low : (z : ℤ) → SFits w32 z → int_lt (to_z w32 (of_z w32 z)) (neg_ℤ (pos (2 ^ 30))) ≡ true → IsSmall z → ⊥
too_low z f h is = below z (low z f h) is

pub too_high : (z : ℤ) → SFits w32 z → int_lt (pos (2 ^ 30 - 1)) (to_z w32 (of_z w32 z)) ≡ true → IsSmall z → ⊥
too_high z f h is = above z (high z f h) is

pub in_range : (z : ℤ) → SFits w32 z → int_lt (to_z w32 (of_z w32 z)) (neg_ℤ (pos (2 ^ 30))) ≡ false
    → int_lt (pos (2 ^ 30 - 1)) (to_z w32 (of_z w32 z)) ≡ false → IsSmall z
in_range z f h k = between z (least z f h) (greatest z f k)

pub small_integer : (z : ℤ) → IsSmall z → signed z ≡ integer z
unfolding integer
small_integer z lt = sym (ap (λ (b : Bool). if b then signed z else overlong) (lt-ltb (magnitude z) (2 ^ 30) lt))

big_integer : (z : ℤ) → 2 ^ 30 ≤ magnitude z → overlong ≡ integer z
unfolding integer
big_integer z le = sym (ap (λ (b : Bool). if b then signed z else overlong) (le-ltb (magnitude z) (2 ^ 30) le))

pub no_integer : (z : ℤ) → (IsSmall z → ⊥) → overlong ≡ integer z
no_integer z big = elim (cases_lt (magnitude z) (2 ^ 30)) [
  | inl lt ↦ absurd (big lt)
  | inr ge ↦ big_integer z ge
]

pub integer_short : (z : ℤ) → length (integer z) ≤ most → IsSmall z
integer_short z short = elim (cases_lt (magnitude z) (2 ^ 30)) [
  | inl lt ↦ lt
  | inr ge ↦ absurd (omega (arith, short, ap length (big_integer z ge), long_overlong))
]

-- how many slots of an iterator are left
pub left_is : (many : ℕ) → 1 ≤ many → many ≤ 3 → vuint many ≡ left many
unfolding left
left_is many least few = sym (ap₂ (λ (a b : Bool). if a && b then vuint many else overlong) (le-leb 1 many least) (le-leb many 3 few))

left_none : (many : ℕ) → 3 < many → overlong ≡ left many
unfolding left
left_none many more = sym (ap₂ (λ (a b : Bool). if a && b then vuint many else overlong) (le-leb 1 many (omega (arith, more))) (lt-leb many 3 more))

left_zero : overlong ≡ left 0
unfolding left
left_zero = refl

pub few_left : (part : ℕ) → part < 3 → vuint (part + 1) ≡ left (part + 1)
few_left part lt = left_is (part + 1) (omega arith) (omega (arith, lt))

pub many_left : (part : ℕ) → 3 ≤ part → overlong ≡ left (part + 1)
many_left part le = left_none (part + 1) (omega (arith, le))

pub left_short : (many : ℕ) → length (left many) ≤ most → (1 ≤ many) × (many ≤ 3)
left_short many short = elim (cases_lt 3 many) [
  | inl more ↦ absurd (omega (arith, short, ap length (left_none many more), long_overlong))
  | inr few ↦ elim (cases_lt many 1) [
    | inl none ↦
        let zero : many ≡ 0 = omega (arith, none) in
        absurd (omega (arith, short, ap length left_zero, ap (λ (n : ℕ). length (left n)) zero, long_overlong))
    | inr some ↦ (some, few)
  ]
]

-- Offsets: bytes begin with one at most, and what is written for one is one.
use Rattle.std.proofs.Common.{◌≡◌, ℕ, ◌+◌, ◌*◌, ◌/◌, ◌%◌, ◌<◌, ◌≤◌, Bool, true, false, List, [], ◌∷◌, ◌++◌, length, get_or, ℤ, pos, ◌+ℤ◌, ◌-ℤ◌, unsigned_abs, refl, ap, sym, ◌∙◌, arith}
use Rattle.std.proofs.lemmas.List.{length-append, append-nil}
use Rattle.std.proofs.lemmas.Int.{ints}
use Rattle.bc_ops.specs.Offset.{bias, limit, bytes_of, Spells, EndsInside, Fits, offset_bytes}

-- the number of an offset's bytes, with whatever follows, and their count
same_number : (v w : Bool) (m n : ℕ) (x y : List ℕ) → m < limit v → n < limit w → bytes_of v m ++ x ≡ bytes_of w n ++ y → (v ≡ w) × (m ≡ n)
same_number false false m n x y p q e = (refl, cc)
same_number false true m n x y p q e =
    let firsts : m ≡ 128 + n % 128 = cc in
    absurd (omega arith)
same_number true false m n x y p q e =
    let firsts : 128 + m % 128 ≡ n = cc in
    absurd (omega arith)
same_number true true m n x y p q e =
    let firsts : 128 + m % 128 ≡ 128 + n % 128 = cc in
    let seconds : m / 128 ≡ n / 128 = cc in
    (refl, omega arith)

pub one_offset : (signed v w : Bool) (a b x y : List ℕ) (m n : ℤ) → Spells signed v a m → Spells signed w b n → a ++ x ≡ b ++ y → (a ≡ b) × (v ≡ w) × (m ≡ n)
one_offset signed v w a b x y m n s t e =
    let same = same_number v w s.n t.n x y s.fits t.fits (sym (ap (λ (z : List ℕ). z ++ x) s.bytes_are) ∙ (e ∙ ap (λ (z : List ℕ). z ++ y) t.bytes_are)) in
    let widths : v ≡ w = same.0 in
    let numbers : s.n ≡ t.n = same.1 in
    let first : a ≡ bytes_of v s.n = s.bytes_are in
    let second : b ≡ bytes_of w t.n = t.bytes_are in
    let left : m ≡ pos s.n -ℤ pos (bias signed v) = s.number in
    let right : n ≡ pos t.n -ℤ pos (bias signed w) = t.number in
    (cc, widths, cc)

ends_inside : (wide : Bool) (n : ℕ) (bytes rest : List ℕ) → n < limit wide → bytes ≡ bytes_of wide n ++ rest → EndsInside bytes → ⊥
ends_inside false n [] rest fits e inside = absurd cc
ends_inside true n [] rest fits e inside = absurd cc
ends_inside false n (a ∷ []) rest fits e inside = let first : a ≡ n = cc in omega (arith, inside)
ends_inside true n (a ∷ []) rest fits e inside = absurd cc
ends_inside wide n (a ∷ b ∷ bytes) rest fits e inside = inside

-- bytes with an offset in front don't end inside it
pub not_inside : (signed wide : Bool) (bytes text rest : List ℕ) (z : ℤ) → Spells signed wide text z → bytes ≡ text ++ rest → EndsInside bytes → ⊥
not_inside signed wide bytes text rest z s e inside =
    ends_inside wide s.n bytes rest s.fits (e ∙ ap (λ (ys : List ℕ). ys ++ rest) s.bytes_are) inside

-- nor behind it where a byte follows
pub not_behind : (signed v w : Bool) (bytes text rest : List ℕ) (byte : ℕ) (y z : ℤ) → Spells signed v text z → bytes ≡ text ++ byte ∷ rest → Spells signed w bytes y → ⊥
not_behind signed v w bytes text rest byte y z s e t =
    let no_more : bytes ++ [] ≡ text ++ byte ∷ rest = simp append-nil e in
    let same = one_offset signed w v bytes text [] (byte ∷ rest) y z t s no_more in
    omega (arith, ap length same.0, ap length e, length-append text (byte ∷ rest))

pub offset_bound : (signed wide : Bool) (bytes : List ℕ) (z : ℤ) → Spells signed wide bytes z → Fits signed wide z
offset_bound signed wide bytes z s = record { least = omega (arith, ints, s.number); below = omega (arith, ints, s.number, s.fits) }

pub offset_spelled : (signed wide : Bool) (z : ℤ) → Fits signed wide z → Spells signed wide (offset_bytes signed wide z) z
offset_spelled signed wide z fits = record {
  n = unsigned_abs (z +ℤ pos (bias signed wide));
  bytes_are = refl;
  fits = omega (arith, ints, fits.least, fits.below);
  number = omega (arith, ints, fits.least, fits.below);
}

size_of : Bool → ℕ
size_of false = 1
size_of true = 2

length-bytes_of : (wide : Bool) (n : ℕ) → length (bytes_of wide n) ≡ size_of wide
unfolding size_of
length-bytes_of false n = refl
length-bytes_of true n = refl

-- each spelling has the size of what is written
pub offset_size : (signed v w : Bool) (bytes : List ℕ) (y z : ℤ) → Spells signed w bytes z → length (offset_bytes v w y) ≡ length bytes
offset_size signed v w bytes y z s = length-bytes_of w _ ∙ sym (ap length s.bytes_are ∙ length-bytes_of w s.n)

-- what is read of one byte, and of two
pub read_narrow : (bytes : List ℕ) (signed : Bool) (z : ℤ) → 0 < length bytes → get_or bytes 0 0 < 128 → z ≡ pos (get_or bytes 0 0) -ℤ pos (bias signed false) → (text rest : List ℕ) × Spells signed false text z × (bytes ≡ text ++ rest) × (1 ≡ length text)
read_narrow [] signed z some small is = absurd (omega arith)
read_narrow (byte ∷ bytes) signed z some small is = (byte ∷ [], bytes, record { n = byte; bytes_are = refl; fits = small; number = is }, refl, refl)

pub read_wide : (bytes : List ℕ) (signed : Bool) (z : ℤ) → 2 ≤ length bytes → 128 ≤ get_or bytes 0 0 → get_or bytes 0 0 < 256 → get_or bytes 1 0 < 256 → z ≡ pos (get_or bytes 0 0 % 128 + 128 * get_or bytes 1 0) -ℤ pos (bias signed true) → (text rest : List ℕ) × Spells signed true text z × (bytes ≡ text ++ rest) × (2 ≡ length text)
read_wide [] signed z some more b c is = absurd (omega arith)
read_wide (low ∷ []) signed z some more b c is = absurd (omega arith)
read_wide (low ∷ high ∷ bytes) signed z some more b c is =
    let first : low ≡ 128 + (low % 128 + 128 * high) % 128 = omega arith in
    let second : high ≡ (low % 128 + 128 * high) / 128 = omega arith in
    (low ∷ high ∷ [], bytes, record { n = low % 128 + 128 * high; bytes_are = cc; fits = omega arith; number = is }, refl, refl)

pub bias_bound : (signed wide : Bool) → bias signed wide ≤ 0x4000
bias_bound false wide = omega arith
bias_bound true false = omega arith
bias_bound true true = omega arith

pub limit_bound : (wide : Bool) → limit wide ≤ 0x8000
limit_bound false = omega arith
limit_bound true = omega arith

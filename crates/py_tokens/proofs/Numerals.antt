-- Each run of bytes is read as a number or refused.
use Rattle.std.proofs.Common.{◌≡◌, ◌⊎◌, ℕ, ◌<◌, List, [], ◌∷◌, ◌++◌, slice_index, ℤ, pos, Result, Ok, Err, inl, inr, refl, ap, subst, arith}
use Rattle.py_tokens.specs.declared.number.NumberFault.{NumberFault}
use Rattle.py_tokens.specs.declared.number.NumberFault.TheVariants.{BadToken, Float, Complex, TooBig}
use Rattle.py_tokens.specs.Name.{IsDigit, IsLetter, IsNameStart, IsNamePart}
use Rattle.py_tokens.specs.Digits.{IsDigitOf, IsDigits, digit_value, value_of}
use Rattle.py_tokens.specs.Number.{IsRunPart, BeginsWithDigit, BeginsRun, IsMark, HasPrefix, HasNoPrefix, LooksFloat, LooksComplex, IsPlain, IsDecimal, Spells, Says}
use Rattle.py_tokens.proofs.Decided.{Decided, yes, no, both, either, negated, is_number, at_most, within, all, has_number}

-- bytes
-- =====

pub digit : (byte : ℕ) → Decided (IsDigit byte)
digit byte = within 48 byte 57

letter : (byte : ℕ) → Decided (IsLetter byte)
letter byte = either (within 65 byte 90) (within 97 byte 122)

pub name_start : (byte : ℕ) → Decided (IsNameStart byte)
name_start byte = either (letter byte) (is_number byte 95)

pub name_part : (byte : ℕ) → Decided (IsNamePart byte)
name_part byte = either (name_start byte) (digit byte)

pub run_part : (byte : ℕ) → Decided (IsRunPart byte)
run_part byte = either (name_part byte) (is_number byte 46)

pub below : (m n : ℕ) → Decided (m < n)
below m n = elim (at_most n m) [ yes h ↦ no (λ k. omega arith) | no h ↦ yes (omega arith) ]

pub digit_of : (base byte : ℕ) → Decided (IsDigitOf base byte)
digit_of base byte = both (either (digit byte) (letter byte)) (below (digit_value byte) base)

begins_with_digit : (bytes : List ℕ) → Decided (BeginsWithDigit bytes)
begins_with_digit [] = no (λ h. h)
begins_with_digit (b ∷ bs) = digit b

pub begins_run : (bytes : List ℕ) → Decided (BeginsRun bytes)
begins_run [] = no (λ h. h)
begins_run (b ∷ bs) = either (digit b) (both (is_number b 46) (begins_with_digit bs))

-- digits
-- ======

digits : (base : ℕ) (text : List ℕ) → Decided (IsDigits base text)
digits base [] = no (λ h. h)
digits base (b ∷ []) = digit_of base b
digits base (b ∷ n ∷ rest) = both (digit_of base b) (either (digits base (n ∷ rest)) (both (is_number n 95) (digits base rest)))

-- the letter that gives a base
abbrev Based : ℕ → Type 0
Based mark = (base : ℕ) × IsMark mark base

no_base : (mark base : ℕ) → ¬ ((mark ≡ 120) ⊎ (mark ≡ 88)) → ¬ ((mark ≡ 111) ⊎ (mark ≡ 79)) → ¬ ((mark ≡ 98) ⊎ (mark ≡ 66)) → IsMark mark base → ⊥
no_base mark base a b c (inl h) = a h.0
no_base mark base a b c (inr (inl h)) = b h.0
no_base mark base a b c (inr (inr h)) = c h.0

based : (mark : ℕ) → Decided (Based mark)
based mark = elim (either (is_number mark 120) (is_number mark 88)) [
  | yes h ↦ yes (16, inl (h, refl))
  | no a ↦ elim (either (is_number mark 111) (is_number mark 79)) [
    | yes h ↦ yes (8, inr (inl (h, refl)))
    | no b ↦ elim (either (is_number mark 98) (is_number mark 66)) [
      | yes h ↦ yes (2, inr (inr (h, refl)))
      | no c ↦ no (λ h. no_base mark h.0 a b c h.1)
    ]
  ]
]

abbrev Prefixed : List ℕ → Type 0
Prefixed run = (base : ℕ) × (digits : List ℕ) × HasPrefix run base digits

zero_with : (z m : ℕ) (ds : List ℕ) → Decided (z ≡ 48) → Decided (Based m) → Decided (Prefixed (z ∷ m ∷ ds))
zero_with z m ds (yes zero) (yes b) = yes (b.0, ds, (m, b.1, ap (λ q. q ∷ m ∷ ds) zero))
zero_with z m ds (yes zero) (no none) = no (λ h.
    let e : z ∷ m ∷ ds ≡ 48 ∷ h.2.0 ∷ h.1 = h.2.2 in
    let same : h.2.0 ≡ m = cc in
    none (h.0, subst (λ q. IsMark q h.0) same h.2.1))
zero_with z m ds (no other) b = no (λ h.
    let e : z ∷ m ∷ ds ≡ 48 ∷ h.2.0 ∷ h.1 = h.2.2 in
    let same : z ≡ 48 = cc in
    other same)

prefixed : (run : List ℕ) → Decided (Prefixed run)
prefixed [] = no (λ h. let e : [] ≡ 48 ∷ h.2.0 ∷ h.1 = h.2.2 in absurd cc)
prefixed (z ∷ []) = no (λ h. let e : z ∷ [] ≡ 48 ∷ h.2.0 ∷ h.1 = h.2.2 in absurd cc)
prefixed (z ∷ m ∷ ds) = zero_with z m ds (is_number z 48) (based m)

-- floats and imaginary numbers
-- ============================

looks_float : (run : List ℕ) → Decided (LooksFloat run)
looks_float run = either (has_number run 46) (either (has_number run 101) (has_number run 69))

complex_next : (a b : ℕ) (bs : List ℕ) → Decided (LooksComplex (b ∷ bs)) → Decided (LooksComplex (a ∷ b ∷ bs))
complex_next a b bs (yes h) = yes (a ∷ h.0, h.1, ap (λ z. a ∷ z) h.2, h.3)
complex_next a b bs (no none) = no (λ h. shorter h.0 h.1 h.2 h.3)
  where
    shorter : (front : List ℕ) (last : ℕ) → a ∷ b ∷ bs ≡ front ++ last ∷ [] → (last ≡ 106) ⊎ (last ≡ 74) → ⊥
    shorter [] last e is = absurd cc
    shorter (f ∷ front) last e is = let rest : b ∷ bs ≡ front ++ last ∷ [] = cc in none (front, last, rest, is)

last_alone : (a : ℕ) → Decided ((a ≡ 106) ⊎ (a ≡ 74)) → Decided (LooksComplex (a ∷ []))
last_alone a (yes h) = yes ([], a, refl, h)
last_alone a (no none) = no (λ h. shorter h.0 h.1 h.2 h.3)
  where
    shorter : (front : List ℕ) (last : ℕ) → a ∷ [] ≡ front ++ last ∷ [] → (last ≡ 106) ⊎ (last ≡ 74) → ⊥
    shorter [] last e is = let same : last ≡ a = cc in none (subst (λ q. (q ≡ 106) ⊎ (q ≡ 74)) same is)
    shorter (f ∷ []) last e is = absurd cc
    shorter (f ∷ g ∷ front) last e is = absurd cc

looks_complex : (run : List ℕ) → Decided (LooksComplex run)
looks_complex [] = no (λ h. shorter h.0 h.1 h.2)
  where
    shorter : (front : List ℕ) (last : ℕ) → [] ≡ front ++ last ∷ [] → ⊥
    shorter [] last e = absurd cc
    shorter (f ∷ front) last e = absurd cc
looks_complex (a ∷ []) = last_alone a (either (is_number a 106) (is_number a 74))
looks_complex (a ∷ b ∷ bs) = complex_next a b bs (looks_complex (b ∷ bs))

-- the answer
-- ==========

decimal : (run : List ℕ) → Decided (IsDecimal run)
decimal run = both (digits 10 run) (either (negated (is_number (slice_index run 0) 48)) (all (λ byte. either (is_number byte 48) (is_number byte 95)) run))

pub record Number (run : List ℕ) : Type 0 where
  pub value : Result ℤ NumberFault
  pub says : Says run value

spelled : (run : List ℕ) (n : ℕ) → Spells run n → Number run
spelled run n is = elim (at_most n 1073741823) [
  | yes small ↦ record { value = Ok (pos n); says = (n, refl, (is, small)) }
  | no large ↦ record { value = Err TooBig; says = (n, is, omega arith) }
]

with_prefix : (run : List ℕ) → Prefixed run → Number run
with_prefix run p = elim (digits p.0 p.1) [
  | yes are ↦ spelled run (value_of p.0 p.1) (inl (p.0, p.1, p.2, record { digits = are; value = refl }))
  | no none ↦ record { value = Err BadToken; says = inl (p.0, p.1, p.2, none) }
]

plain : (run : List ℕ) → IsPlain run → Number run
plain run is = elim (decimal run) [
  | yes are ↦ spelled run (value_of 10 run) (inr (is, are, record { digits = are.0; value = refl }))
  | no none ↦ record { value = Err BadToken; says = inr (is, none) }
]

without_prefix : (run : List ℕ) → HasNoPrefix run → Number run
without_prefix run none = elim (looks_float run) [
  | yes float ↦ record { value = Err Float; says = (none, float) }
  | no whole ↦ elim (looks_complex run) [
    | yes imaginary ↦ record { value = Err Complex; says = (none, whole, imaginary) }
    | no real ↦ plain run (none, whole, real)
  ]
]

pub number : (run : List ℕ) → Number run
number run = elim (prefixed run) [
  | yes p ↦ with_prefix run p
  | no none ↦ without_prefix run (λ base digits h. none (base, digits, h))
]

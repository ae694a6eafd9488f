-- Numbers, and the runs of bytes that are read as one.
use Rattle.std.specs.Prelude.{◌≡◌, ◌≢◌, ◌⊎◌, ℕ, ◌<◌, ◌≤◌, List, [], ◌∷◌, ◌++◌, All, Contains, slice_index, ℤ, pos, Result, Ok, Err}
use Rattle.py_tokens.specs.declared.number.NumberFault.{NumberFault}
use Rattle.py_tokens.specs.declared.number.NumberFault.TheVariants.{BadToken, Float, Complex, TooBig}
use Rattle.py_tokens.specs.Name.{IsDigit, IsNamePart}
use Rattle.py_tokens.specs.Digits.{IsDigits, Digits}

-- a letter, a digit, `_` or a dot
abbrev pub IsRunPart : ℕ → Type 0
IsRunPart byte = IsNamePart byte ⊎ (byte ≡ 46)

-- the first byte is a digit
abbrev pub BeginsWithDigit : List ℕ → Type 0
BeginsWithDigit [] = ⊥
BeginsWithDigit (first ∷ others) = IsDigit first

-- a run begins at a digit, or at a dot directly before one
abbrev pub BeginsRun : List ℕ → Type 0
BeginsRun [] = ⊥
BeginsRun (first ∷ others) = IsDigit first ⊎ ((first ≡ 46) × BeginsWithDigit others)

-- bytes that are read as one number, or refused as one
abbrev pub IsRun : List ℕ → Type 0
IsRun run = BeginsRun run × All IsRunPart run

-- the base that a letter behind a zero gives: `x`, `o` and `b`, small or capital
abbrev pub IsMark : ℕ → ℕ → Type 0
IsMark mark base =
    (((mark ≡ 120) ⊎ (mark ≡ 88)) × (base ≡ 16)) ⊎ (((mark ≡ 111) ⊎ (mark ≡ 79)) × (base ≡ 8)) ⊎ (((mark ≡ 98) ⊎ (mark ≡ 66)) × (base ≡ 2))

-- the run is a zero, a letter that gives the base, and the digits, or what stands in their place
abbrev pub HasPrefix : List ℕ → ℕ → List ℕ → Type 0
HasPrefix run base digits = (mark : ℕ) × IsMark mark base × (run ≡ 48 ∷ mark ∷ digits)

-- a dot or an `e`
abbrev pub LooksFloat : List ℕ → Type 0
LooksFloat run = Contains run 46 ⊎ Contains run 101 ⊎ Contains run 69

-- a `j` at the end
abbrev pub LooksComplex : List ℕ → Type 0
LooksComplex run = (front : List ℕ) × (last : ℕ) × (run ≡ front ++ last ∷ []) × ((last ≡ 106) ⊎ (last ≡ 74))

-- no digit but zeros
abbrev pub IsZeros : List ℕ → Type 0
IsZeros run = All (λ byte. (byte ≡ 48) ⊎ (byte ≡ 95)) run

-- no letter behind a zero gives a base
abbrev pub HasNoPrefix : List ℕ → Type 0
HasNoPrefix run = (base : ℕ) (digits : List ℕ) → ¬ HasPrefix run base digits

-- what is read as decimal digits
abbrev pub IsPlain : List ℕ → Type 0
IsPlain run = HasNoPrefix run × ¬ LooksFloat run × ¬ LooksComplex run

-- decimal digits, of which the first is no zero unless all are
abbrev pub IsDecimal : List ℕ → Type 0
IsDecimal run = IsDigits 10 run × ((slice_index run 0 ≢ 48) ⊎ IsZeros run)

-- the run is digits behind a prefix, or decimal digits, and they give the number, however large
abbrev pub Spells : List ℕ → ℕ → Type 0
Spells run n =
    ((base : ℕ) × (digits : List ℕ) × HasPrefix run base digits × Digits base digits n) ⊎ (IsPlain run × IsDecimal run × Digits 10 run n)

-- the greatest small integer is 2^30 - 1
abbrev pub IsNumber : List ℕ → ℕ → Type 0
IsNumber run n = Spells run n × (n ≤ 1073741823)

-- a number past the small integers
abbrev pub IsTooBig : List ℕ → Type 0
IsTooBig run = (n : ℕ) × Spells run n × (1073741823 < n)

-- no digits where they have to stand
abbrev pub IsBadToken : List ℕ → Type 0
IsBadToken run =
    ((base : ℕ) × (digits : List ℕ) × HasPrefix run base digits × ¬ IsDigits base digits) ⊎ (IsPlain run × ¬ IsDecimal run)

-- a float, which is told by a dot or an `e` wherever it stands
abbrev pub IsFloat : List ℕ → Type 0
IsFloat run = HasNoPrefix run × LooksFloat run

-- an imaginary number, which is told by the `j` at its end
abbrev pub IsComplex : List ℕ → Type 0
IsComplex run = HasNoPrefix run × ¬ LooksFloat run × LooksComplex run

-- the answer is the number, or the fault, of the run
abbrev pub Says : List ℕ → Result ℤ NumberFault → Type 0
Says run (Ok number) = (n : ℕ) × (number ≡ pos n) × IsNumber run n
Says run (Err BadToken) = IsBadToken run
Says run (Err Float) = IsFloat run
Says run (Err Complex) = IsComplex run
Says run (Err TooBig) = IsTooBig run

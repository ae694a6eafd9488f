-- Digits of a base, with single underscores between them.
use Rattle.std.specs.Prelude.{◌≡◌, ◌⊎◌, ℕ, ◌+◌, ◌-◌, ◌*◌, ◌<◌, List, [], ◌∷◌, fold, nat_lt, ◌==◌, if◌then◌else◌}
use Rattle.py_tokens.specs.Name.{IsDigit, IsLetter}

-- the value of a digit, of which the letters from 10 on are capital or small
abbrev pub digit_value : ℕ → ℕ
digit_value byte = if nat_lt byte 58 then byte - 48 else (if nat_lt byte 97 then byte - 55 else byte - 87)

-- a digit or letter whose value is below the base
abbrev pub IsDigitOf : ℕ → ℕ → Type 0
IsDigitOf base byte = (IsDigit byte ⊎ IsLetter byte) × (digit_value byte < base)

-- a digit alone, or before digits, or before an underscore (95) and digits
abbrev pub IsDigits : ℕ → List ℕ → Type 0
IsDigits base [] = ⊥
IsDigits base (byte ∷ []) = IsDigitOf base byte
IsDigits base (byte ∷ next ∷ rest) = IsDigitOf base byte × (IsDigits base (next ∷ rest) ⊎ ((next ≡ 95) × IsDigits base rest))

-- the value with one more byte, where underscores count for nothing
abbrev pub next_value : ℕ → ℕ → ℕ → ℕ
next_value base value byte = if byte == 95 then value else base * value + digit_value byte

-- the value of digits
abbrev pub value_of : ℕ → List ℕ → ℕ
value_of base text = fold (next_value base) 0 text

-- the text is digits, and their value is the number
pub record Digits (base : ℕ) (text : List ℕ) (n : ℕ) : Type 0 where
  pub digits : IsDigits base text
  pub value : n ≡ value_of base text

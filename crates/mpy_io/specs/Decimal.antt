-- Decimal numbers of 32 bits, read and written on lines.
use Rattle.std.specs.Prelude.{◌≡◌, ◌≢◌, ◌⊎◌, ℕ, ℤ, FitsSigned, List, [], ◌∷◌, ◌++◌, Option, Some, None, codes, slice_index}
use Rattle.std.specs.Fmt.{signed_decimal}
use Rattle.std.specs.Int.{w32}
use Rattle.std.specs.Io.KnownBytes.{Consumes, IsAtEnd}
use Rattle.std.specs.Str.Parse.{IsNumeral, without_leading_sign, signed_digits_value}

-- digits, behind a minus sign or nothing (43 is the plus sign), that write the number
pub record IsDecimal (text : List ℕ) (n : ℤ) : Type 0 where
  pub unsigned : slice_index text 0 ≢ 43
  pub digits : IsNumeral 10 (without_leading_sign text)
  pub value : n ≡ signed_digits_value 10 text
  pub fits : FitsSigned w32 n

-- what was read is a number and its line end (10), which may be missing at the end; there was nothing to read for None
abbrev pub TakesLine : Option (List ℕ) → Option (List ℕ) → Option ℤ → Type 0
TakesLine old new None = IsAtEnd old
TakesLine old new (Some n) =
    (line : List ℕ) × IsDecimal line n × (Consumes old new (line ++ 10 ∷ []) ⊎ (Consumes old new line × IsAtEnd new))

-- the line that is written for a number
abbrev pub port_line : ℤ → List ℕ
port_line n = codes "port " ++ signed_decimal n ++ codes "\n"

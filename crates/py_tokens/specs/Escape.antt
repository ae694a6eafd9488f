-- Escapes: a backslash (92) and what follows it.
use Rattle.std.specs.Prelude.{◌≡◌, ◌⊎◌, ℕ, ◌<◌, ◌≤◌, List, [], ◌∷◌, ◌++◌, length, All, ◌==◌, ◌&&◌, ◌||◌, nat_le, if◌then◌else◌}
use Rattle.py_tokens.specs.declared.escape.Mark.{Mark}
use Rattle.py_tokens.specs.declared.escape.Mark.TheVariants.{StandsFor, LineEnd, Octal, Hexadecimal, Unicode, Nothing}
use Rattle.py_tokens.specs.declared.escape.StringFaultKind.{StringFaultKind}
use Rattle.py_tokens.specs.declared.escape.StringFaultKind.TheVariants.{BadToken, Escape, NonAscii}
use Rattle.py_tokens.specs.Digits.{IsDigitOf, value_of}
use Rattle.py_tokens.specs.LineEnd.{Begins, IsLineEnd}

-- what a byte behind a backslash makes of it
abbrev pub mark_of_byte : ℕ → Mark
mark_of_byte byte =
    if byte == 92 then StandsFor 92 else (
    if byte == 39 then StandsFor 39 else (
    if byte == 34 then StandsFor 34 else (
    if byte == 97 then StandsFor 7 else (
    if byte == 98 then StandsFor 8 else (
    if byte == 102 then StandsFor 12 else (
    if byte == 110 then StandsFor 10 else (
    if byte == 114 then StandsFor 13 else (
    if byte == 116 then StandsFor 9 else (
    if byte == 118 then StandsFor 11 else (
    if byte == 10 || byte == 13 then LineEnd else (
    if nat_le 48 byte && nat_le byte 55 then Octal else (
    if byte == 120 then Hexadecimal else (
    if byte == 117 || byte == 85 || byte == 78 then Unicode else Nothing)))))))))))))

-- what the bytes behind a backslash make of it
abbrev pub mark_of : List ℕ → Mark
mark_of [] = Nothing
mark_of (byte ∷ rest) = mark_of_byte byte

-- one to three octal digits, as many as there are
pub record IsOctal (digits rest : List ℕ) : Type 0 where
  pub digits_are : All (IsDigitOf 8) digits
  pub some : 1 ≤ length digits
  pub few : length digits ≤ 3
  pub longest : (length digits ≡ 3) ⊎ ¬ Begins (IsDigitOf 8) rest

-- an `x` (120) and two hexadecimal digits
abbrev pub IsHexadecimal : List ℕ → ℕ → Type 0
IsHexadecimal text value =
    (high low : ℕ) × (text ≡ 120 ∷ high ∷ low ∷ []) × IsDigitOf 16 high × IsDigitOf 16 low × (value ≡ value_of 16 (high ∷ low ∷ []))

-- the text behind a backslash is the number of a character
abbrev pub IsCode : Mark → List ℕ → List ℕ → ℕ → Type 0
IsCode Octal text rest value = IsOctal text rest × (value ≡ value_of 8 text)
IsCode Hexadecimal text rest value = IsHexadecimal text value
IsCode mark text rest value = ⊥

-- the number of a character that has to be below 128
abbrev pub IsAsciiCode : Mark → List ℕ → List ℕ → List ℕ → Type 0
IsAsciiCode mark text rest given = (value : ℕ) × IsCode mark text rest value × (value < 128) × (given ≡ value ∷ [])

-- the text behind a backslash gives this
abbrev pub Gives : Mark → List ℕ → List ℕ → List ℕ → Type 0
Gives (StandsFor value) text rest given = (byte : ℕ) × (text ≡ byte ∷ []) × (given ≡ value ∷ [])
Gives LineEnd text rest given = IsLineEnd text rest × (given ≡ [])
Gives Octal text rest given = IsAsciiCode Octal text rest given
Gives Hexadecimal text rest given = IsAsciiCode Hexadecimal text rest given
Gives Unicode text rest given = ⊥
Gives Nothing text rest given = (text ≡ []) × (given ≡ 92 ∷ [])

-- the text is a backslash and what belongs to it, where such bytes follow, and gives this
abbrev pub IsEscape : List ℕ → List ℕ → List ℕ → Type 0
IsEscape text rest given = (behind : List ℕ) × (text ≡ 92 ∷ behind) × Gives (mark_of (behind ++ rest)) behind rest given

-- no such number stands in front
abbrev pub HasNoCode : Mark → List ℕ → Type 0
HasNoCode mark bytes = (text rest : List ℕ) (value : ℕ) → bytes ≡ text ++ rest → ¬ IsCode mark text rest value

-- the number in front is 128 or more
abbrev pub HasLargeCode : Mark → List ℕ → Type 0
HasLargeCode mark bytes = (text rest : List ℕ) × (value : ℕ) × (bytes ≡ text ++ rest) × IsCode mark text rest value × (128 ≤ value)

-- the bytes behind a backslash can't be read
abbrev pub Fails : Mark → List ℕ → StringFaultKind → Type 0
Fails Octal bytes NonAscii = HasLargeCode Octal bytes
Fails Hexadecimal bytes NonAscii = HasLargeCode Hexadecimal bytes
Fails Hexadecimal bytes BadToken = HasNoCode Hexadecimal bytes
Fails Unicode bytes Escape = Unit {0}
Fails mark bytes kind = ⊥

-- the bytes begin with an escape that can't be read
abbrev pub IsEscapeFault : List ℕ → StringFaultKind → Type 0
IsEscapeFault bytes kind = (behind : List ℕ) × (bytes ≡ 92 ∷ behind) × Fails (mark_of behind) behind kind

-- Numbers in words: decimal digits alone, with no sign.
use Rattle.std.specs.Prelude.{ℕ, ◌+◌, ◌-◌, ◌*◌, List, [], ◌∷◌, length, ◌==◌, Option, Some, None, nat_le, if◌then◌else◌}
use Rattle.std.specs.Char.{is_ascii_digit}

-- the value of digits behind others of this value, where it is at most so great
unfoldable pub value_of : ℕ → ℕ → List ℕ → Option ℕ
value_of most n [] = if nat_le n most then Some n else None
value_of most n (byte ∷ bytes) = if is_ascii_digit byte then value_of most (10 * n + (byte - 48)) bytes else None

-- the number that a word is, where it is at most so great
abbrev pub number_of : ℕ → List ℕ → Option ℕ
number_of most word = if length word == 0 then None else value_of most 0 word

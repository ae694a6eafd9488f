-- How texts are written in a listing.
use Rattle.std.specs.Prelude.{ℕ, ◌+◌, ◌/◌, ◌%◌, List, [], ◌∷◌, ◌++◌, codes, Bool, not, ◌&&◌, ◌||◌, ◌==◌, nat_lt, if◌then◌else◌}
use Rattle.std.specs.List.{flat_map, list_any}

-- a digit of sixteen, in lower case
abbrev pub hex_digit : ℕ → ℕ
hex_digit n = if nat_lt n 10 then 48 + n else 87 + n

-- `\xHH`
abbrev pub hex : ℕ → List ℕ
hex byte = 92 ∷ 120 ∷ hex_digit (byte / 16) ∷ hex_digit (byte % 16) ∷ []

-- below the blank, or behind the tilde
abbrev pub is_control : ℕ → Bool
is_control byte = nat_lt byte 32 || byte == 127

-- a name: control bytes and the backslash are written by their numbers
abbrev pub name_byte : ℕ → List ℕ
name_byte byte = if is_control byte || byte == 92 then hex byte else byte ∷ []

-- a name as it is listed
abbrev pub name_text : List ℕ → List ℕ
name_text name = flat_map name_byte name

-- a str: the quote and the backslash stand behind a backslash, line ends and tabs have their letters
abbrev pub str_byte : ℕ → ℕ → List ℕ
str_byte quote byte =
    if byte == quote || byte == 92 then 92 ∷ byte ∷ []
    else if byte == 10 then codes "\\n"
    else if byte == 13 then codes "\\r"
    else if byte == 9 then codes "\\t"
    else if is_control byte then hex byte
    else byte ∷ []

-- is the byte among those of the text?
abbrev pub has_byte : ℕ → List ℕ → Bool
has_byte byte text = list_any (λ b. b == byte) text

-- a double quote where the str has single ones alone
abbrev pub quote_of : List ℕ → ℕ
quote_of text = if has_byte 39 text && not (has_byte 34 text) then 34 else 39

-- the bytes between the quotes
abbrev pub inside : ℕ → List ℕ → List ℕ
inside quote text = flat_map (str_byte quote) text

-- the text between these quotes
abbrev pub quoted : ℕ → List ℕ → List ℕ
quoted quote text = quote ∷ (inside quote text ++ quote ∷ [])

-- a str as it is listed
abbrev pub str_text : List ℕ → List ℕ
str_text text = quoted (quote_of text) text

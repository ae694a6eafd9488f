-- Dotted names and their parts. 46 is the dot, 95 is `_`.
use Rattle.std.specs.Prelude.{◌≢◌, ◌&&◌, ◌||◌, ℕ, Bool, false, IsTrue, List, [], ◌∷◌, All, nat_eq, codes}
use Rattle.std.specs.List.{slice_split, list_all}
use Rattle.std.specs.Char.{is_ascii_alphanumeric}

-- the parts of a name, cut at its dots
abbrev pub parts_of : List ℕ → List (List ℕ)
parts_of name = slice_split (nat_eq 46) name

-- a letter, a digit or `_`
abbrev pub is_word_byte : ℕ → Bool
is_word_byte byte = is_ascii_alphanumeric byte || nat_eq byte 95

-- one or more of these
abbrev pub is_part : List ℕ → Bool
is_part [] = false
is_part (byte ∷ bytes) = is_word_byte byte && list_all is_word_byte bytes

-- parts of letters, digits and `_`, none empty, joined by dots
abbrev pub is_plain : List ℕ → Bool
is_plain name = list_all is_part (parts_of name)

-- parts of letters, digits and `_`, none empty, joined by dots, as a fact
abbrev pub IsPlain : List ℕ → Type 0
IsPlain name = IsTrue (is_plain name)

-- no part is `__init__`
abbrev pub LacksInit : List ℕ → Type 0
LacksInit name = All (λ part. part ≢ codes "__init__") (parts_of name)

-- Names: letters, digits and underscores, of which the first is no digit.
use Rattle.std.specs.Prelude.{◌≡◌, ◌⊎◌, ℕ, ◌≤◌, List, [], ◌∷◌, All}

-- `0` to `9`
abbrev pub IsDigit : ℕ → Type 0
IsDigit byte = (48 ≤ byte) × (byte ≤ 57)

-- `A` to `Z` and `a` to `z`
abbrev pub IsLetter : ℕ → Type 0
IsLetter byte = ((65 ≤ byte) × (byte ≤ 90)) ⊎ ((97 ≤ byte) × (byte ≤ 122))

-- a letter or `_`
abbrev pub IsNameStart : ℕ → Type 0
IsNameStart byte = IsLetter byte ⊎ (byte ≡ 95)

-- what a name goes on with
abbrev pub IsNamePart : ℕ → Type 0
IsNamePart byte = IsNameStart byte ⊎ IsDigit byte

-- a name: a letter or an underscore, and letters, digits and underscores behind it
abbrev pub IsName : List ℕ → Type 0
IsName [] = ⊥
IsName (first ∷ others) = IsNameStart first × All IsNamePart others

-- The offsets of jumps, in one byte or in two. The low seven bits stand first, and bit 7 is set where the others follow.
use Rattle.std.specs.Prelude.{◌≡◌, ℕ, ◌+◌, ◌/◌, ◌%◌, ◌<◌, ◌≤◌, List, [], ◌∷◌, Bool, true, false, ℤ, pos, ◌+ℤ◌, ◌-ℤ◌, ◌≤ℤ◌, ◌<ℤ◌, unsigned_abs}

-- what the bytes of a signed offset have more than it, where they are one and where they are two
abbrev pub bias : Bool → Bool → ℕ
bias false wide = 0
bias true false = 0x40
bias true true = 0x4000

-- the first number past the bytes
abbrev pub limit : Bool → ℕ
limit false = 0x80
limit true = 0x8000

-- the one byte or the two of the number
abbrev pub bytes_of : Bool → ℕ → List ℕ
bytes_of false n = n ∷ []
bytes_of true n = (128 + n % 128) ∷ n / 128 ∷ []

-- the bytes spell the offset
pub record Spells (signed wide : Bool) (bytes : List ℕ) (offset : ℤ) : Type 0 where
  pub n : ℕ
  pub bytes_are : bytes ≡ bytes_of wide n
  pub fits : n < limit wide
  pub number : offset ≡ pos n -ℤ pos (bias signed wide)

-- the bytes end inside an offset
abbrev pub EndsInside : List ℕ → Type 0
EndsInside [] = Unit {0}
EndsInside (first ∷ []) = 128 ≤ first
EndsInside (first ∷ second ∷ bytes) = ⊥

-- the offset has such bytes
pub record Fits (signed wide : Bool) (offset : ℤ) : Type 0 where
  pub least : pos 0 ≤ℤ (offset +ℤ pos (bias signed wide))
  pub below : (offset +ℤ pos (bias signed wide)) <ℤ pos (limit wide)

-- what is written for it
abbrev pub offset_bytes : Bool → Bool → ℤ → List ℕ
offset_bytes signed wide offset = bytes_of wide (unsigned_abs (offset +ℤ pos (bias signed wide)))

-- Bytes of which each but the last says, by its bit 7, that another follows; and numbers in their other bits.
use Rattle.std.specs.Prelude.{◌≡◌, ℕ, ◌+◌, ◌*◌, ◌/◌, ◌%◌, ◌<◌, List, [], ◌∷◌, ◌++◌, All}
use Rattle.mpy_base.specs.Vuint.{HasMore}

-- bytes of which each but the last has bit 7 set
pub record IsChain (bytes : List ℕ) : Type 0 where
  pub high : List ℕ
  pub last : ℕ
  pub bytes_are : bytes ≡ high ++ last ∷ []
  pub more : All HasMore high
  pub ends : last < 128

-- no chain ends in the bytes
abbrev pub HasNoEnd : List ℕ → Type 0
HasNoEnd bytes = All HasMore bytes

-- the number of which each byte has a digit below the base, at a place in the byte, low digits first
abbrev pub number_of : ℕ → ℕ → List ℕ → ℕ
number_of place base [] = 0
number_of place base (byte ∷ bytes) = byte / place % base + base * number_of place base bytes

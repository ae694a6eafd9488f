-- Line ends: LF (10), CR LF (13 10), and a CR alone.
use Rattle.std.specs.Prelude.{◌≡◌, ◌⊎◌, ℕ, List, [], ◌∷◌}

-- the first of the bytes is such a byte
abbrev pub Begins : (ℕ → Type 0) → List ℕ → Type 0
Begins P [] = ⊥
Begins P (first ∷ others) = P first

-- LF or CR
abbrev pub IsLineByte : ℕ → Type 0
IsLineByte byte = (byte ≡ 10) ⊎ (byte ≡ 13)

-- the text is one line end, where such bytes follow
abbrev pub IsLineEnd : List ℕ → List ℕ → Type 0
IsLineEnd text rest =
    (text ≡ 10 ∷ []) ⊎ (text ≡ 13 ∷ 10 ∷ []) ⊎ ((text ≡ 13 ∷ []) × ¬ Begins (λ byte. byte ≡ 10) rest)

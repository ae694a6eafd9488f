-- The codes of a small module.
use Rattle.std.proofs.Common.{◌≡◌, ℕ, List, [], ◌∷◌, refl}
use Rattle.mpy_tree.specs.declared.raw.RawCode.{RawCode, roll-RawCode, out-roll-RawCode}
use Rattle.mpy_tree.specs.Codes.{Placed, codes_to}

abbrev code : ℕ → List RawCode → RawCode
code byte children = roll-RawCode (record { bytes = byte ∷ []; children = children })

-- a code with two codes, the first with one of its own
abbrev three_in_one : RawCode
three_in_one = code 10 (code 20 (code 30 [] ∷ []) ∷ code 40 [] ∷ [])

abbrev placed : List ℕ → ℕ → List ℕ → Placed
placed path byte children = record { path = path; bytes = byte ∷ []; children = children }

preorder : codes_to 3 [] 0 three_in_one ≡ placed [] 10 (1 ∷ 3 ∷ []) ∷ placed (0 ∷ []) 20 (2 ∷ []) ∷ placed (0 ∷ 0 ∷ []) 30 [] ∷ placed (1 ∷ []) 40 [] ∷ []
unfolding codes_to
preorder = simp out-roll-RawCode refl

-- Codes that a library has.
use Rattle.std.specs.Prelude.{◌≡◌, ℕ, Some}
use Rattle.bc_library.specs.mpy_tree.Codes.{Placed}
use Rattle.bc_library.specs.Shelf.{Shelf}
use Rattle.vm_starting.specs.vm_states.bc_rows.Codes.{code_numbered}
use Rattle.snap_states.specs.Decoded.{AreTitles}

-- the code of that number of that module is there
pub record HasCode (shelf : Shelf) (m code : ℕ) : Type 0 where
  pub placed : Placed
  pub there : code_numbered shelf m code ≡ Some placed

-- the name of each code has one number
abbrev pub HasOneTitle : Shelf → Type 0
HasOneTitle shelf =
    (a b : ℕ → ℕ → ℕ) (m code : ℕ) → AreTitles shelf a → AreTitles shelf b → HasCode shelf m code → a m code ≡ b m code

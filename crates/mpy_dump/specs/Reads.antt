-- An instruction that stands in a code.
use Rattle.std.specs.Prelude.{◌≡◌, ℕ, ◌+◌, List, ◌++◌, length, drop, Option, Result, OnOk}
use Rattle.mpy_tree.specs.bc_ops.declared.instr.Instr.{Instr}
use Rattle.mpy_tree.specs.bc_ops.Code.{Spells}
use Rattle.mpy_tree.specs.bc_ops.Listing.{Piece, IsPiece}
use Rattle.mpy_io.specs.declared.fault.Failed.{Failed}
use Rattle.mpy_tree.specs.Raw.{Module}
use Rattle.mpy_dump.specs.Instructions.{instr_tail}
use Rattle.mpy_dump.specs.Pen.{Gathers}

-- one is spelled from this place on
pub record Stands (code : List ℕ) (at : ℕ) : Type 0 where
  pub piece : Piece
  pub behind : List ℕ
  pub spelled : IsPiece piece
  pub is : drop at code ≡ piece.text ++ behind

-- this one is spelled between the two places
pub record IsRead (code : List ℕ) (at end : ℕ) (instr : Instr) : Type 0 where
  pub text : List ℕ
  pub behind : List ℕ
  pub spells : Spells text instr
  pub is : drop at code ≡ text ++ behind
  pub ends : end ≡ at + length text

-- the end of its line was gathered, and after an Ok its end is the new place
abbrev pub GathersEnd : {S : Type 0} → (S → Option (List ℕ)) → (S → ℕ) → S → S → Module → List ℕ → ℕ → ℕ → List ℕ → List ℕ → Result (Unit {0}) Failed → Type 0
GathersEnd told count old new m code at there held left result =
    (end : ℕ) × (instr : Instr) × IsRead code at end instr × OnOk result (there ≡ end)
    × Gathers told count old new held (instr_tail m end instr) left result

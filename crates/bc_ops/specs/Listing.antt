-- The instructions of a code as a list, in which a jump names its target by position.
use Rattle.std.specs.Prelude.{◌≡◌, ℕ, ◌+◌, ◌-◌, List, [], ◌∷◌, ◌++◌, length, All, ℤ, pos, ◌+ℤ◌, if◌then◌else◌}
use Rattle.std.specs.Ordering.{int_eq}
use Rattle.bc_ops.specs.declared.instr.Instr.{Instr}
use Rattle.bc_ops.specs.declared.instr.Instr.TheVariants as instrs
use Rattle.bc_ops.specs.declared.listing.Target.{Target}
use Rattle.bc_ops.specs.declared.listing.Target.TheVariants.{Position, Offset}
use Rattle.bc_ops.specs.declared.listing.Item.{Item}
use Rattle.bc_ops.specs.declared.listing.Item.TheVariants.{Plain, Jump, Unwind}
use Rattle.bc_ops.specs.Code.{Spells}

-- an instruction with its bytes
pub record Piece : Type 0 where
  pub text : List ℕ
  pub instr : Instr

-- the bytes spell the instruction
abbrev pub IsPiece : Piece → Type 0
IsPiece piece = Spells piece.text piece.instr

-- the bytes of pieces, one behind another
abbrev pub joined : List Piece → List ℕ
joined [] = []
joined (piece ∷ pieces) = piece.text ++ joined pieces

-- the offsets in the code that the pieces start at, where the first starts at the one that is given
abbrev pub starts : ℕ → List Piece → List ℕ
starts at [] = []
starts at (piece ∷ pieces) = at ∷ starts (at + length piece.text) pieces

-- the position of the start that is the offset, where the first has the position that is given
abbrev pub target : List ℕ → ℕ → ℤ → Target
target [] position offset = Offset offset
target (start ∷ starts) position offset = if int_eq offset (pos start) then Position position else target starts (position + 1) offset

-- the item of an instruction that ends at the offset. A jump counts from the end of its own offset, behind which an
-- unwinding jump has one byte.
abbrev pub item : List ℕ → ℕ → Instr → Item
item starts end (instrs.Jump op offset wide) = Jump op (target starts 0 (pos end +ℤ offset))
item starts end (instrs.Unwind offset wide byte) = Unwind (target starts 0 (pos (end - 1) +ℤ offset)) byte
item starts end instr = Plain instr

-- the items of pieces, of which the first starts at `at`, in a code whose instructions start at `starts`
abbrev pub items_at : List ℕ → ℕ → List Piece → List Item
items_at starts at [] = []
items_at starts at (piece ∷ pieces) =
    item starts (at + length piece.text) piece.instr ∷ items_at starts (at + length piece.text) pieces

-- the bytes are the instructions of the list, one behind the other
pub record IsListOf (bytes : List ℕ) (items : List Item) : Type 0 where
  pub pieces : List Piece
  pub spelled : All IsPiece pieces
  pub bytes_are : bytes ≡ joined pieces
  pub items_are : items ≡ items_at (starts 0 pieces) 0 pieces

-- the list of the bytes, and the offset that each of its instructions starts at
pub record Lists (bytes : List ℕ) (items : List Item) (offsets : List ℕ) : Type 0 where
  pub is_list : IsListOf bytes items
  pub offsets_are : offsets ≡ starts 0 is_list.pieces

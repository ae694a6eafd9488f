-- Offsets in a code's bytes, and positions in the list of its instructions.
use Rattle.std.specs.Prelude.{◌≡◌, ℕ, suc, ◌+◌, ◌<◌, List, [], ◌∷◌, ◌++◌, length, drop, Some, ℤ, pos, nat_eq, slice_get, if◌then◌else◌}
use Rattle.bc_ops.specs.declared.instr.Instr.{Instr}
use Rattle.bc_ops.specs.declared.listing.Item.{Item}
use Rattle.bc_ops.specs.Code.{Spells, IsEncodable}
use Rattle.bc_ops.specs.Listing.{Lists, item}

-- a code's list, and the offset that each of its instructions starts at. Bytes have one such list
pub record CodeList : Type 0 where
  pub items : List Item
  pub offsets : List ℕ

-- the bytes are this list
abbrev pub Listed : List ℕ → CodeList → Type 0
Listed bytes l = Lists bytes l.items l.offsets

-- the position of the instruction that starts at the offset
abbrev pub position_in : List ℕ → ℕ → ℕ
position_in [] offset = 0
position_in (start ∷ starts) offset = if nat_eq start offset then 0 else suc (position_in starts offset)

-- an instruction starts at the offset
abbrev pub Starts : List ℕ → ℕ → Type 0
Starts offsets at = slice_get offsets (position_in offsets at) ≡ Some at

-- the instruction at this position starts at this offset: its bytes stand there, the list has its item, and the next one
-- starts where it ends, or the code ends there
pub record Stands (bytes : List ℕ) (l : CodeList) (position at : ℕ) : Type 0 where
  pub text : List ℕ
  pub rest : List ℕ
  pub instr : Instr
  pub spells : Spells text instr
  pub bytes_are : drop at bytes ≡ text ++ rest
  pub item_is : slice_get l.items position ≡ Some (item l.offsets (at + length text) instr)
  pub next : suc position < length l.items → slice_get l.offsets (suc position) ≡ Some (at + length text)
  pub last : suc position ≡ length l.items → at + length text ≡ length bytes

-- this instruction stands at the offset and ends there: the list has it at that position, and the next one starts at its end
pub record Reads (l : CodeList) (at : ℕ) (instr : Instr) (end : ℕ) : Type 0 where
  pub is : slice_get l.items (position_in l.offsets at) ≡ Some (item l.offsets end instr)
  pub next : suc (position_in l.offsets at) < length l.items → Starts l.offsets end × (position_in l.offsets end ≡ suc (position_in l.offsets at))
  -- its operand is within its bounds
  pub encodable : IsEncodable instr

-- the number is the offset of the instruction at this position
pub record Arrives (l : CodeList) (z : ℤ) (position : ℕ) : Type 0 where
  pub offset : ℕ
  pub is : z ≡ pos offset
  pub starts : Starts l.offsets offset
  pub there : position_in l.offsets offset ≡ position

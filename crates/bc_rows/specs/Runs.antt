-- A row, and the code that the machine runs for it.
use Rattle.std.specs.Prelude.{◌≡◌, ℕ, List, length, map, Some, slice_get}
use Rattle.bc_machine.specs.bc_ops.declared.instr.Instr.{Instr}
use Rattle.bc_machine.specs.bc_ops.declared.listing.Item.{Item}
use Rattle.bc_machine.specs.bc_ops.Listing.{item}
use Rattle.bc_prelude.specs.Lines as tables
use Rattle.bc_labels.specs.Positions.{CodeList, Listed, Starts, Reads, position_in}
use Rattle.bc_machine.specs.mpy_tree.Raw as raw
use Rattle.bc_machine.specs.mpy_tree.Resolved.{resolved}
use Rattle.bc_library.specs.Shelf.{Shelf}
use Rattle.bc_library.specs.Texts.{text_numbered}
use Rattle.bc_machine.specs.Library.{Code, Line, item_of}
use Rattle.bc_rows.specs.declared.row.Row.{Row}

-- the machine's line of an item of a list that has the size, by the line table and the offset that the item starts at
abbrev pub line_at : raw.Module → ℕ → List ℕ → ℕ → Item → Line
line_at m size table at item = record { item = item_of size (resolved m item); line = tables.line_of table at }

-- the row says of the code all that a run of it in its bytes asks for
pub record RunsAs (shelf : Shelf) (m : raw.Module) (row : Row) (code : Code) : Type 0 where
  pub name : text_numbered shelf.pool row.name ≡ Some code.name
  pub params : map (text_numbered shelf.pool) row.params ≡ map Some code.params
  pub given : row.given ≡ code.given
  pub locals : row.locals ≡ code.locals
  pub children : row.children ≡ code.children
  -- a line for each instruction
  pub as_many : (l : CodeList) → Listed row.instructions.now l → length code.lines ≡ length l.items
  -- the position of an instruction that is read at an offset has the machine's line of it
  pub line : (l : CodeList) (at : ℕ) (instr : Instr) (end : ℕ) → Listed row.instructions.now l → Starts l.offsets at → Reads l at instr end
      → slice_get code.lines (position_in l.offsets at) ≡ Some (line_at m (length l.items) row.line_table.now at (item l.offsets end instr))

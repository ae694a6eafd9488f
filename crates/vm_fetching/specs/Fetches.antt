-- What is fetched at an offset of a row.
use Rattle.std.specs.Prelude.{◌≡◌, ℕ, suc, ◌<◌, length, Some, slice_get}
use Rattle.bc_prelude.specs.Lines as tables
use Rattle.frame_moves.specs.bc_labels.Positions.{CodeList, Starts, position_in}
use Rattle.bc_rows.specs.mpy_tree.Raw.{Module}
use Rattle.bc_rows.specs.mpy_tree.File.{IsModule}
use Rattle.bc_rows.specs.bc_verify.Verified.{IsVerified}
use Rattle.bc_rows.specs.bc_library.Constants.{items_at, text_at}
use Rattle.bc_rows.specs.bc_library.Shelf.{Shelf, module_at}
use Rattle.frame_moves.specs.bc_machine.Library.{Code}
use Rattle.bc_rows.specs.declared.row.Row.{Row}
use Rattle.bc_rows.specs.Rows.{IsRow}
use Rattle.frame_moves.specs.Shown.{Tables}
use Rattle.vm_fetching.specs.declared.instruction.Fetched.{Fetched}
use Rattle.vm_fetching.specs.Shows.{item_of_fetched, TargetStarts, LocalIsWithin, TextIsThere, ConstantIsThere}

-- strs and constant tuples are those of the library
pub record AreOf (shelf : Shelf) (tables : Tables) : Type 0 where
  pub texts : tables.texts ≡ text_at shelf
  pub tuples : tables.tuples ≡ items_at shelf

-- the row is of a code of a module that a file holds and that is verified, which has the number i
pub record IsVerifiedRow (shelf : Shelf) (i : ℕ) (row : Row) : Type 0 where
  pub m : Module
  pub there : module_at shelf i ≡ Some m
  pub is_module : IsModule m
  pub is_verified : IsVerified m
  pub number : ℕ
  pub is_row : IsRow shelf i number row

-- the machine's code has this instruction at the position of the offset, with the line of the row's table; the next
-- instruction starts where it ends
pub record Fetches (shelf : Shelf) (names : Tables) (row : Row) (l : CodeList) (code : Code) (offset : ℕ) (fetched : Fetched) : Type 0 where
  pub line : slice_get code.lines (position_in l.offsets offset)
      ≡ Some (record { item = item_of_fetched names l.offsets fetched.instruction; line = tables.line_of row.line_table.now offset })
  pub next : position_in l.offsets fetched.end ≡ suc (position_in l.offsets offset)
  pub begins : suc (position_in l.offsets offset) < length code.lines → Starts l.offsets fetched.end
  pub target : TargetStarts l.offsets fetched.instruction
  pub local : LocalIsWithin row.locals fetched.instruction
  pub text : TextIsThere shelf fetched.instruction
  pub constant : ConstantIsThere shelf fetched.instruction

-- What a row says of a code, and which module a text names.
use Rattle.std.specs.Prelude.{◌≡◌, ℕ, ◌∷◌, ◌<◌, ◌^◌, length, map, Option, Some, position, option_and_then}
use Rattle.std.specs.Str.{bytes_eq}
use Rattle.bc_prelude.specs.declared.prelude.Prelude.{Prelude}
use Rattle.bc_prelude.specs.Prelude.{Begins}
use Rattle.bc_library.specs.bc_flow.Code.{locals}
use Rattle.bc_labels.specs.Positions.{CodeList, Listed}
use Rattle.bc_machine.specs.mpy_tree.Codes.{Placed}
use Rattle.bc_library.specs.Shelf.{Shelf, names, table_text}
use Rattle.bc_library.specs.Texts.{text_numbered}
use Rattle.bc_rows.specs.declared.row.Row.{Row}
use Rattle.bc_rows.specs.Codes.{code_numbered}

-- the row is what the prelude and the tables of the code say, whose module has the number i: its texts are those that the
-- code's indexes lead to
pub record IsRowOf (shelf : Shelf) (i : ℕ) (code : Placed) (row : Row) : Type 0 where
  pub prelude : Prelude
  pub begins : Begins code.bytes prelude
  pub instructions : row.instructions.now ≡ begins.instructions
  pub line_table : row.line_table.now ≡ begins.lines
  pub names : map (text_numbered shelf.pool) (row.name ∷ row.params) ≡ map (table_text shelf i) begins.indexes
  pub source : text_numbered shelf.pool row.source ≡ table_text shelf i 0
  pub given : row.given ≡ prelude.defaults
  pub n_state : row.n_state ≡ prelude.n_state
  pub n_exc : row.n_exc ≡ prelude.n_exc
  pub children : row.children ≡ code.children
  -- its instructions
  pub list : CodeList
  pub listed : Listed row.instructions.now list
  pub short : length row.instructions.now < 2 ^ 32
  pub locals : row.locals ≡ locals prelude.args list.items

-- the row is of the code that has the number k in the module i
pub record IsRow (shelf : Shelf) (i k : ℕ) (row : Row) : Type 0 where
  pub code : Placed
  pub there : code_numbered shelf i k ≡ Some code
  pub is_row : IsRowOf shelf i code row

-- the first module whose name is the text of the number
abbrev pub module_named : Shelf → ℕ → Option ℕ
module_named shelf n = option_and_then (λ text. position (bytes_eq text) (names shelf)) (text_numbered shelf.pool n)

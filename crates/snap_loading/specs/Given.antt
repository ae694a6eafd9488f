-- What every library has, and what a snapshot is loaded with.
use Rattle.std.specs.Prelude.{◌≡◌, ◌≢◌, ℕ, ◌≤◌, List, [], length, Some, All, slice_get}
use Rattle.mpy_base.specs.declared.limits.TheConstants.{MAX_MODULES}
use Rattle.bc_library.specs.bc_verify.qstr_pool.declared.table.TheConstants.{FIRST_OWN}
use Rattle.bc_library.specs.mpy_tree.Codes.{Placed}
use Rattle.bc_library.specs.Shelf.{Shelf, Named, table_text}
use Rattle.bc_library.specs.Texts.{text_numbered}
use Rattle.vm_starting.specs.vm_states.bc_rows.declared.row.Row.{Row}
use Rattle.vm_starting.specs.vm_states.bc_rows.Codes.{code_numbered}
use Rattle.vm_starting.specs.vm_states.bc_rows.Rows.{IsRow}
use Rattle.snap_grammar.specs.declared.parts.FramePart.{FramePart}
use Rattle.snap_grammar.specs.declared.parts.Snapshot.{Snapshot}

-- the texts of its own count from behind those of each file, it has few modules, and the name of each is one of its texts
pub record IsLibrary (shelf : Shelf) : Type 0 where
  pub first : shelf.pool.first ≡ FIRST_OWN
  pub few : length shelf.modules ≤ MAX_MODULES
  pub titled : (i : ℕ) (n : Named) → slice_get shelf.modules i ≡ Some n → (title : ℕ) × (text_numbered shelf.pool title ≡ Some n.name)

-- the name of each module has a byte at least
pub record HasNames (shelf : Shelf) : Type 0 where
  pub some : (i : ℕ) (n : Named) → slice_get shelf.modules i ≡ Some n → n.name ≢ []

-- each text of a module's table has a number
pub record HasTexts (shelf : Shelf) : Type 0 where
  pub texts : (i qstr : ℕ) (text : List ℕ) → table_text shelf i qstr ≡ Some text
      → (n : ℕ) × (text_numbered shelf.pool n ≡ Some text)

-- each code of the library has a row
pub record HasCodeRows (shelf : Shelf) : Type 0 where
  pub rows : (m code : ℕ) (placed : Placed) → code_numbered shelf m code ≡ Some placed
      → (row : Row) × IsRow shelf m code row

-- what each library keeps that has rows
pub record IsTabled (shelf : Shelf) : Type 0 where
  pub first : shelf.pool.first ≡ FIRST_OWN
  pub few : length shelf.modules ≤ MAX_MODULES
  pub texts : HasTexts shelf
  pub rows : HasCodeRows shelf

-- the code of the frame has a row
abbrev pub HasRow : Shelf → FramePart → Type 0
HasRow shelf f = (row : Row) × IsRow shelf f.module_number f.code row

-- the code of each frame has one
pub record HasRows (shelf : Shelf) (s : Snapshot) : Type 0 where
  pub rows : All (HasRow shelf) s.frames

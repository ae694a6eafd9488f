-- The children of codes of a library, of which functions are made.
use Rattle.std.specs.Prelude.{◌≡◌, ℕ, ◌<◌, List, length, Some, IsSome, slice_get}
use Rattle.vm_states.specs.bc_library.Shelf.{Shelf}
use Rattle.vm_states.specs.bc_rows.declared.row.Row.{Row}
use Rattle.vm_states.specs.bc_rows.Codes.{code_numbered}
use Rattle.vm_states.specs.bc_rows.Rows.{IsRow}
use Rattle.frame_calls.specs.declared.making.Child.{Child}
use Rattle.vm_states.specs.frame_exits.declared.names.ModuleName.{ModuleName}

-- the code k of the module i has the child n, and the module's name has a number
pub record HasChildIn (shelf : Shelf) (names : List ModuleName) (i k n : ℕ) : Type 0 where
  pub there : IsSome (code_numbered shelf i k)
  pub child : (row : Row) → IsRow shelf i k row → (number : ℕ) × (slice_get row.children n ≡ Some number) × IsSome (code_numbered shelf i number)
  pub within : i < length names

-- this is the child n of the code k of the module i
pub record IsChildIn (shelf : Shelf) (names : List ModuleName) (i k n : ℕ) (child : Child) : Type 0 where
  pub parent : Row
  pub parent_is : IsRow shelf i k parent
  pub numbered : slice_get parent.children n ≡ Some child.code
  pub row : Row
  pub row_is : IsRow shelf i child.code row
  pub name_is : child.name ≡ row.name
  pub given_is : child.given ≡ row.given
  pub number : ModuleName
  pub number_is : slice_get names i ≡ Some number
  pub module_is : child.module_name ≡ number.name

-- The names of a library's modules, by the numbers of their texts.
use Rattle.std.specs.Prelude.{◌≡◌, ℕ, List, length, Some, slice_get}
use Rattle.vm_states.specs.bc_library.Constants.{items_at, text_at}
use Rattle.vm_states.specs.bc_library.Shelf.{Shelf, Named}
use Rattle.frame_calls.specs.prim_walks.Plain.{plain_name}
use Rattle.vm_states.specs.frame_exits.declared.names.ModuleName.{ModuleName}

-- a number for each module, whose text is the module's name
pub record AreNames (shelf : Shelf) (names : List ModuleName) : Type 0 where
  pub many : length names ≡ length shelf.modules
  pub named : (i : ℕ) (number : ModuleName) (n : Named) → slice_get names i ≡ Some number → slice_get shelf.modules i ≡ Some n
      → plain_name (text_at shelf) (items_at shelf) number.name ≡ n.name

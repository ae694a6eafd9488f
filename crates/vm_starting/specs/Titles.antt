-- The names of a library's modules, by the numbers of their texts.
use Rattle.std.specs.Prelude.{◌≡◌, ℕ, List, length, Some, slice_get, unwrap_or}
use Rattle.vm_states.specs.bc_library.Shelf.{Shelf, Named}
use Rattle.vm_states.specs.bc_library.Texts.{last_part, text_numbered}
use Rattle.bc_resolved.specs.bc_verify.qstr_pool.Pool.{Texts}
use Rattle.vm_states.specs.frame_exits.declared.names.ModuleName.{ModuleName}

-- what stands behind the last dot of a name, or the whole name where it has no dot
abbrev pub last_of : List ℕ → List ℕ
last_of name = unwrap_or (last_part name) name

-- the numbers of the texts of a name and of its last part
pub record IsTitle (pool : Texts) (name : List ℕ) (title : ModuleName) : Type 0 where
  pub name_is : text_numbered pool title.name ≡ Some name
  pub last_is : text_numbered pool title.last ≡ Some (last_of name)

-- a title for each module
pub record AreTitles (shelf : Shelf) (names : List ModuleName) : Type 0 where
  pub as_many : length names ≡ length shelf.modules
  pub each : (i : ℕ) (m : ModuleName) (n : Named) → slice_get names i ≡ Some m → slice_get shelf.modules i ≡ Some n → IsTitle shelf.pool n.name m

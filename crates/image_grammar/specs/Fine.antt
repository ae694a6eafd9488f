-- What holds of the texts of an image.
use Rattle.std.specs.Prelude.{◌≡◌, ℕ, ◌≤◌, List, length, All}
use Rattle.mpy_base.specs.declared.limits.TheConstants.{MAX_IMAGE_BYTES}
use Rattle.qstr_pool.specs.declared.table.TheConstants.{FIRST_OWN}
use Rattle.qstr_pool.specs.Pool.{Texts}
use Rattle.mpy_reader.specs.mpy_tree.File.{IsAscii}

-- ASCII, and no longer than an image
pub record IsFineText (text : List ℕ) : Type 0 where
  pub ascii : IsAscii text
  pub short : length text ≤ MAX_IMAGE_BYTES

-- the texts of a pool behind the static ones
pub record IsFinePool (pool : Texts) : Type 0 where
  pub first : pool.first ≡ FIRST_OWN
  pub fine : All IsFineText pool.texts

-- The text of a source that was read.
use Rattle.std.specs.Prelude.{◌≡◌, ◌<◌, ℕ, List, length, Option, Some, None, IfSome, Vec}
use Rattle.std.specs.declared.alloc.Global.{Global}
use Rattle.mpy_base.specs.declared.limits.TheConstants.{MAX_READ_BYTES}
use Rattle.mpy_io.specs.Files.{FileOf}
use Rattle.command_files.specs.Folder.{MayHold}

-- the source of this name has the text, or is too long to be read
abbrev pub HoldsText : Option FileOf → (name : List ℕ) → Option (Vec ℕ Global) → Type 0
HoldsText files name (Some text) = MayHold files name (Some text.items)
HoldsText files name None = IfSome files (λ file. (bytes : List ℕ) × (file name ≡ Some bytes) × (MAX_READ_BYTES < length bytes))

-- How the writing of an image ends.
use Rattle.std.specs.Prelude.{◌≡◌, ℕ, ◌+◌, ◌≤◌, List, length, Result, Ok, Err}
use Rattle.mpy_base.specs.declared.refused.Refused.{Refused}
use Rattle.mpy_base.specs.declared.limits.TheConstants.{MAX_IMAGE_BYTES, MAX_MODULES, MAX_TABLE}
use Rattle.image_open.specs.image_grammar.declared.entry.Entry.{Entry}
use Rattle.image_open.specs.image_grammar.declared.fault.ImageFault.{ImageFault}
use Rattle.image_open.specs.image_grammar.Image.{Differ}
use Rattle.image_open.specs.image_grammar.Opening.{Base, names_of}
use Rattle.image_freeze.specs.Frozen.{FreezeFault, image_bytes, pool_of}
use Rattle.image_freeze.specs.Uses.{FaultIs}

-- the bytes of modules that keep the limits
pub record IsFrozen (front : List ℕ) (below : Base) (entries : List Entry) (bytes : List ℕ) : Type 0 where
  pub bytes_are : bytes ≡ image_bytes front below entries
  pub differ : Differ below.names (names_of entries)
  pub few_modules : length below.names + length entries ≤ MAX_MODULES
  pub few_texts : length (pool_of below entries).texts ≤ MAX_TABLE
  pub short : length bytes ≤ MAX_IMAGE_BYTES

-- the image is given, or the fault
abbrev pub Ends : {A : Type 0} → List ℕ → Base → List Entry → (A → List ℕ) → Result A (Refused ImageFault) → Type 0
Ends front below entries bytes_of (Ok x) = IsFrozen front below entries (bytes_of x)
Ends front below entries bytes_of (Err refusal) = FaultIs refusal (FreezeFault front below entries)

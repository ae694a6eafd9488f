-- An image that is migrated.
use Rattle.std.specs.Prelude.{◌≡◌, ◌⊎◌, ℕ, List, All, Result, Ok, Err}
use Rattle.mpy_base.specs.declared.refused.Refused.{Refused}
use Rattle.mpy_base.specs.declared.refused.Refused.TheVariants as refusals
use Rattle.image_open.specs.bc_verify.Verified.{IsVerified}
use Rattle.image_open.specs.image_grammar.declared.entry.Entry.{Entry}
use Rattle.image_open.specs.image_grammar.Image.{IsImage}
use Rattle.image_open.specs.image_grammar.Opening.{nothing_below}
use Rattle.image_freeze.specs.Frozen.{image_bytes, second_front}
use Rattle.image_freeze.specs.declared.fault.MigrateFault.{MigrateFault}

-- the bytes are an image of these modules over nothing, and they are verified
pub record IsImageOf (entries : List Entry) (bytes : List ℕ) : Type 0 where
  pub is_image : IsImage nothing_below entries bytes
  pub verified : All (λ entry. IsVerified entry.held) entries

-- the second bytes are the image of version 2 of the modules of the first
pub record Migrates (bytes out : List ℕ) : Type 0 where
  pub entries : List Entry
  pub before : IsImageOf entries bytes
  pub after : IsImageOf entries out
  pub written : out ≡ image_bytes (second_front nothing_below) nothing_below entries

-- the fault is told, unless memory ran out
abbrev pub IsTold : {A : Type 0} → Result A (Refused MigrateFault) → MigrateFault → Type 0
IsTold result fault = (result ≡ Err (refusals.Fault fault)) ⊎ (result ≡ Err refusals.NoMemory)

-- How the steps of a migration end.
use Rattle.std.specs.Prelude.{◌≡◌, ℕ, List, Result, Ok, Err}
use Rattle.mpy_base.specs.declared.refused.Refused.{Refused}
use Rattle.mpy_base.specs.declared.refused.Refused.TheVariants as refusals
use Rattle.image_open.specs.image_grammar.declared.entry.Entry.{Entry}
use Rattle.image_open.specs.image_grammar.declared.fault.ImageFault.{ImageFault}
use Rattle.image_open.specs.image_grammar.Image.{IsImage}
use Rattle.image_open.specs.image_grammar.Opening.{image, nothing_below}
use Rattle.image_freeze.specs.Frozen.{FreezeFault, image_bytes, second_front}
use Rattle.image_freeze.specs.declared.fault.MigrateFault.{MigrateFault}
use Rattle.image_freeze.specs.declared.fault.MigrateFault.TheVariants.{Opening, Freezing}

-- the modules are read, or the fault
abbrev pub ReadFails : List ℕ → Refused MigrateFault → Type 0
ReadFails bytes (refusals.Fault (Opening fault)) = image nothing_below bytes (Err fault)
ReadFails bytes (refusals.Fault (Freezing fault)) = ⊥
ReadFails bytes refusals.NoMemory = Unit {0}

-- what reading an image over nothing answers
abbrev pub HasRead : List ℕ → Result (List Entry) (Refused MigrateFault) → Type 0
HasRead bytes (Ok entries) = image nothing_below bytes (Ok entries)
HasRead bytes (Err refusal) = ReadFails bytes refusal

-- the modules have no image of version 2, for that fault
abbrev pub IsFreezeFault : List Entry → ImageFault → Type 0
IsFreezeFault entries fault = FreezeFault (second_front nothing_below) nothing_below entries fault

-- the image of version 2 of modules that have one
pub record IsSecond (entries : List Entry) (out : List ℕ) : Type 0 where
  pub written : out ≡ image_bytes (second_front nothing_below) nothing_below entries
  pub is_image : IsImage nothing_below entries out
  pub never : (fault : ImageFault) → IsFreezeFault entries fault → ⊥

-- it is written, or the fault
abbrev pub WriteFails : List Entry → Refused MigrateFault → Type 0
WriteFails entries (refusals.Fault (Opening fault)) = ⊥
WriteFails entries (refusals.Fault (Freezing fault)) = IsFreezeFault entries fault
WriteFails entries refusals.NoMemory = Unit {0}

-- what writing the image of version 2 answers
abbrev pub HasWritten : {A : Type 0} → List Entry → (A → List ℕ) → Result A (Refused MigrateFault) → Type 0
HasWritten entries bytes_of (Ok x) = IsSecond entries (bytes_of x)
HasWritten entries bytes_of (Err refusal) = WriteFails entries refusal

-- the modules aren't read, or they are and are written
pub data Ended {A : Type 0} (bytes : List ℕ) (bytes_of : A → List ℕ) (r : Result A (Refused MigrateFault)) : Type 0 where
  unread : (refusal : Refused MigrateFault) → ReadFails bytes refusal → r ≡ Err refusal → Ended bytes bytes_of r
  has_read : (entries : List Entry) → image nothing_below bytes (Ok entries) → HasWritten entries bytes_of r → Ended bytes bytes_of r

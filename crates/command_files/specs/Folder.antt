-- What a folder that tells its files has, which of them changed, and why one wasn't read.
use Rattle.std.specs.Prelude.{◌≡◌, ℕ, List, Option, IfSome, ◌≢◌, Some, None, ◌<◌, length}
use Rattle.mpy_io.specs.Files.{FileOf}
use Rattle.mpy_endings.specs.declared.ending.Ending.{Ending}
use Rattle.mpy_endings.specs.declared.ending.Ending.TheVariants.{Done, Unaccepted, Unread, Unverified, Unmerged, Unopened}
use Rattle.mpy_endings.specs.declared.ending.Ending.TheVariants.{Unfrozen, Unboarded, Different, Stopped, ReadFault, WriteFault}
use Rattle.mpy_endings.specs.declared.ending.Ending.TheVariants.{Unwritten, NoMemory, Absent}
use Rattle.mpy_base.specs.declared.limits.TheConstants.{MAX_READ_BYTES}
use Rattle.mpy_endings.specs.image_open.mpy_reader.declared.fault.FileFault.TheVariants.{TooBig}

-- a folder that tells its files has this under the name
abbrev pub MayHold : Option FileOf → List ℕ → Option (List ℕ) → Type 0
MayHold files name content = IfSome files (λ file. file name ≡ content)

-- no file but the one of this name changed
abbrev pub ChangesOnly : Option FileOf → Option FileOf → List ℕ → Type 0
ChangesOnly old new name = IfSome old (λ file. (now : FileOf) × (new ≡ Some now) × ((other : List ℕ) → other ≢ name → now other ≡ file other))

-- why the file under the name wasn't read at all
abbrev pub IsNotRead : Option FileOf → (name : List ℕ) → Ending → Type 0
IsNotRead files name Absent = MayHold files name None
IsNotRead files name (Unread fault) = (fault ≡ TooBig) × IfSome files (λ file. (bytes : List ℕ) × (file name ≡ Some bytes) × (MAX_READ_BYTES < length bytes))
IsNotRead files name ReadFault = Unit {0}
IsNotRead files name NoMemory = Unit {0}
IsNotRead files name Done = ⊥
IsNotRead files name (Unaccepted fault) = ⊥
IsNotRead files name (Unverified fault) = ⊥
IsNotRead files name (Unmerged fault) = ⊥
IsNotRead files name (Unopened fault) = ⊥
IsNotRead files name (Unfrozen fault) = ⊥
IsNotRead files name (Unboarded fault) = ⊥
IsNotRead files name (Different difference) = ⊥
IsNotRead files name (Stopped stop) = ⊥
IsNotRead files name WriteFault = ⊥
IsNotRead files name Unwritten = ⊥

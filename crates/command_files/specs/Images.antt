-- The library of an image file over a library below, or what keeps it from being one.
use Rattle.std.specs.Prelude.{◌≤◌, ℕ, List, length, Option, Some}
use Rattle.mpy_base.specs.declared.limits.TheConstants.{MAX_READ_BYTES}
use Rattle.mpy_io.specs.Files.{FileOf}
use Rattle.mpy_endings.specs.image_open.bc_library.Shelf.{Shelf}
use Rattle.mpy_endings.specs.image_open.image_grammar.declared.fault.ImageFault.{ImageFault}
use Rattle.mpy_endings.specs.image_open.image_grammar.Opening.{FirstFault}
use Rattle.mpy_endings.specs.image_open.image_grammar.Base.{base_of}
use Rattle.mpy_endings.specs.image_open.Opens.{Opens}
use Rattle.mpy_endings.specs.image_runs.declared.fault.MainFault.TheVariants as mains
use Rattle.mpy_endings.specs.declared.ending.Ending.{Ending}
use Rattle.mpy_endings.specs.declared.ending.Ending.TheVariants.{Done, Unaccepted, Unread, Unverified, Unmerged, Unopened}
use Rattle.mpy_endings.specs.declared.ending.Ending.TheVariants.{Unfrozen, Unboarded, Different, Stopped, ReadFault, WriteFault}
use Rattle.mpy_endings.specs.declared.ending.Ending.TheVariants.{Unwritten, NoMemory, Absent}
use Rattle.command_files.specs.Folder.{MayHold, IsNotRead}

-- the file under the name is an image over the library below of the library's further modules
pub record HoldsImage (below : Shelf) (files : Option FileOf) (name : List ℕ) (shelf : Shelf) : Type 0 where
  pub bytes : List ℕ
  pub holds : MayHold files name (Some bytes)
  pub opens : Opens below bytes shelf

-- the file under the name, which can be read, is no such image: this is the first fault of its bytes
pub record HoldsNoImage (below : Shelf) (files : Option FileOf) (name : List ℕ) (fault : ImageFault) : Type 0 where
  pub bytes : List ℕ
  pub holds : MayHold files name (Some bytes)
  pub short : length bytes ≤ MAX_READ_BYTES
  pub first : FirstFault (base_of below) bytes fault

-- why the file under the name isn't opened as an image over the library below
abbrev pub RefusesImage : (below : Shelf) → Option FileOf → (name : List ℕ) → Ending → Type 0
RefusesImage below files name Done = ⊥
RefusesImage below files name (Unaccepted fault) = ⊥
RefusesImage below files name (Unread fault) = IsNotRead files name (Unread fault)
RefusesImage below files name (Unverified fault) = ⊥
RefusesImage below files name (Unmerged fault) = ⊥
RefusesImage below files name (Unopened (mains.Image fault)) = HoldsNoImage below files name fault
RefusesImage below files name (Unopened (mains.NoMain main)) = ⊥
RefusesImage below files name (Unfrozen fault) = ⊥
RefusesImage below files name (Unboarded fault) = ⊥
RefusesImage below files name (Different difference) = ⊥
RefusesImage below files name (Stopped stop) = ⊥
RefusesImage below files name ReadFault = IsNotRead files name ReadFault
RefusesImage below files name WriteFault = ⊥
RefusesImage below files name Unwritten = ⊥
RefusesImage below files name NoMemory = Unit {0}
RefusesImage below files name Absent = IsNotRead files name Absent

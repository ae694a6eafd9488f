-- A command over a base, an image that lies over nothing.
use Rattle.std.specs.Prelude.{◌≡◌, ℕ, List, Option}
use Rattle.std.specs.Io.KnownBytes.{Keeps}
use Rattle.mpy_io.specs.Count.{Counts}
use Rattle.mpy_io.specs.Files.{FileOf}
use Rattle.mpy_endings.specs.image_open.bc_library.Shelf.{Shelf, no_entries}
use Rattle.mpy_endings.specs.declared.ending.Ending.{Ending}
use Rattle.mpy_endings.specs.Ending.{is_folder_fault, status_of}
use Rattle.mpy_endings.specs.Line.{Says, line_of}
use Rattle.command_files.specs.Images.{HoldsImage, RefusesImage}
use Rattle.command_files.specs.Outside.{Outside}

-- the file of the base isn't opened, and nothing was done but to say so
pub record EndsAtBase (base : List ℕ) (old new : Outside) (status : ℕ) : Type 0 where
  pub ending : Ending
  pub status_is : status ≡ status_of ending
  pub refused : RefusesImage no_entries old.files base ending
  pub files : new.files ≡ old.files
  pub prints : Keeps old.out new.out
  pub folder_counts : Counts old.folder_faults new.folder_faults (is_folder_fault ending)
  pub out_counts : new.out_faults ≡ old.out_faults
  pub says : Says old.say new.say old.say_faults new.say_faults (line_of base ending)

-- it is opened as a library, and the command went so over that
pub record WentOver (Went : (below : Shelf) → Type 0) (files : Option FileOf) (base : List ℕ) : Type 0 where
  pub below : Shelf
  pub holds : HoldsImage no_entries files base below
  pub went : Went below

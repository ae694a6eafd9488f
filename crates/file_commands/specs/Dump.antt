-- What listing a file by its name does.
use Rattle.std.specs.Prelude.{ℕ, List, Option, Some, None}
use Rattle.std.specs.Io.KnownBytes.{Appends, Keeps}
use Rattle.mpy_io.specs.Files.{FileOf}
use Rattle.mpy_io.specs.Told.{AppendsFront}
use Rattle.command_files.specs.mpy_writer.mpy_tree.Raw.{Module}
use Rattle.command_files.specs.mpy_writer.mpy_tree.File.{IsFile}
use Rattle.mpy_reader.specs.Reading.{FirstFault}
use Rattle.mpy_dump.specs.Listing.{IsListing}
use Rattle.command_files.specs.mpy_endings.declared.ending.Ending.{Ending}
use Rattle.command_files.specs.mpy_endings.declared.ending.Ending.TheVariants.{Done, Unaccepted, Unread, Unverified, Unmerged}
use Rattle.command_files.specs.mpy_endings.declared.ending.Ending.TheVariants.{Unopened, Unfrozen, Unboarded, Different, Stopped}
use Rattle.command_files.specs.mpy_endings.declared.ending.Ending.TheVariants.{ReadFault, WriteFault, Unwritten, NoMemory, Absent}
use Rattle.command_files.specs.Folder.{MayHold}

-- the file under the name is one of a module with this listing
pub record HoldsListed (files : Option FileOf) (name : List ℕ) (text : List ℕ) : Type 0 where
  pub bytes : List ℕ
  pub holds : MayHold files name (Some bytes)
  pub read : Module
  pub file : IsFile bytes read
  pub listing : IsListing read text

-- how a listing of the file of this name ended, and what it printed
abbrev pub Dumps : Option FileOf → List ℕ → Ending → Option (List ℕ) → Option (List ℕ) → Type 0
Dumps files name Done old new = (text : List ℕ) × HoldsListed files name text × Appends old new text
Dumps files name (Unaccepted fault) old new = ⊥
Dumps files name (Unread fault) old new = ((bytes : List ℕ) × MayHold files name (Some bytes) × FirstFault bytes fault) × Keeps old new
Dumps files name (Unverified fault) old new = ⊥
Dumps files name (Unmerged fault) old new = ⊥
Dumps files name (Unopened fault) old new = ⊥
Dumps files name (Unfrozen fault) old new = ⊥
Dumps files name (Unboarded fault) old new = ⊥
Dumps files name (Different difference) old new = ⊥
Dumps files name (Stopped stop) old new = ⊥
Dumps files name ReadFault old new = Keeps old new
Dumps files name WriteFault old new = (text : List ℕ) × HoldsListed files name text × AppendsFront old new text
Dumps files name Unwritten old new = ⊥
Dumps files name NoMemory old new = Keeps old new
Dumps files name Absent old new = MayHold files name None × Keeps old new

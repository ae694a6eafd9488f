-- What checking a file by its name does.
use Rattle.std.specs.Prelude.{◌≡◌, ℕ, ◌++◌, ◌^◌, ◌-◌, min, List, length, Option, Some, None, codes, decimal, Result, Ok, Err}
use Rattle.std.specs.Io.KnownBytes.{Appends, Keeps}
use Rattle.mpy_io.specs.Files.{FileOf}
use Rattle.mpy_io.specs.Told.{AppendsFront}
use Rattle.command_files.specs.mpy_writer.mpy_tree.Raw.{Module}
use Rattle.command_files.specs.mpy_writer.mpy_tree.Codes.{codes_of}
use Rattle.command_files.specs.mpy_writer.mpy_tree.File.{IsFile}
use Rattle.mpy_reader.specs.Reading.{FirstFault}
use Rattle.bc_verify.specs.Verified.{IsVerified}
use Rattle.command_files.specs.mpy_endings.declared.ending.Ending.{Ending}
use Rattle.command_files.specs.mpy_endings.declared.ending.Ending.TheVariants.{Done, Unaccepted, Unread, Unverified, Unmerged}
use Rattle.command_files.specs.mpy_endings.declared.ending.Ending.TheVariants.{Unopened, Unfrozen, Unboarded, Different, Stopped}
use Rattle.command_files.specs.mpy_endings.declared.ending.Ending.TheVariants.{ReadFault, WriteFault, Unwritten, NoMemory, Absent}
use Rattle.command_files.specs.Folder.{MayHold}
use Rattle.command_files.specs.Opened.{IsUnverifiedFile}

-- how many codes a module has, where they are fewer than 2^64
abbrev pub count_of : Module → ℕ
count_of m = min (length (codes_of m)) (2 ^ 64 - 1)

-- the bytes are a file of a verified module with `count` codes
pub record IsVerifiedFile (bytes : List ℕ) (count : ℕ) : Type 0 where
  pub read : Module
  pub file : IsFile bytes read
  pub verified : IsVerified read
  pub count_is : count ≡ count_of read

-- What reading and verifying bytes gives: how many codes there are, or what keeps them from being verified.
abbrev pub Judges : List ℕ → Result ℕ Ending → Type 0
Judges bytes (Ok count) = IsVerifiedFile bytes count
Judges bytes (Err Done) = ⊥
Judges bytes (Err (Unaccepted fault)) = ⊥
Judges bytes (Err (Unread fault)) = FirstFault bytes fault
Judges bytes (Err (Unverified fault)) = IsUnverifiedFile bytes fault
Judges bytes (Err (Unmerged fault)) = ⊥
Judges bytes (Err (Unopened fault)) = ⊥
Judges bytes (Err (Unfrozen fault)) = ⊥
Judges bytes (Err (Unboarded fault)) = ⊥
Judges bytes (Err (Different difference)) = ⊥
Judges bytes (Err (Stopped stop)) = ⊥
Judges bytes (Err ReadFault) = ⊥
Judges bytes (Err WriteFault) = ⊥
Judges bytes (Err Unwritten) = ⊥
Judges bytes (Err NoMemory) = Unit {0}
Judges bytes (Err Absent) = ⊥

-- the line of a verified file
abbrev pub verified_line : ℕ → List ℕ
verified_line count = codes "verified " ++ decimal count ++ codes "\n"

-- the file under the name is one of a verified module with `count` codes
pub record HoldsVerified (files : Option FileOf) (name : List ℕ) (count : ℕ) : Type 0 where
  pub bytes : List ℕ
  pub holds : MayHold files name (Some bytes)
  pub is : IsVerifiedFile bytes count

-- how a check of the file of this name ended, and what it printed
abbrev pub Checks : Option FileOf → List ℕ → Ending → Option (List ℕ) → Option (List ℕ) → Type 0
Checks files name Done old new = (count : ℕ) × HoldsVerified files name count × Appends old new (verified_line count)
Checks files name (Unaccepted fault) old new = ⊥
Checks files name (Unread fault) old new = ((bytes : List ℕ) × MayHold files name (Some bytes) × FirstFault bytes fault) × Keeps old new
Checks files name (Unverified fault) old new = ((bytes : List ℕ) × MayHold files name (Some bytes) × IsUnverifiedFile bytes fault) × Keeps old new
Checks files name (Unmerged fault) old new = ⊥
Checks files name (Unopened fault) old new = ⊥
Checks files name (Unfrozen fault) old new = ⊥
Checks files name (Unboarded fault) old new = ⊥
Checks files name (Different difference) old new = ⊥
Checks files name (Stopped stop) old new = ⊥
Checks files name ReadFault old new = Keeps old new
Checks files name WriteFault old new = (count : ℕ) × HoldsVerified files name count × AppendsFront old new (verified_line count)
Checks files name Unwritten old new = ⊥
Checks files name NoMemory old new = Keeps old new
Checks files name Absent old new = MayHold files name None × Keeps old new

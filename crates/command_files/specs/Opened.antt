-- Files of verified modules, and why a file is none.
use Rattle.std.specs.Prelude.{ℕ, ◌-◌, List, Option, Some, None, Result, Ok, Err, Bool, false}
use Rattle.mpy_io.specs.Files.{FileOf}
use Rattle.mpy_endings.specs.image_open.mpy_tree.Raw.{Module}
use Rattle.mpy_endings.specs.image_open.mpy_tree.File.{IsFile}
use Rattle.mpy_endings.specs.image_open.mpy_reader.Reading.{FirstFault}
use Rattle.mpy_endings.specs.image_open.bc_verify.declared.fault.VerifyFault.{VerifyFault}
use Rattle.mpy_endings.specs.image_open.bc_verify.Verified.{IsVerified, IsFirstFault}
use Rattle.mpy_endings.specs.declared.ending.Ending.{Ending}
use Rattle.mpy_endings.specs.declared.ending.Ending.TheVariants.{Done, Unaccepted, Unread, Unverified, Unmerged, Unopened}
use Rattle.mpy_endings.specs.declared.ending.Ending.TheVariants.{Unfrozen, Unboarded, Different, Stopped, ReadFault, WriteFault}
use Rattle.mpy_endings.specs.declared.ending.Ending.TheVariants.{Unwritten, NoMemory, Absent}
use Rattle.command_files.specs.Folder.{MayHold}
use Rattle.mpy_endings.specs.Ending.{is_folder_fault}

-- the bytes are a file of a module with this first fault
pub record IsUnverifiedFile (bytes : List ℕ) (fault : VerifyFault) : Type 0 where
  pub read : Module
  pub file : IsFile bytes read
  pub first : IsFirstFault read fault

-- a file
-- ======

-- what reading and verifying bytes gives: the module, or what keeps it from being verified
abbrev pub Opens : List ℕ → Result Module Ending → Type 0
Opens bytes (Ok m) = IsFile bytes m × IsVerified m
Opens bytes (Err Done) = ⊥
Opens bytes (Err (Unaccepted fault)) = ⊥
Opens bytes (Err (Unread fault)) = FirstFault bytes fault
Opens bytes (Err (Unverified fault)) = IsUnverifiedFile bytes fault
Opens bytes (Err (Unmerged fault)) = ⊥
Opens bytes (Err (Unopened fault)) = ⊥
Opens bytes (Err (Unfrozen fault)) = ⊥
Opens bytes (Err (Unboarded fault)) = ⊥
Opens bytes (Err (Different difference)) = ⊥
Opens bytes (Err (Stopped stop)) = ⊥
Opens bytes (Err ReadFault) = ⊥
Opens bytes (Err WriteFault) = ⊥
Opens bytes (Err Unwritten) = ⊥
Opens bytes (Err NoMemory) = Unit {0}
Opens bytes (Err Absent) = ⊥

-- the file under the name is one of this verified module
pub record HoldsModule (files : Option FileOf) (name : List ℕ) (m : Module) : Type 0 where
  pub bytes : List ℕ
  pub holds : MayHold files name (Some bytes)
  pub file : IsFile bytes m
  pub verified : IsVerified m

-- why the file under the name isn't one of a verified module
abbrev pub Refuses : Option FileOf → List ℕ → Ending → Type 0
Refuses files name Done = ⊥
Refuses files name (Unaccepted fault) = ⊥
Refuses files name (Unread fault) = (bytes : List ℕ) × MayHold files name (Some bytes) × FirstFault bytes fault
Refuses files name (Unverified fault) = (bytes : List ℕ) × MayHold files name (Some bytes) × IsUnverifiedFile bytes fault
Refuses files name (Unmerged fault) = ⊥
Refuses files name (Unopened fault) = ⊥
Refuses files name (Unfrozen fault) = ⊥
Refuses files name (Unboarded fault) = ⊥
Refuses files name (Different difference) = ⊥
Refuses files name (Stopped stop) = ⊥
Refuses files name ReadFault = Unit {0}
Refuses files name WriteFault = ⊥
Refuses files name Unwritten = ⊥
Refuses files name NoMemory = Unit {0}
Refuses files name Absent = MayHold files name None

-- whether the folder's count of faults rose
abbrev pub failed_in : {A : Type 0} → Result A Ending → Bool
failed_in (Ok x) = false
failed_in (Err ending) = is_folder_fault ending

-- Runs that go on from a snapshot.
use Rattle.std.specs.Prelude.{◌≡◌, ◌≢◌, ◌⊎◌, ◌++◌, ◌<◌, ◌≤◌, ℕ, Bool, true, false, List, [], length}
use Rattle.std.specs.Prelude.{slice_index_or, Option, Some, None, IfSome, Result, Ok, Err}
use Rattle.mpy_base.specs.declared.limits.TheConstants.{MAX_READ_BYTES}
use Rattle.mpy_io.specs.Count.{Counts}
use Rattle.mpy_io.specs.Files.{FileOf}
use Rattle.mpy_io.specs.Ports.{PortView}
use Rattle.bc_library.specs.Shelf.{Shelf}
use Rattle.command_files.specs.image_runs.declared.fault.MainFault.TheVariants as mains
use Rattle.command_files.specs.mpy_endings.image_open.Opens.{Opens}
use Rattle.command_files.specs.mpy_endings.image_open.image_grammar.Base.{base_of as base_below}
use Rattle.command_files.specs.mpy_endings.image_open.image_grammar.Opening.{FirstFault}
use Rattle.snap_loading.specs.Given.{IsTabled}
use Rattle.snap_loading.specs.Loaded.{IsLoaded}
use Rattle.snap_grammar.specs.declared.fault.SnapFault.{SnapFault}
use Rattle.snap_grammar.specs.declared.fault.SnapFault.TheVariants.{BadHeader, BadForm, BadState}
use Rattle.snap_grammar.specs.declared.parts.Snapshot.{Snapshot}
use Rattle.snap_grammar.specs.Reading.{BeginsSo}
use Rattle.snap_grammar.specs.Spelling.{Fits, spelling}
use Rattle.snap_states.specs.States.{IsStateOf}
use Rattle.library_runs.specs.vm_starting.declared.opening.Vm.{Vm}
use Rattle.library_runs.specs.vm_machine.Machine.{IsVm}
use Rattle.library_runs.specs.declared.ending.RunEnd.{RunEnd}
use Rattle.library_runs.specs.declared.ending.RunEnd.TheVariants as ends
use Rattle.library_runs.specs.Runs.{Sight, GoesOn, StandsOn}
use Rattle.command_files.specs.mpy_words.Words.{saved_name}
use Rattle.command_files.specs.mpy_endings.declared.ending.Ending.{Ending}
use Rattle.command_files.specs.mpy_endings.declared.ending.Ending.TheVariants.{Done, Unaccepted, Unread, Unverified, Unmerged}
use Rattle.command_files.specs.mpy_endings.declared.ending.Ending.TheVariants.{Unopened, Unfrozen, Unboarded, Different, Stopped}
use Rattle.command_files.specs.mpy_endings.declared.ending.Ending.TheVariants.{ReadFault, WriteFault, Unwritten, NoMemory, Absent}
use Rattle.command_files.specs.mpy_endings.declared.ending.Stop.TheVariants.{Past, LibraryFault, LibraryUnaccepted, Raised, Memory, Steps, Unsaved, Unresumed}
use Rattle.command_files.specs.mpy_endings.Ending.{is_folder_fault, is_out_fault, status_of}
use Rattle.command_files.specs.mpy_endings.Line.{Says, line_of}
use Rattle.command_files.specs.Folder.{MayHold, IsNotRead}
use Rattle.command_files.specs.Outside.{Outside}
use Rattle.run_commands.specs.Ready.{begins_image}
use Rattle.run_commands.specs.Run.{FileLibrary, Untouched, ending_of, sight_in}
use Rattle.run_commands.specs.Save.{SavesState, place_to}

-- the library
-- ===========

-- the library of an image over the library below, or why the bytes are none
abbrev pub ImageLibrary : (below : Shelf) → (bytes : List ℕ) → Result Shelf Ending → Type 0
ImageLibrary below bytes (Ok shelf) = Opens below bytes shelf
ImageLibrary below bytes (Err (Unopened (mains.Image fault))) = FirstFault (base_below below) bytes fault
ImageLibrary below bytes (Err (Unopened (mains.NoMain name))) = ⊥
ImageLibrary below bytes (Err NoMemory) = Unit {0}
ImageLibrary below bytes (Err Done) = ⊥
ImageLibrary below bytes (Err (Unaccepted fault)) = ⊥
ImageLibrary below bytes (Err (Unread fault)) = ⊥
ImageLibrary below bytes (Err (Unverified fault)) = ⊥
ImageLibrary below bytes (Err (Unmerged fault)) = ⊥
ImageLibrary below bytes (Err (Unfrozen fault)) = ⊥
ImageLibrary below bytes (Err (Unboarded fault)) = ⊥
ImageLibrary below bytes (Err (Different difference)) = ⊥
ImageLibrary below bytes (Err (Stopped stop)) = ⊥
ImageLibrary below bytes (Err ReadFault) = ⊥
ImageLibrary below bytes (Err WriteFault) = ⊥
ImageLibrary below bytes (Err Unwritten) = ⊥
ImageLibrary below bytes (Err Absent) = ⊥

-- The library of the file under the name, as a run of it has it, but that no main module of an image is looked for: of an image over the
-- library below where its bytes, which can be read, begin as one, and else of a file, which has no use for what lies below. Or what
-- keeps it from being loaded
pub data ResumeLibrary (below : Shelf) (files : Option FileOf) (name : List ℕ) (answer : Result Shelf Ending) : Type 0 where
  not_read : (ending : Ending) → IsNotRead files name ending → answer ≡ Err ending → ResumeLibrary below files name answer
  of_file : (bytes : List ℕ) → MayHold files name (Some bytes) → begins_image bytes ≡ false → FileLibrary files name answer
      → ResumeLibrary below files name answer
  of_image : (bytes : List ℕ) → MayHold files name (Some bytes) → length bytes ≤ MAX_READ_BYTES → begins_image bytes ≡ true
      → ImageLibrary below bytes answer → ResumeLibrary below files name answer

-- the snapshot
-- ============

-- the bytes don't begin as a snapshot does
abbrev pub LacksHeader : List ℕ → Type 0
LacksHeader bytes = BeginsSo bytes → ⊥

-- the first fault of bytes that are no snapshot of a state of the library
abbrev pub FirstSnapFault : Shelf → (bytes : List ℕ) → SnapFault → Type 0
FirstSnapFault shelf bytes BadHeader = LacksHeader bytes
FirstSnapFault shelf bytes BadForm = (LacksHeader bytes → ⊥) × ((s : Snapshot) → Fits s → bytes ≡ spelling s → ⊥)
FirstSnapFault shelf bytes BadState = (s : Snapshot) × Fits s × (bytes ≡ spelling s) × (IsStateOf shelf s → ⊥)

-- the file under the name can't be read for its length
abbrev pub IsLongFile : Option FileOf → (name : List ℕ) → Type 0
IsLongFile files name = IfSome files (λ file. (bytes : List ℕ) × (file name ≡ Some bytes) × (MAX_READ_BYTES < length bytes))

-- the file under the name isn't the snapshot of a state of the library, by this first fault of its bytes. The library
-- has its tables
pub record HoldsNoState (shelf : Shelf) (files : Option FileOf) (name : List ℕ) (fault : SnapFault) : Type 0 where
  pub bytes : List ℕ
  pub holds : MayHold files name (Some bytes)
  pub first : FirstSnapFault shelf bytes fault
  pub tabled : IsTabled shelf

-- why the file under the name is no snapshot of a state of the library
abbrev pub RefusesState : Shelf → Option FileOf → (name : List ℕ) → Ending → Type 0
RefusesState shelf files name Done = ⊥
RefusesState shelf files name (Unaccepted fault) = ⊥
RefusesState shelf files name (Unread fault) = ⊥
RefusesState shelf files name (Unverified fault) = ⊥
RefusesState shelf files name (Unmerged fault) = ⊥
RefusesState shelf files name (Unopened fault) = ⊥
RefusesState shelf files name (Unfrozen fault) = ⊥
RefusesState shelf files name (Unboarded fault) = ⊥
RefusesState shelf files name (Different difference) = ⊥
RefusesState shelf files name (Stopped (Past limit)) = ⊥
RefusesState shelf files name (Stopped (LibraryFault path)) = ⊥
RefusesState shelf files name (Stopped (LibraryUnaccepted source)) = ⊥
RefusesState shelf files name (Stopped Raised) = ⊥
RefusesState shelf files name (Stopped Memory) = ⊥
RefusesState shelf files name (Stopped (Steps count)) = ⊥
RefusesState shelf files name (Stopped Unsaved) = ⊥
RefusesState shelf files name (Stopped (Unresumed fault)) =
    ((fault ≡ BadForm) × IsLongFile files name) ⊎ HoldsNoState shelf files name fault
RefusesState shelf files name ReadFault = Unit {0}
RefusesState shelf files name WriteFault = ⊥
RefusesState shelf files name Unwritten = ⊥
RefusesState shelf files name NoMemory = Unit {0}
RefusesState shelf files name Absent = MayHold files name None

-- the file under the name is a snapshot of a state of the library, which has its tables, and the machine, which runs
-- the library, was made of it
pub record HoldsState (shelf : Shelf) (files : Option FileOf) (name : List ℕ) (vm : Vm) : Type 0 where
  pub bytes : List ℕ
  pub holds : MayHold files name (Some bytes)
  pub loaded : IsLoaded shelf bytes vm
  pub is_vm : IsVm shelf vm
  pub tabled : IsTabled shelf

-- the run on
-- ==========

-- a machine of the library that goes on for these steps at most, and what was seen and said
module _ (shelf : Shelf) (vm : Vm) (steps : ℕ) (old new : Sight) (said : List ℕ) (files_old files_new : Option FileOf) where
  -- its run ended so, that is the ending, and no file changed
  pub record EndsOn (ending : Ending) : Type 0 where
    pub end : RunEnd
    pub went : GoesOn shelf vm steps old new end said
    pub is : ending ≡ ending_of end steps
    pub files : files_new ≡ files_old

  -- it took all its steps and didn't end, and this became of the snapshot of the state that it left
  pub record SavesOn (snap : List ℕ) (ending : Ending) : Type 0 where
    pub went : GoesOn shelf vm steps old new ends.Limit said
    pub left : Vm
    pub stands : StandsOn shelf vm steps old new left
    pub saves : SavesState snap files_old files_new shelf left steps ending

  -- how it went on, where its state is saved under a name, if one is given, where it takes all its steps
  abbrev pub WentOn : (saved : Option (List ℕ)) → Ending → Type 0
  WentOn None ending = EndsOn ending
  WentOn (Some snap) ending = ((on : EndsOn ending) × (on.end ≢ ends.Limit)) ⊎ SavesOn snap ending

-- the command
-- ===========

-- what loading the library comes to, the name of the snapshot, the words, the place among them of the file to save to, if one is
-- given, the steps, and what was seen and said
module _ (Comes : Result Shelf Ending → Type 0) (snap : List ℕ) (words : List (List ℕ)) (save : Option ℕ) (steps : ℕ)
    (old new : Sight) (said : List ℕ) (files_old files_new : Option FileOf) where
  -- the library isn't loaded
  pub record IsNotLoaded (place : ℕ) (ending : Ending) : Type 0 where
    pub comes : Comes (Err ending)
    pub place_is : place ≡ 1
    pub untouched : Untouched old new said
    pub files : files_new ≡ files_old

  -- it is, and the file is no snapshot of a state of it
  pub record IsNotResumed (place : ℕ) (ending : Ending) : Type 0 where
    pub shelf : Shelf
    pub comes : Comes (Ok shelf)
    pub refuses : RefusesState shelf files_old snap ending
    pub place_is : place ≡ 2
    pub untouched : Untouched old new said
    pub files : files_new ≡ files_old

  -- it is, and the machine of the state went on
  pub record IsResumed (place : ℕ) (ending : Ending) : Type 0 where
    pub shelf : Shelf
    pub comes : Comes (Ok shelf)
    pub vm : Vm
    pub holds : HoldsState shelf files_old snap vm
    pub went : WentOn shelf vm steps old new said files_old files_new (saved_name words save) ending
    pub place_is : place ≡ place_to save ending

  -- how the command ended, with the place of the word that its line names
  abbrev pub Resumes : (place : ℕ) → Ending → Type 0
  Resumes place ending = IsNotLoaded place ending ⊎ (IsNotResumed place ending ⊎ IsResumed place ending)

-- A command that goes on from the snapshot of this name, in the library that comes so of the folder's files and of the file's name, ended
-- so: why, with what printed, what the ports tell and what in the folder, which count of faults rose, and what was said, in the run and
-- behind it.
pub record EndsResume (Comes : Option FileOf → (name : List ℕ) → Result Shelf Ending → Type 0) (steps : ℕ)
    (name snap : List ℕ) (words : List (List ℕ)) (save : Option ℕ) (old new : Outside)
    (ports_old ports_new : List PortView) (status : ℕ) : Type 0 where
  pub ending : Ending
  pub place : ℕ
  pub said : List ℕ
  pub status_is : status ≡ status_of ending
  pub went : Resumes (Comes old.files name) snap words save steps (sight_in old ports_old) (sight_in new ports_new) said old.files new.files place ending
  pub folder_counts : Counts old.folder_faults new.folder_faults (is_folder_fault ending)
  pub out_counts : Counts old.out_faults new.out_faults (is_out_fault ending)
  pub says : Says old.say new.say old.say_faults new.say_faults (said ++ line_of (slice_index_or words place []) ending)

-- What running a library does, and which library a file has.
use Rattle.std.specs.Prelude.{◌≡◌, ◌++◌, ℕ, List, [], length, Contains, Option, Some, IfSome, Result, Ok, Err}
use Rattle.std.specs.Io.KnownBytes.{Keeps}
use Rattle.mpy_base.specs.declared.room.Room.{Room}
use Rattle.mpy_io.specs.Count.{Counts}
use Rattle.mpy_io.specs.Files.{FileOf}
use Rattle.mpy_io.specs.Ports.{PortView}
use Rattle.bc_library.specs.mpy_tree.Raw.{Module}
use Rattle.bc_library.specs.mpy_tree.File.{IsFile}
use Rattle.bc_library.specs.bc_verify.Verified.{IsVerified}
use Rattle.bc_library.specs.Shelf.{Shelf}
use Rattle.mpy_base.specs.declared.refused.Refused.{Refused}
use Rattle.mpy_base.specs.declared.refused.Refused.TheVariants as refused
use Rattle.library_files.specs.declared.limit.LoadFault.{LoadFault}
use Rattle.library_files.specs.declared.limit.LoadFault.TheVariants as faults
use Rattle.command_files.specs.pkg_paths.Plain.{IsPlain}
use Rattle.command_files.specs.pkg_paths.Paths.{candidates}
use Rattle.library_files.specs.Comes.{ending as file_ending}
use Rattle.library_files.specs.Loads as loads
use Rattle.library_files.specs.Loads.{Loading, Loaded, LoadsFrom}
use Rattle.library_runs.specs.declared.ending.RunEnd.{RunEnd}
use Rattle.library_runs.specs.declared.ending.RunEnd.TheVariants as ends
use Rattle.library_runs.specs.Runs.{Sight, RunsAs}
use Rattle.command_files.specs.mpy_words.declared.order.Order.{Order}
use Rattle.command_files.specs.mpy_endings.declared.ending.Ending.{Ending}
use Rattle.command_files.specs.mpy_endings.declared.ending.Ending.TheVariants.{Done, Unaccepted, Unread, Unverified, Unmerged}
use Rattle.command_files.specs.mpy_endings.declared.ending.Ending.TheVariants.{Unopened, Unfrozen, Unboarded, Different, Stopped}
use Rattle.command_files.specs.mpy_endings.declared.ending.Ending.TheVariants.{ReadFault, WriteFault, Unwritten, NoMemory, Absent}
use Rattle.command_files.specs.mpy_endings.declared.ending.Stop.TheVariants.{Past, LibraryFault, LibraryUnaccepted, Raised, Memory, Steps, Unsaved, Unresumed}
use Rattle.run_commands.specs.declared.ready.Ready.{Ready}
use Rattle.run_commands.specs.Base.{base_of}
use Rattle.command_files.specs.mpy_endings.Ending.{is_folder_fault, is_out_fault, status_of}
use Rattle.command_files.specs.Folder.{MayHold}
use Rattle.command_files.specs.mpy_endings.Line.{Says, line_of}
use Rattle.command_files.specs.Opened.{Refuses}
use Rattle.command_files.specs.Outside.{Outside}

-- the library of a file
-- =====================

-- the file under the name is one of this verified module, and has `size` bytes
pub record HoldsMain (files : Option FileOf) (name : List ℕ) (m : Module) (size : ℕ) : Type 0 where
  pub bytes : List ℕ
  pub holds : MayHold files name (Some bytes)
  pub file : IsFile bytes m
  pub verified : IsVerified m
  pub size_is : size ≡ length bytes

-- loading the library of the file under the name, from the files of its folder, ends so
pub record LoadsOf (files : Option FileOf) (name : List ℕ) (end : Loading) : Type 0 where
  pub main : Module
  pub size : ℕ
  pub holds : HoldsMain files name main size
  pub loads : IfSome files (λ file. LoadsFrom file (base_of name) main size end)

-- the path is one that a plain name may have in the folder of the file of this name
abbrev pub IsOfLibrary : (name path : List ℕ) → Type 0
IsOfLibrary name path = (module_name : List ℕ) × IsPlain module_name × Contains (candidates (base_of name) module_name file_ending) path

-- why the library of the file under the name isn't loaded
abbrev pub RefusesLibrary : Option FileOf → List ℕ → Ending → Type 0
RefusesLibrary files name Done = ⊥
RefusesLibrary files name (Unaccepted fault) = ⊥
RefusesLibrary files name (Unread fault) = Refuses files name (Unread fault)
RefusesLibrary files name (Unverified fault) = Refuses files name (Unverified fault)
RefusesLibrary files name (Unmerged fault) = ⊥
RefusesLibrary files name (Unopened fault) = ⊥
RefusesLibrary files name (Unfrozen fault) = ⊥
RefusesLibrary files name (Unboarded fault) = ⊥
RefusesLibrary files name (Different difference) = ⊥
RefusesLibrary files name (Stopped (Past limit)) = LoadsOf files name (loads.Past limit)
RefusesLibrary files name (Stopped (LibraryFault path)) = IsOfLibrary name path
RefusesLibrary files name (Stopped (LibraryUnaccepted source)) = ⊥
RefusesLibrary files name (Stopped Raised) = ⊥
RefusesLibrary files name (Stopped Memory) = ⊥
RefusesLibrary files name (Stopped (Steps count)) = ⊥
RefusesLibrary files name (Stopped Unsaved) = ⊥
RefusesLibrary files name (Stopped (Unresumed fault)) = ⊥
RefusesLibrary files name ReadFault = Unit {0}
RefusesLibrary files name WriteFault = ⊥
RefusesLibrary files name Unwritten = ⊥
RefusesLibrary files name NoMemory = Unit {0}
RefusesLibrary files name Absent = Refuses files name Absent

-- how a run ends whose library isn't loaded
abbrev pub load_end : Refused LoadFault → Ending
load_end (refused.Fault (faults.Past limit)) = Stopped (Past limit)
load_end (refused.Fault (faults.Failed read)) = Stopped (LibraryFault read.path)
load_end (refused.Fault (faults.Unaccepted source)) = Stopped (LibraryUnaccepted source)
load_end refused.NoMemory = NoMemory

-- what loading the library of the file under the name comes to: the library, or why it isn't loaded
abbrev pub FileLibrary : Option FileOf → (name : List ℕ) → Result Shelf Ending → Type 0
FileLibrary files name (Ok shelf) = LoadsOf files name (Loaded shelf)
FileLibrary files name (Err ending) = RefusesLibrary files name ending

-- the run of a library
-- ====================

-- how a run ends whose library's run ends so
abbrev pub ending_of : RunEnd → (steps : ℕ) → Ending
ending_of ends.Ended steps = Done
ending_of ends.Raised steps = Stopped Raised
ending_of ends.Memory steps = Stopped Memory
ending_of ends.Limit steps = Stopped (Steps steps)
ending_of ends.WriteFault steps = WriteFault
ending_of ends.NoMemory steps = NoMemory

-- the endings where the library isn't loaded
abbrev pub IsUnloaded : Ending → Type 0
IsUnloaded Done = ⊥
IsUnloaded (Unaccepted fault) = Unit {0}
IsUnloaded (Unread fault) = Unit {0}
IsUnloaded (Unverified fault) = Unit {0}
IsUnloaded (Unmerged fault) = ⊥
IsUnloaded (Unopened fault) = Unit {0}
IsUnloaded (Unfrozen fault) = ⊥
IsUnloaded (Unboarded fault) = ⊥
IsUnloaded (Different difference) = ⊥
IsUnloaded (Stopped (Past limit)) = Unit {0}
IsUnloaded (Stopped (LibraryFault path)) = Unit {0}
IsUnloaded (Stopped (LibraryUnaccepted source)) = Unit {0}
IsUnloaded (Stopped Raised) = ⊥
IsUnloaded (Stopped Memory) = ⊥
IsUnloaded (Stopped (Steps count)) = ⊥
IsUnloaded (Stopped Unsaved) = ⊥
IsUnloaded (Stopped (Unresumed fault)) = ⊥
IsUnloaded ReadFault = Unit {0}
IsUnloaded WriteFault = ⊥
IsUnloaded Unwritten = ⊥
IsUnloaded NoMemory = Unit {0}
IsUnloaded Absent = Unit {0}

-- no run began: nothing was printed or said, and no port was called
pub record Untouched (old new : Sight) (said : List ℕ) : Type 0 where
  pub prints : Keeps old.out new.out
  pub ports : new.ports ≡ old.ports
  pub says : said ≡ []

-- where the relation tells what loading the library comes to
module _ (Comes : Result Ready Ending → Type 0) (room : Room) (steps : ℕ) (old new : Sight) (said : List ℕ) where
  -- the library was run, and its run ended so
  abbrev pub RanLibrary : RunEnd → Type 0
  RanLibrary end = (ready : Ready) × Comes (Ok ready) × RunsAs ready.library ready.main room steps old new end said

  -- it wasn't loaded
  abbrev pub NotLoaded : Ending → Type 0
  NotLoaded ending = Comes (Err ending) × Untouched old new said

  -- How the run ended, in this room and with this bound on its steps, and what was said in it.
  abbrev pub Runs : Ending → Type 0
  Runs Done = RanLibrary ends.Ended
  Runs (Unaccepted fault) = NotLoaded (Unaccepted fault)
  Runs (Unread fault) = NotLoaded (Unread fault)
  Runs (Unverified fault) = NotLoaded (Unverified fault)
  Runs (Unmerged fault) = ⊥
  Runs (Unopened fault) = NotLoaded (Unopened fault)
  Runs (Unfrozen fault) = ⊥
  Runs (Unboarded fault) = ⊥
  Runs (Different difference) = ⊥
  Runs (Stopped (Past limit)) = NotLoaded (Stopped (Past limit))
  Runs (Stopped (LibraryFault path)) = NotLoaded (Stopped (LibraryFault path))
  Runs (Stopped (LibraryUnaccepted source)) = NotLoaded (Stopped (LibraryUnaccepted source))
  Runs (Stopped Raised) = RanLibrary ends.Raised
  Runs (Stopped Memory) = RanLibrary ends.Memory
  Runs (Stopped (Steps count)) = RanLibrary ends.Limit × (count ≡ steps)
  Runs (Stopped Unsaved) = ⊥
  Runs (Stopped (Unresumed fault)) = ⊥
  Runs ReadFault = NotLoaded ReadFault
  Runs WriteFault = RanLibrary ends.WriteFault
  Runs Unwritten = ⊥
  Runs NoMemory = Untouched old new said
  Runs Absent = NotLoaded Absent

-- the room of an order
abbrev pub room_of : Order → Room
room_of order = record { cells = order.cells; bytes = order.bytes }

-- what they tell of a run
abbrev pub sight_in : Outside → List PortView → Sight
sight_in outside ports = record { out = outside.out; ports = ports }

-- A run of the library that comes so of the folder's files and of this name ended so: why, with what printed and what the ports tell,
-- which count of faults rose, and what was said, in the run and behind it.
pub record EndsRun (Comes : Option FileOf → (name : List ℕ) → Result Ready Ending
    → Type 0) (room : Room) (steps : ℕ) (name : List ℕ) (old new : Outside) (ports_old ports_new : List PortView)
    (status : ℕ) : Type 0 where
  pub ending : Ending
  pub said : List ℕ
  pub status_is : status ≡ status_of ending
  pub went : Runs (Comes old.files name) room steps (sight_in old ports_old) (sight_in new ports_new) said ending
  pub folder_counts : Counts old.folder_faults new.folder_faults (is_folder_fault ending)
  pub out_counts : Counts old.out_faults new.out_faults (is_out_fault ending)
  pub says : Says old.say new.say old.say_faults new.say_faults (said ++ line_of name ending)

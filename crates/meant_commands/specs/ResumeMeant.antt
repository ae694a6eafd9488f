-- What a run that goes on from a snapshot says of the program whose run was suspended.
use Rattle.std.specs.Prelude.{◌≡◌, ℕ, ◌+◌, ◌≤◌, List, ◌++◌, Option, Some, Result, Ok, Err}
use Rattle.std.specs.Io.KnownBytes.{Appends}
use Rattle.meant_files.specs.mpy_base.declared.room.Room.{Room}
use Rattle.meant_files.specs.mpy_base.World.{PortState}
use Rattle.meant_files.specs.mpy_io.Files.{FileOf}
use Rattle.meant_files.specs.mpy_io.Ports.{PortView}
use Rattle.meant_files.specs.port_set.Calls.{Tell}
use Rattle.meant_files.specs.port_set.Counts.{AreAccounted}
use Rattle.library_files.specs.bc_library.Shelf.{Shelf}
use Rattle.meant_files.specs.py_effects.Ends.{Run}
use Rattle.meant_files.specs.py_effects.Growth.{Starts}
use Rattle.meant_files.specs.py_meaning.Program.{Program}
use Rattle.meant_files.specs.py_meaning.Meaning.{meaning}
use Rattle.meant_files.specs.meant_runs.Units.{AreUnits}
use Rattle.meant_files.specs.meant_runs.Runs.{MeansRun}
use Rattle.run_commands.specs.mpy_endings.declared.ending.Ending.{Ending}
use Rattle.run_commands.specs.mpy_endings.Ending.{IsRunStatus, status_of}
use Rattle.run_commands.specs.mpy_endings.Line.{Says}
use Rattle.run_commands.specs.command_files.Outside.{Outside}
use Rattle.run_commands.specs.declared.ready.Ready.{Ready}
use Rattle.run_commands.specs.Ready.{RunLibrary}
use Rattle.run_commands.specs.Resume.{ResumeLibrary}
use Rattle.run_commands.specs.Suspended.{AreNamed, Front, IsSuspendedRun}
use Rattle.meant_commands.specs.Meant.{end_status, end_text}

-- what the files of a folder come to as a library, of the file under a name: this one, or why it isn't loaded
abbrev pub Shelves : Type 1
Shelves = Option FileOf → (name : List ℕ) → Result Shelf Ending → Type 0

-- The file under the other name is the snapshot of a suspended run of the program: each library that is loaded of the
-- file under the name has the program's units, and the bytes are a snapshot of the run of its main module.
pub record HoldsSuspended (Comes : Shelves) (files : Option FileOf) (name snap : List ℕ) (program : Program)
    (front : Front) : Type 0 where
  pub file : FileOf
  pub told : files ≡ Some file
  pub bytes : List ℕ
  pub there : file snap ≡ Some bytes
  pub units : (shelf : Shelf) → Comes files name (Ok shelf) → AreUnits program shelf
  pub suspended : (shelf : Shelf) → Comes files name (Ok shelf) → IsSuspendedRun shelf program.main_name front bytes

-- a run that was suspended, and went on for so many steps
module _ (program : Program) (front : Front) (steps : ℕ) (old new : Outside) (ports_new : List PortView) where
  -- a run of the program in that room and over those ports, for these steps
  abbrev pub MeansSteps : (steps : ℕ) → Run → Type 0
  MeansSteps count run = MeansRun program front.room.cells front.room.bytes front.ports count run

  -- There is one run of all the steps that ends as the program means, or is stopped by its steps on the way
  -- (`MeansRun`): what was printed before the suspension and what was printed now are together its output, the status
  -- says how it ended, the ports tell its ports, and its report, the numbers of its MemoryError or those of the steps
  -- that were ordered now were said.
  pub record EndsTogether (status : ℕ) : Type 0 where
    pub run : Run
    pub means : MeansSteps (front.steps + steps) run
    pub status_is : status ≡ end_status run.end
    pub rest : List ℕ
    pub prints : Appends old.out new.out rest
    pub output : run.world.output ≡ front.printed ++ rest
    pub told : Tell ports_new run.world.ports
    pub says : Says old.say new.say old.say_faults new.say_faults (end_text steps run.world.heap run.end)

  -- The sink of the output failed, or the state wasn't written: what was printed before the suspension and now begins
  -- the output of such a run, and what the program prints within some bound of turns. The ports tell those of such a
  -- run for these steps, or for fewer.
  pub record BeginsTogether : Type 0 where
    pub run : Run
    pub means : MeansSteps (front.steps + steps) run
    pub rest : List ℕ
    pub prints : Appends old.out new.out rest
    pub begins : Starts (front.printed ++ rest) run.world.output
    pub bound : ℕ
    pub begins_meant : Starts (front.printed ++ rest)
        (meaning program front.room.cells front.room.bytes front.ports bound).world.output
    pub taken : ℕ
    pub within : taken ≤ front.steps + steps
    pub earlier : Run
    pub earlier_means : MeansSteps taken earlier
    pub told : Tell ports_new earlier.world.ports

  -- the two parts do together as the program means, and stop earlier only at the last step, or where the sink of the
  -- output, or a write, failed
  pub record DoTogether (status : ℕ) : Type 0 where
    pub ended : IsRunStatus status → EndsTogether status
    pub cut_short : status ≡ 8 → BeginsTogether

-- Going on from the snapshot of a suspended run, in the library of the file under the name, does with that run as its
-- program means: where the sink of the output tells what it has, and the ports what the run left, and each port its
-- faults. No such snapshot is refused: with status 4 the library isn't loaded.
pub record MeansTogether (Comes : Shelves) (steps : ℕ) (name : List ℕ) (program : Program) (front : Front)
    (old new : Outside) (ports_old ports_new : List PortView) (status : ℕ) : Type 0 where
  pub accepted : status ≡ 4 → (ending : Ending) × Comes old.files name (Err ending) × (status ≡ status_of ending)
  pub together : (before : List ℕ) → Tell ports_old front.left → AreAccounted ports_old ports_new
      → old.out ≡ Some before → DoTogether program front steps old new ports_new status

-- a run that goes on from the snapshot under the other name does so for each suspended run whose snapshot that is
abbrev pub ResumeMeans : Shelves → (steps : ℕ) → (name snap : List ℕ) → (old new : Outside)
    → (ports_old ports_new : List PortView) → (status : ℕ) → Type 0
ResumeMeans Comes steps name snap old new ports_old ports_new status = (program : Program) (front : Front)
    → HoldsSuspended Comes old.files name snap program front
    → MeansTogether Comes steps name program front old new ports_old ports_new status

-- a run and its parts
-- ===================

-- the library of the file under the name is the same, with the files as they are now, as a run of it had, and names no
-- module by the empty text
abbrev pub IsSameLibrary : (below : Shelf) → (main : List ℕ) → (files now : Option FileOf) → (name : List ℕ) → Type 0
IsSameLibrary below main files now name = (ready : Ready) (shelf : Shelf) → RunLibrary below main files name (Ok ready)
    → ResumeLibrary below now name (Ok shelf) → (shelf ≡ ready.library) × AreNamed shelf

-- A run with these ports was suspended as this front of the program's run, and what went on from there did with it as
-- the program means.
pub record MeansInParts (Comes : Shelves) (room : Room) (steps more : ℕ) (name : List ℕ) (program : Program)
    (ports : List PortState) (old left from new : Outside) (ports_left ports_from ports_new : List PortView)
    (status : ℕ) : Type 0 where
  pub printed : List ℕ
  pub prints : Appends old.out left.out printed
  pub ports_as_left : List PortState
  pub told : Tell ports_left ports_as_left
  pub means : MeansTogether Comes more name program
      (record { room = room; ports = ports; steps = steps; printed = printed; left = ports_as_left })
      from new ports_from ports_new status

-- What a run says of the program whose units its library has.
use Rattle.std.specs.Prelude.{◌≡◌, ℕ, ◌≤◌, List, [], ◌++◌, Option, Some, Result, Ok, codes, decimal}
use Rattle.std.specs.Io.KnownBytes.{Appends}
use Rattle.meant_files.specs.mpy_base.declared.room.Room.{Room}
use Rattle.meant_files.specs.mpy_base.World.{PortState}
use Rattle.meant_files.specs.mpy_io.Files.{FileOf}
use Rattle.meant_files.specs.mpy_io.Ports.{PortView}
use Rattle.meant_files.specs.mpy_io.Told.{AppendsFront}
use Rattle.meant_files.specs.port_set.Calls.{Tell}
use Rattle.meant_files.specs.port_set.Counts.{AreAccounted}
use Rattle.library_files.specs.bc_library.Shelf.{Shelf}
use Rattle.meant_files.specs.py_values.Shown.{PlainHeap}
use Rattle.meant_files.specs.py_effects.Ends.{End, Open, Ended, Raised, Memory, Run, end_report}
use Rattle.meant_files.specs.py_meaning.Program.{Program}
use Rattle.meant_files.specs.py_meaning.Meaning.{meaning}
use Rattle.meant_files.specs.prim_outputs.Rooms.{room_line}
use Rattle.meant_files.specs.meant_runs.Units.{AreUnits}
use Rattle.meant_files.specs.meant_runs.Runs.{MeansRun}
use Rattle.library_files.specs.Loads.{Loaded}
use Rattle.meant_files.specs.Built.{IsBuilt, IsBuiltProgram}
use Rattle.run_commands.specs.mpy_endings.declared.ending.Ending.{Ending}
use Rattle.run_commands.specs.declared.ready.Ready.{Ready}
use Rattle.run_commands.specs.Base.{base_of}
use Rattle.run_commands.specs.mpy_endings.Ending.{IsRunStatus}
use Rattle.run_commands.specs.mpy_endings.Line.{Says}
use Rattle.run_commands.specs.command_files.Outside.{Outside}
use Rattle.run_commands.specs.Run.{LoadsOf}

-- what the files of a folder come to as a library with a main module, of the file under a name: these, or why it isn't loaded
abbrev pub Libraries : Type 1
Libraries = Option FileOf → (name : List ℕ) → Result Ready Ending → Type 0

-- Each library that is loaded of the file under the name has the program's units, and the same main module: each of its files is the
-- translation of its unit's source, or the merge of its parts', and the names that it refuses are those that the program refuses.
abbrev pub HoldsProgram : Libraries → Option FileOf → (name : List ℕ) → Program → Type 0
HoldsProgram Comes files name program = (ready : Ready) → Comes files name (Ok ready) → (program.main_name ≡ ready.main) × AreUnits program ready.library

-- The file under the name is made of the program's main unit, by compiling and merging, or is a translation of its source, and
-- so is each file that its library has of the
-- unit that the program has under that name.
pub record HoldsBuilt (files : FileOf) (name : List ℕ) (program : Program) : Type 0 where
  pub bytes : List ℕ
  pub there : files name ≡ Some bytes
  pub main : IsBuilt program.main bytes
  pub built : (shelf : Shelf) → LoadsOf (Some files) name (Loaded shelf) → IsBuiltProgram files (base_of name) bytes shelf program

-- the status of a run that ended so. One that is open was stopped by its steps
abbrev pub end_status : End → ℕ
end_status Open = 5
end_status Ended = 0
end_status (Raised x) = 1
end_status (Memory room) = 6

-- what is said of it: the report of an exception that nothing caught, the numbers of a making that doesn't fit, or those of the steps
abbrev pub end_text : (steps : ℕ) → PlainHeap → End → List ℕ
end_text steps heap Open = codes "mpy: step limit " ++ decimal steps ++ codes "\n"
end_text steps heap Ended = []
end_text steps heap (Raised x) = end_report heap (Raised x)
end_text steps heap (Memory room) = room_line room

-- in this room, for these steps, and with these ports
module _ (program : Program) (room : Room) (steps : ℕ) (ports : List PortState) (old new : Outside) (ports_new : List PortView) where
  -- There is a run that ends as the program means, or is stopped by its steps on the way (`MeansRun`), and this was seen of it: the
  -- status says how it ended, its output was printed behind what was printed before, the ports tell its ports, and its report, the
  -- numbers of its MemoryError or those of its steps were said.
  pub record PrintsAndEnds (status : ℕ) : Type 0 where
    pub run : Run
    pub means : MeansRun program room.cells room.bytes ports steps run
    pub status_is : status ≡ end_status run.end
    pub prints : Appends old.out new.out run.world.output
    pub told : Tell ports_new run.world.ports
    pub says : Says old.say new.say old.say_faults new.say_faults (end_text steps run.world.heap run.end)

  -- The sink of the output failed, or the run's state wasn't written: what was printed begins the output of such a run, and what the
  -- program prints within some bound of turns. The ports tell those of such a run for these steps, or for fewer.
  pub record PrintsFront : Type 0 where
    pub run : Run
    pub means : MeansRun program room.cells room.bytes ports steps run
    pub prints : AppendsFront old.out new.out run.world.output
    pub bound : ℕ
    pub prints_meant : AppendsFront old.out new.out (meaning program room.cells room.bytes ports bound).world.output
    pub taken : ℕ
    pub within : taken ≤ steps
    pub earlier : Run
    pub earlier_means : MeansRun program room.cells room.bytes ports taken earlier
    pub told : Tell ports_new earlier.world.ports

  -- the run does as the program means, and stops earlier only at its last step, or where the sink of its output, or a write, failed
  pub record DoesAsMeant (status : ℕ) : Type 0 where
    pub ended : IsRunStatus status → PrintsAndEnds status
    pub cut_short : status ≡ 8 → PrintsFront

-- A run of the library of the file of this name, with this status, does as each program means that the files hold: in this room, and for
-- these steps, where the sink of the output and the ports tell what they have, and each port its faults.
abbrev pub RunMeans : Libraries → Room → (steps : ℕ) → (name : List ℕ) → (old new : Outside) → (ports_old ports_new : List PortView) → (status : ℕ) → Type 0
RunMeans Comes room steps name old new ports_old ports_new status = (program : Program) → HoldsProgram Comes old.files name program
    → (ports : List PortState) (printed : List ℕ) → Tell ports_old ports → AreAccounted ports_old ports_new → old.out ≡ Some printed
    → DoesAsMeant program room steps ports old new ports_new status

-- What the run of a source says of the program of the sources.
use Rattle.std.specs.Prelude.{◌≡◌, ◌⊎◌, ℕ, List, Some, IfSome}
use Rattle.meant_files.specs.mpy_base.declared.room.Room.{Room}
use Rattle.meant_files.specs.mpy_base.World.{PortState}
use Rattle.meant_files.specs.mpy_io.Files.{FileOf}
use Rattle.meant_files.specs.mpy_io.Ports.{PortView}
use Rattle.meant_files.specs.port_set.Calls.{Tell}
use Rattle.meant_files.specs.port_set.Counts.{AreAccounted}
use Rattle.meant_files.specs.py_meaning.Program.{Program}
use Rattle.file_commands.specs.mpy_compile.Compiled.{CompilesTo}
use Rattle.meant_files.specs.source_files.Sources.{stored}
use Rattle.meant_files.specs.Sources.{IsProgramOfSources}
use Rattle.meant_files.specs.Libraries.{AreCrossed}
use Rattle.run_commands.specs.Base.{base_of}
use Rattle.run_commands.specs.mpy_endings.Ending.{IsRunStatus}
use Rattle.meant_commands.specs.Meant.{DoesAsMeant}
use Rattle.run_commands.specs.command_files.Outside.{Outside}

-- Where a library was run, the source of this name and those that it asks for in its folder have a program at the level. The run does as
-- this program means, of which there is one, in this room and for these steps, where the sink of the output and the ports tell what they
-- have, and each port its faults.
pub record MeansSources (level : ℕ) (room : Room) (steps : ℕ) (name : List ℕ) (old new : Outside) (ports_old ports_new : List PortView)
    (status : ℕ) (files : FileOf) : Type 0 where
  pub has_program : IsRunStatus status ⊎ (status ≡ 8) → (program : Program) × IsProgramOfSources files (base_of name) name level program
  pub means : (program : Program) → IsProgramOfSources files (base_of name) name level program
      → (ports : List PortState) (printed : List ℕ) → Tell ports_old ports → AreAccounted ports_old ports_new → old.out ≡ Some printed
      → DoesAsMeant program room steps ports old new ports_new status

-- what a run of the source of this name means, in a folder that tells its files
abbrev pub GoMeans : (level : ℕ) → Room → (steps : ℕ) → (name : List ℕ) → (old new : Outside) → (ports_old ports_new : List PortView) → (status : ℕ) → Type 0
GoMeans level room steps name old new ports_old ports_new status =
    IfSome old.files (MeansSources level room steps name old new ports_old ports_new status)

-- The file under the name is what the source of this path compiles to, and so is the file of each name that is asked for.
pub record HoldsCrossed (sources files : FileOf) (path name : List ℕ) (level : ℕ) : Type 0 where
  pub text : List ℕ
  pub there : sources path ≡ Some text
  pub bytes : List ℕ
  pub compiles : CompilesTo level text (stored path) bytes
  pub written : files name ≡ Some bytes
  pub crossed : AreCrossed sources files (base_of name) path level

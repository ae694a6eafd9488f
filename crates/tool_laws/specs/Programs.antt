-- The program of the files in a folder, by what each name comes to that is asked for, and what a run says of it.
use Rattle.std.specs.Prelude.{◌≡◌, ◌≢◌, ◌⊎◌, ℕ, List, Option, Some, IsSome, IfSome, codes}
use Rattle.mpy_base.specs.declared.room.Room.{Room}
use Rattle.mpy_base.specs.World.{PortState}
use Rattle.mpy_io.specs.Files.{FileOf}
use Rattle.mpy_io.specs.Ports.{PortView}
use Rattle.port_set.specs.Calls.{Tell}
use Rattle.port_set.specs.Counts.{AreAccounted}
use Rattle.py_meaning.specs.Tree.{Name}
use Rattle.py_meaning.specs.Program.{Unit, Entry, Program, entry_in}
use Rattle.mpy_endings.specs.Ending.{IsRunStatus}
use Rattle.command_files.specs.Outside.{Outside}
use Rattle.meant_commands.specs.run_commands.Base.{base_of}
use Rattle.meant_commands.specs.Made.{HoldsMade}
use Rattle.meant_commands.specs.Meant.{DoesAsMeant}
use Rattle.tool_laws.specs.AskedFor.{HoldsEntry, IsAskedFor}

-- programs
-- ========

-- the file under the name is made of the main unit, and the file of each name that is asked for, where there is one, of a
-- unit, or it is none of a verified module
pub record AreProgramFiles (files : FileOf) (name : List ℕ) (main : Unit) : Type 0 where
  pub made : HoldsMade files name main
  pub each : (asked : Name) → IsAskedFor files (base_of name) main asked
      → (entry : Option Entry) × HoldsEntry files (base_of name) asked entry

-- The program of the file under the name and of those in its folder: its main unit is what that file is made of, under each
-- name that is asked for it has what the name's file is, and under no other name anything.
pub record IsProgramOfFiles (files : FileOf) (name : List ℕ) (program : Program) : Type 0 where
  pub main : HoldsMade files name program.main
  pub main_name_is : program.main_name ≡ codes "__main__"
  pub entries : (asked : Name) → IsAskedFor files (base_of name) program.main asked
      → HoldsEntry files (base_of name) asked (entry_in program.entries asked)
  pub no_more : (other : Name) → other ≢ codes "__main__" → IsSome (entry_in program.entries other)
      → IsAskedFor files (base_of name) program.main other

-- what their run says
-- ===================

-- Where a library was run, such files have a program. The run does as each program of the files means, in this room and for
-- these steps, where the sink of the output and the ports tell what they have, and each port its faults.
pub record MeansFiles (room : Room) (steps : ℕ) (name : List ℕ) (old new : Outside) (ports_old ports_new : List PortView)
    (status : ℕ) (files : FileOf) : Type 0 where
  pub has_program : (main : Unit) → AreProgramFiles files name main → IsRunStatus status ⊎ (status ≡ 8)
      → (program : Program) × (program.main ≡ main) × IsProgramOfFiles files name program
  pub means : (program : Program) → IsProgramOfFiles files name program
      → (ports : List PortState) (printed : List ℕ) → Tell ports_old ports → AreAccounted ports_old ports_new
      → old.out ≡ Some printed → DoesAsMeant program room steps ports old new ports_new status

-- what a run of the file of this name means, in a folder that tells its files
abbrev pub RunMeansFiles : Room → (steps : ℕ) → (name : List ℕ) → (old new : Outside)
    → (ports_old ports_new : List PortView) → (status : ℕ) → Type 0
RunMeansFiles room steps name old new ports_old ports_new status =
    IfSome old.files (MeansFiles room steps name old new ports_old ports_new status)

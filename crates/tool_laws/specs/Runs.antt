-- Libraries that files come to, and runs, in one way only.
use Rattle.std.specs.Prelude.{◌≡◌, ◌⊎◌, ℕ, List, Some, Result, Ok, Err}
use Rattle.mpy_base.specs.declared.room.Room.{Room}
use Rattle.mpy_base.specs.World.{PortState}
use Rattle.mpy_io.specs.Files.{FileOf}
use Rattle.mpy_io.specs.Ports.{PortView}
use Rattle.port_set.specs.Calls.{Tell}
use Rattle.port_set.specs.Counts.{AreAccounted}
use Rattle.bc_library.specs.Shelf.{Shelf}
use Rattle.bc_scheme.specs.bc_machine.Library.{Name}
use Rattle.meant_commands.specs.run_commands.library_runs.declared.ending.RunEnd.{RunEnd}
use Rattle.meant_commands.specs.run_commands.library_runs.Runs.{Sight}
use Rattle.mpy_endings.specs.declared.ending.Ending.{Ending}
use Rattle.mpy_endings.specs.Ending.{IsSettled}
use Rattle.command_files.specs.Outside.{Outside}
use Rattle.command_files.specs.Over.{EndsAtBase, WentOver}
use Rattle.meant_commands.specs.run_commands.declared.ready.Ready.{Ready}
use Rattle.meant_commands.specs.Alike.{AreAlike, IsWholeRun, Tells}
use Rattle.tool_laws.specs.Once.{IsSettledStatus}

-- neither a call that failed outside nor want of memory kept the library from being loaded
abbrev pub IsSettledAnswer : Result Ready Ending → Type 0
IsSettledAnswer (Ok ready) = Unit {0}
IsSettledAnswer (Err ending) = IsSettled ending

-- what files come to so is one library with one main module, or one reason for which there is none
abbrev pub AnswersOnce : (Comes : Result Ready Ending → Type 0) → Type 0
AnswersOnce Comes = (one other : Result Ready Ending) → IsSettledAnswer one → IsSettledAnswer other → Comes one → Comes other → one ≡ other

-- how a call of a command that runs something went
abbrev pub Going : Type 1
Going = (old new : Outside) → (ports_old ports_new : List PortView) → (status : ℕ) → Type 0

-- the folder tells these files, and the call went so
abbrev pub OnFiles : FileOf → Going → Going
OnFiles files Went old new ports_old ports_new status = (old.files ≡ Some files) × Went old new ports_old ports_new status

-- a call over a base: the base's file isn't opened, and no port was called, or the call went so over its library
abbrev pub RunOver : (base : List ℕ) → (Went : (below : Shelf) → Going) → Going
RunOver base Went old new ports_old ports_new status =
    (EndsAtBase base old new status × (ports_new ≡ ports_old)) ⊎ WentOver (λ below. Went below old new ports_old ports_new status) old.files base

-- A call that went so with this status, and wasn't cut short: it printed behind this, each port told its contents, and no port's count of
-- faults rose by more than the faults that the port tells.
pub record SettledRun (Went : Going) (printed : List ℕ) (ports_old : List PortView) (states : List PortState) (status : ℕ) : Type 0 where
  pub old : Outside
  pub new : Outside
  pub ports_new : List PortView
  pub out : old.out ≡ Some printed
  pub told : Tell ports_old states
  pub accounted : AreAccounted ports_old ports_new
  pub went : Went old new ports_old ports_new status
  pub settled : IsSettledStatus status

-- calls that go so behind the same output, with the same ports, and aren't cut short, have one status
abbrev pub OneRunStatus : Going → Type 0
OneRunStatus Went = (printed : List ℕ) (ports : List PortView) (states : List PortState) (one other : ℕ) → SettledRun Went printed ports states one
    → SettledRun Went printed ports states other → one ≡ other

-- two whole runs of one library that begin alike end in one way, say the same, and are alike
pub record RunLaws : Type 0 where
  pub end : (shelf : Shelf) (name : Name) (room : Room) (steps : ℕ) (old new_a new_b : Sight) (end_a end_b : RunEnd) (said_a said_b : List ℕ)
      → Tells old → IsWholeRun shelf name room steps old new_a end_a said_a → IsWholeRun shelf name room steps old new_b end_b said_b → end_a ≡ end_b
  pub said : (shelf : Shelf) (name : Name) (room : Room) (steps : ℕ) (old new_a new_b : Sight) (end_a end_b : RunEnd) (said_a said_b : List ℕ)
      → Tells old → IsWholeRun shelf name room steps old new_a end_a said_a → IsWholeRun shelf name room steps old new_b end_b said_b → said_a ≡ said_b
  pub alike : (shelf : Shelf) (name : Name) (room : Room) (steps : ℕ) (old new_a new_b : Sight) (end_a end_b : RunEnd) (said_a said_b : List ℕ)
      → Tells old → IsWholeRun shelf name room steps old new_a end_a said_a → IsWholeRun shelf name room steps old new_b end_b said_b → AreAlike new_a new_b

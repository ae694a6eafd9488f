-- The plan of a file, or what keeps it from being one.
use Rattle.std.specs.Prelude.{◌≡◌, ◌⊎◌, ℕ, ◌<◌, ◌≤◌, List, length, Option, Some, None, IfSome}
use Rattle.mpy_base.specs.declared.limits.TheConstants.{MAX_READ_BYTES}
use Rattle.mpy_io.specs.Files.{FileOf}
use Rattle.board_plan.specs.declared.plan.Plan.{Plan}
use Rattle.board_plan.specs.declared.plan.PlanFault.{PlanFault}
use Rattle.board_plan.specs.declared.plan.PlanFault.TheVariants.{BadLine}
use Rattle.board_plan.specs.Lines.{lines_of}
use Rattle.board_plan.specs.Plans.{IsPlan, HasFault}
use Rattle.command_files.specs.mpy_endings.declared.ending.Ending.{Ending}
use Rattle.command_files.specs.mpy_endings.declared.ending.Ending.TheVariants.{Done, Unaccepted, Unread, Unverified, Unmerged}
use Rattle.command_files.specs.mpy_endings.declared.ending.Ending.TheVariants.{Unopened, Unfrozen, Unboarded, Different, Stopped}
use Rattle.command_files.specs.mpy_endings.declared.ending.Ending.TheVariants.{ReadFault, WriteFault, Unwritten, NoMemory, Absent}
use Rattle.command_files.specs.mpy_endings.declared.ending.BoardFault.TheVariants as boards
use Rattle.command_files.specs.Folder.{MayHold}

-- the lines of the file under the name, which can be read, are the plan
pub record HoldsPlan (files : Option FileOf) (name : List ℕ) (plan : Plan) : Type 0 where
  pub bytes : List ℕ
  pub holds : MayHold files name (Some bytes)
  pub short : length bytes ≤ MAX_READ_BYTES
  pub is_plan : IsPlan (lines_of bytes) plan

-- the lines of the file under the name, which can be read, have this first fault
pub record HoldsNoPlan (files : Option FileOf) (name : List ℕ) (fault : PlanFault) : Type 0 where
  pub bytes : List ℕ
  pub holds : MayHold files name (Some bytes)
  pub short : length bytes ≤ MAX_READ_BYTES
  pub has : HasFault (lines_of bytes) fault

-- the file under the name is too long to be read
abbrev pub IsTooLong : Option FileOf → (name : List ℕ) → Type 0
IsTooLong files name = IfSome files (λ file. (bytes : List ℕ) × (file name ≡ Some bytes) × (MAX_READ_BYTES < length bytes))

-- why the file under the name isn't read as a plan. One that is too long to be read has a bad line 1
abbrev pub RefusesPlan : Option FileOf → (name : List ℕ) → Ending → Type 0
RefusesPlan files name Done = ⊥
RefusesPlan files name (Unaccepted fault) = ⊥
RefusesPlan files name (Unread fault) = ⊥
RefusesPlan files name (Unverified fault) = ⊥
RefusesPlan files name (Unmerged fault) = ⊥
RefusesPlan files name (Unopened fault) = ⊥
RefusesPlan files name (Unfrozen fault) = ⊥
RefusesPlan files name (Unboarded (boards.Plan fault)) = HoldsNoPlan files name fault ⊎ ((fault ≡ BadLine 1) × IsTooLong files name)
RefusesPlan files name (Unboarded (boards.NoModule «module»)) = ⊥
RefusesPlan files name (Unboarded (boards.Unwritten task)) = ⊥
RefusesPlan files name (Different difference) = ⊥
RefusesPlan files name (Stopped stop) = ⊥
RefusesPlan files name ReadFault = Unit {0}
RefusesPlan files name WriteFault = ⊥
RefusesPlan files name Unwritten = ⊥
RefusesPlan files name NoMemory = Unit {0}
RefusesPlan files name Absent = MayHold files name None

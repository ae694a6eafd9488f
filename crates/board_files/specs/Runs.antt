-- Tasks whose output goes to files.
use Rattle.std.specs.Prelude.{◌≡◌, ℕ, ◌+◌, ◌≤◌, ◌==◌, List, length, All, Option, Some, slice_get, if◌then◌else◌}
use Rattle.mpy_io.specs.Files.{FileOf}
use Rattle.board_tasks.specs.vm_starting.vm_states.Means.{Program}
use Rattle.board_plan.specs.declared.plan.Task.{Task}
use Rattle.board_plan.specs.declared.plan.Turn.{Turn}
use Rattle.board_tasks.specs.declared.turning.TaskRun.{TaskRun}
use Rattle.board_tasks.specs.Schedules.{total}
use Rattle.board_tasks.specs.Turns.{Stands}
use Rattle.board_files.specs.Files.{out_name}
use Rattle.board_files.specs.Stopped.{AreMade, HavePrinted}

-- the task's machine stands where its run alone comes to behind these steps, and the file has what that run has printed
pub record HasOutput (p : Program) (task : Task) (steps : ℕ) (run : TaskRun) (content : Option (List ℕ)) : Type 0 where
  pub printed : List ℕ
  pub holds : content ≡ Some printed
  pub stands : Stands p task steps printed run

-- the file of each task has the output of its run, for the steps that its number gives
pub record HaveOutputs (p : Program) (tasks : List Task) (steps_of : ℕ → ℕ) (runs : List TaskRun) (files : Option FileOf) : Type 0 where
  pub file : FileOf
  pub told : files ≡ Some file
  pub as_many : length runs ≡ length tasks
  pub each : (i : ℕ) (task : Task) (run : TaskRun) → slice_get tasks i ≡ Some task → slice_get runs i ≡ Some run
      → HasOutput p task (steps_of i) run (file (out_name i))

-- more steps for the task of this number
abbrev pub with_steps : (number steps : ℕ) → (ℕ → ℕ) → ℕ → ℕ
with_steps number steps steps_of i = (if number == i then steps else 0) + steps_of i

-- the task of this number went these steps further, and what they print went to its file, while the others stayed
abbrev pub Goes : Program → (number steps : ℕ) → (old new : List TaskRun) → (before behind : Option FileOf) → Type 0
Goes p number steps old new before behind =
    (tasks : List Task) (steps_of : ℕ → ℕ) → HaveOutputs p tasks steps_of old before → HaveOutputs p tasks (with_steps number steps steps_of) new behind

-- from its start each task went the steps that the turns give it
abbrev pub GoesBy : Program → List Turn → (old new : List TaskRun) → (before behind : Option FileOf) → Type 0
GoesBy p turns old new before behind =
    (tasks : List Task) → HaveOutputs p tasks (λ number. 0) old before → HaveOutputs p tasks (total turns) new behind

-- the files are told, and have what the tasks' runs printed in these steps, up to where it stopped
abbrev pub HaveStopped : Program → List Task → (steps_of : ℕ → ℕ) → (cut : Option ℕ) → Option FileOf → Type 0
HaveStopped p tasks steps_of cut files = (file : FileOf) × (files ≡ Some file) × HavePrinted p tasks steps_of cut file

-- it stopped within these steps of the task of this number
abbrev pub StopsIn : Program → (number steps : ℕ) → (cut : Option ℕ) → (old : List TaskRun) → (before behind : Option FileOf) → Type 0
StopsIn p number steps cut old before behind =
    (tasks : List Task) (steps_of : ℕ → ℕ) → HaveOutputs p tasks steps_of old before
    → (made : ℕ) × (made ≤ steps) × HaveStopped p tasks (with_steps number made steps_of) cut behind

-- it stopped within these turns, which begin at the start of each task
abbrev pub StopsBy : Program → List Turn → (cut : Option ℕ) → (old : List TaskRun) → (before behind : Option FileOf) → Type 0
StopsBy p turns cut old before behind =
    (tasks : List Task) → HaveOutputs p tasks (λ number. 0) old before → (made : List Turn) × AreMade turns made × HaveStopped p tasks (total made) cut behind

-- no machine has paid more steps on its running instruction
abbrev pub PaidWithin : List TaskRun → (most : ℕ) → Type 0
PaidWithin runs most = All (λ run. run.vm.paid ≤ most) runs

-- The summary of a board: a line for each task.
use Rattle.std.specs.Prelude.{◌≡◌, ℕ, ◌<◌, ◌≤◌, ◌^◌, List, ◌++◌, length, All, Option, Some, None, IfSome, codes, decimal, slice_get}
use Rattle.std.specs.List.{concat}
use Rattle.std.specs.Io.KnownBytes.{Appends}
use Rattle.mpy_base.specs.declared.limits.TheConstants.{MAX_TASKS}
use Rattle.mpy_base.specs.declared.room.Room.{Room}
use Rattle.mpy_base.specs.Kind.{kind_name}
use Rattle.mpy_io.specs.Files.{FileOf}
use Rattle.mpy_io.specs.Told.{AppendsFront}
use Rattle.board_tasks.specs.py_effects.Ends.{Run}
use Rattle.board_tasks.specs.vm_starting.vm_states.Means.{Program}
use Rattle.board_plan.specs.declared.plan.Plan.{Plan}
use Rattle.board_plan.specs.declared.plan.Task.{Task}
use Rattle.board_tasks.specs.declared.ending.TaskEnd.{TaskEnd}
use Rattle.board_tasks.specs.declared.ending.TaskEnd.TheVariants as ends
use Rattle.board_tasks.specs.Alone.{run_of_task}
use Rattle.board_tasks.specs.Ends.{RunEnds, UsesRoom}
use Rattle.board_tasks.specs.Schedules.{total}
use Rattle.board_files.specs.Files.{out_name, IsNoOutput}
use Rattle.board_plan.specs.Plans.{all_steps}

-- how a task ended, in words
abbrev pub word_of : Option TaskEnd → List ℕ
word_of None = codes "open"
word_of (Some ends.Ended) = codes "ended"
word_of (Some (ends.Raised kind)) = codes "raised " ++ kind_name kind
word_of (Some ends.Memory) = codes "memory"
word_of (Some ends.WriteFault) = codes "unwritten"

-- the line of a task
unfoldable pub task_line : (number : ℕ) → Option TaskEnd → Room → List ℕ
task_line number end room =
    codes "task " ++ decimal number ++ codes " " ++ word_of end ++ codes " cells " ++ decimal room.cells ++ codes " bytes " ++ decimal room.bytes ++ codes "\n"

-- the line says how the run ended, and which room its objects use
pub record SaysRun (number : ℕ) (run : Run) (line : List ℕ) : Type 0 where
  pub end : Option TaskEnd
  pub ends : RunEnds run end
  pub room : Room
  pub uses : UsesRoom run.world.heap room
  pub is : line ≡ task_line number end room

module _ (p : Program) (plan : Plan) where
  -- the run of a task alone, for the total of its own steps
  abbrev pub run_in : (number : ℕ) → Task → Run
  run_in number task = run_of_task p.library task (total plan.turns number)

  -- a line for each task, in their order
  pub record Summarizes (text : List ℕ) : Type 0 where
    pub lines : List (List ℕ)
    pub text_is : text ≡ concat lines
    pub as_many : length lines ≡ length plan.tasks
    pub each : (number : ℕ) (task : Task) (line : List ℕ) → slice_get plan.tasks number ≡ Some task → slice_get lines number ≡ Some line
        → SaysRun number (run_in number task) line

  -- each task's file has the output of its run, and each other file is what it was. The summary of the runs was put behind what was
  -- printed, as a whole or not
  pub record HasRunBy (Puts : Option (List ℕ) → Option (List ℕ) → List ℕ → Type 0) (old new : FileOf) (before behind : Option (List ℕ)) : Type 0 where
    pub outputs : (number : ℕ) (task : Task) → slice_get plan.tasks number ≡ Some task → new (out_name number) ≡ Some (run_in number task).world.output
    pub others : (name : List ℕ) → IsNoOutput (length plan.tasks) name → new name ≡ old name
    pub summary : List ℕ
    pub summarizes : Summarizes summary
    pub added : Puts before behind summary

  -- the summary was put
  abbrev pub HasRun : (old new : FileOf) → (before behind : Option (List ℕ)) → Type 0
  HasRun old new before behind = HasRunBy Appends old new before behind

  -- a front of it was put
  abbrev pub HasRunFront : (old new : FileOf) → (before behind : Option (List ℕ)) → Type 0
  HasRunFront old new before behind = HasRunBy AppendsFront old new before behind

-- it has no more tasks than a board, the task of each turn, and no more steps than can be counted
pub record CanRun (plan : Plan) : Type 0 where
  pub few : length plan.tasks ≤ MAX_TASKS
  pub have_tasks : All (λ turn. turn.task < length plan.tasks) plan.turns
  pub countable : all_steps plan.turns < 2 ^ 64

-- the folder tells its files now
abbrev pub HasRunIn : Program → Plan → (old new : Option FileOf) → (before behind : Option (List ℕ)) → Type 0
HasRunIn p plan old new before behind = IfSome old (λ file. (now : FileOf) × (new ≡ Some now) × HasRun p plan file now before behind)

-- where the folder tells its files, it tells them at the end, and the tasks have run so that the sink of the summary failed
abbrev pub HasRunFrontIn : Program → Plan → (old new : Option FileOf) → (before behind : Option (List ℕ)) → Type 0
HasRunFrontIn p plan old new before behind = IfSome old (λ file. (now : FileOf) × (new ≡ Some now) × HasRunFront p plan file now before behind)

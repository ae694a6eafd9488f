-- The lines that tell of the tasks of a board.
use Rattle.std.specs.Prelude.{◌≡◌, ℕ, List, length, Option, Some, slice_get}
use Rattle.std.specs.List.{concat}
use Rattle.mpy_base.specs.declared.room.Room.{Room}
use Rattle.board_tasks.specs.declared.ending.TaskEnd.{TaskEnd}
use Rattle.board_tasks.specs.declared.turning.TaskRun.{TaskRun}
use Rattle.board_tasks.specs.Ends.{HasEnd, IsRoomOf}
use Rattle.board_files.specs.Summaries.{task_line}

-- the line tells of the run of this number
pub record TellsRun (runs : List TaskRun) (number : ℕ) (line : List ℕ) : Type 0 where
  pub end : Option TaskEnd
  pub ends : (run : TaskRun) → slice_get runs number ≡ Some run → HasEnd run end
  pub room : Room
  pub uses : (run : TaskRun) → slice_get runs number ≡ Some run → IsRoomOf run room
  pub is : line ≡ task_line number end room

-- the lines tell of the first `count` runs, one line each
pub record TellRuns (runs : List TaskRun) (count : ℕ) (lines : List (List ℕ)) : Type 0 where
  pub as_many : length lines ≡ count
  pub each : (number : ℕ) (line : List ℕ) → slice_get lines number ≡ Some line → TellsRun runs number line

-- lines that tell of the runs were put, as a whole or not
pub record PutsLines (Puts : Option (List ℕ) → Option (List ℕ) → List ℕ → Type 0) (runs : List TaskRun) (before behind : Option (List ℕ)) : Type 0 where
  pub lines : List (List ℕ)
  pub tell : TellRuns runs (length runs) lines
  pub put : Puts before behind (concat lines)

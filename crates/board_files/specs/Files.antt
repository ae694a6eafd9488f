-- The files of the tasks' output.
use Rattle.std.specs.Prelude.{◌≡◌, ◌≢◌, ◌⊎◌, ℕ, ◌<◌, Bool, true, false, List, [], ◌++◌, Option, Some, None, IfSome, Result, Ok, Err, codes, decimal}
use Rattle.mpy_io.specs.Files.{FileOf, AppendsFile}
use Rattle.board_files.specs.declared.stop.BoardStop.{BoardStop}
use Rattle.board_files.specs.declared.stop.BoardStop.TheVariants as stops
use Rattle.board_files.specs.declared.stop.OutputStop.{OutputStop}
use Rattle.board_files.specs.declared.stop.OutputStop.TheVariants as outputs
use Rattle.board_files.specs.declared.stop.SummaryStop.{SummaryStop}
use Rattle.board_files.specs.declared.stop.SummaryStop.TheVariants as summaries

-- the name of the file that takes the output of the task of this number
unfoldable pub out_name : ℕ → List ℕ
out_name task = decimal task ++ codes ".out"

-- the name is none of those of the first `count` tasks
abbrev pub IsNoOutput : (count : ℕ) → (name : List ℕ) → Type 0
IsNoOutput count name = (task : ℕ) → task < count → name ≢ out_name task

-- each other file is what it was
abbrev pub KeepsOthers : (count : ℕ) → (old new : Option FileOf) → Type 0
KeepsOthers count old new = IfSome old (λ file. (now : FileOf) × (new ≡ Some now) × ((name : List ℕ) → IsNoOutput count name → now name ≡ file name))

-- the file of each of the first `count` tasks is empty
abbrev pub AreEmpty : (count : ℕ) → (old new : Option FileOf) → Type 0
AreEmpty count old new = IfSome old (λ file. (now : FileOf) × (new ≡ Some now) × ((task : ℕ) → task < count → now (out_name task) ≡ Some []))

-- these bytes were added to the file, or there were none
abbrev pub Adds : (old new : Option FileOf) → (name bytes : List ℕ) → Type 0
Adds old new name bytes = AppendsFile old new name bytes ⊎ ((bytes ≡ []) × (new ≡ old))

-- the number of the task whose file wasn't written, or None where memory ran out
abbrev pub cut_of : OutputStop → Option ℕ
cut_of (outputs.Unwritten task) = Some task
cut_of outputs.NoMemory = None

-- did the folder fail, so that a task's file wasn't written?
abbrev pub is_unwritten : Result (Unit {0}) OutputStop → Bool
is_unwritten (Ok done) = false
is_unwritten (Err (outputs.Unwritten task)) = true
is_unwritten (Err outputs.NoMemory) = false

-- the task whose file wasn't written is one of the first `count`
abbrev pub StopsWithin : (count : ℕ) → Result (Unit {0}) OutputStop → Type 0
StopsWithin count (Ok done) = Unit {0}
StopsWithin count (Err (outputs.Unwritten task)) = task < count
StopsWithin count (Err outputs.NoMemory) = Unit {0}

-- did the sink fail, so that the summary wasn't put?
abbrev pub is_unput : Result (Unit {0}) SummaryStop → Bool
is_unput (Ok done) = false
is_unput (Err summaries.WriteFault) = true
is_unput (Err summaries.NoMemory) = false

-- did the folder fail in the run of a plan?
abbrev pub is_folder_fault : Result (Unit {0}) BoardStop → Bool
is_folder_fault (Ok done) = false
is_folder_fault (Err (stops.NoModule name)) = false
is_folder_fault (Err (stops.Unwritten task)) = true
is_folder_fault (Err stops.WriteFault) = false
is_folder_fault (Err stops.NoMemory) = false

-- did the sink fail in the run of a plan?
abbrev pub is_out_fault : Result (Unit {0}) BoardStop → Bool
is_out_fault (Ok done) = false
is_out_fault (Err (stops.NoModule name)) = false
is_out_fault (Err (stops.Unwritten task)) = false
is_out_fault (Err stops.WriteFault) = true
is_out_fault (Err stops.NoMemory) = false

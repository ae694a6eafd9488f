-- What the files of the tasks hold where the run of a plan stopped: at a file that wasn't written, or for want of memory.
use Rattle.std.specs.Prelude.{◌≡◌, ◌≢◌, ◌⊎◌, ℕ, ◌<◌, ◌≤◌, List, [], ◌∷◌, ◌++◌, length, Option, Some, None, IfSome, slice_get}
use Rattle.mpy_io.specs.Files.{FileOf}
use Rattle.board_tasks.specs.vm_starting.vm_states.Means.{Program}
use Rattle.board_plan.specs.declared.plan.Plan.{Plan}
use Rattle.board_plan.specs.declared.plan.Task.{Task}
use Rattle.board_plan.specs.declared.plan.Turn.{Turn}
use Rattle.board_tasks.specs.Alone.{run_of_task}
use Rattle.board_tasks.specs.Schedules.{total}
use Rattle.board_files.specs.Files.{out_name}

-- Below, `cut` is the number of the task whose file wasn't written, or None where memory ran out.

-- it stopped at the task of this number; memory may run out at any
abbrev pub IsAt : (cut : Option ℕ) → (number : ℕ) → Type 0
IsAt (Some task) number = task ≡ number
IsAt None number = Unit {0}

-- the turns that were made: all, or some and the first steps of the next
pub data AreMade (turns : List Turn) : (made : List Turn) → Type 0 where
  all : AreMade turns turns
  some : (first rest : List Turn) (turn : Turn) (steps : ℕ) → turns ≡ first ++ turn ∷ rest → steps ≤ turn.steps
      → AreMade turns (first ++ record { task = turn.task; steps = steps } ∷ [])

-- what the run of a task alone has printed behind these steps
abbrev pub printed_by : Program → Task → (steps : ℕ) → List ℕ
printed_by p task steps = (run_of_task p.library task steps).world.output

-- The file of each task has what its run printed in the steps that its number gives. One that wasn't written has a front of that.
pub record HavePrinted (p : Program) (tasks : List Task) (steps_of : ℕ → ℕ) (cut : Option ℕ) (file : FileOf) : Type 0 where
  pub whole : (number : ℕ) (task : Task) → slice_get tasks number ≡ Some task → cut ≢ Some number
      → file (out_name number) ≡ Some (printed_by p task (steps_of number))
  pub front : (number : ℕ) (task : Task) → slice_get tasks number ≡ Some task → cut ≡ Some number
      → (front : List ℕ) × (rest : List ℕ) × (printed_by p task (steps_of number) ≡ front ++ rest) × (file (out_name number) ≡ Some front)

-- No turn was made. Of the first `count` tasks the files of the first are empty, that of the next is empty or what it was, and the
-- others are what they were.
pub record HasBegun (count : ℕ) (cut : Option ℕ) (old now : FileOf) : Type 0 where
  pub begun : ℕ
  pub at : IsAt cut begun
  pub empty : (number : ℕ) → number < begun → now (out_name number) ≡ Some []
  pub next : (now (out_name begun) ≡ Some []) ⊎ (now (out_name begun) ≡ old (out_name begun))
  pub kept : (number : ℕ) → begun < number → number < count → now (out_name number) ≡ old (out_name number)

module _ (p : Program) (plan : Plan) where
  -- these turns were made
  pub record HasMade (cut : Option ℕ) (now : FileOf) : Type 0 where
    pub made : List Turn
    pub are_made : AreMade plan.turns made
    pub printed : HavePrinted p plan.tasks (total made) cut now

  -- it stopped before the turns, or in them
  abbrev pub HasStopped : (cut : Option ℕ) → (old now : FileOf) → Type 0
  HasStopped cut old now = HasBegun (length plan.tasks) cut old now ⊎ HasMade cut now

-- where the folder told its files, it tells them now, and they are so
abbrev pub HasStoppedIn : Program → Plan → (cut : Option ℕ) → (old new : Option FileOf) → Type 0
HasStoppedIn p plan cut old new = IfSome old (λ file. (now : FileOf) × (new ≡ Some now) × HasStopped p plan cut file now)

-- steps of the code
-- =================

-- the files of the first tasks were begun
abbrev pub HasBegunIn : (count : ℕ) → (cut : Option ℕ) → (old new : Option FileOf) → Type 0
HasBegunIn count cut old new = IfSome old (λ file. (now : FileOf) × (new ≡ Some now) × HasBegun count cut file now)

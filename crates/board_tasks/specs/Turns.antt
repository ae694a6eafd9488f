-- What a turn does.
use Rattle.std.specs.Prelude.{◌≡◌, ◌⊎◌, ℕ, ◌+◌, ◌^◌, ◌<◌, ◌≤◌, List, ◌++◌, true, false, All, Option, Some, IsSome, slice_get, slice_set}
use Rattle.std.specs.Io.KnownBytes.{Appends}
use Rattle.mpy_io.specs.Told.{AppendsFront}
use Rattle.bc_library.specs.Shelf.{Shelf}
use Rattle.vm_machine.specs.vm_frames.bc_machine.Machine.{run_of, steps}
use Rattle.vm_machine.specs.vm_starting.vm_states.Means.{Program}
use Rattle.vm_machine.specs.vm_starting.Programs.{IsProgramOf}
use Rattle.vm_machine.specs.vm_starting.declared.opening.Vm.{Vm}
use Rattle.vm_machine.specs.Machine.{IsVm, machine_of}
use Rattle.board_plan.specs.declared.plan.Task.{Task}
use Rattle.board_tasks.specs.declared.ending.TurnEnd.{TurnEnd}
use Rattle.board_tasks.specs.declared.ending.TurnEnd.TheVariants as turns
use Rattle.board_tasks.specs.declared.turning.TaskRun.{TaskRun}
use Rattle.board_tasks.specs.Alone.{alone, start_of}
use Rattle.board_tasks.specs.Ends.{GoesOn, IsOver}

-- each machine runs the library
abbrev pub AreRuns : Shelf → List TaskRun → Type 0
AreRuns shelf runs = All (λ run. IsVm shelf run.vm) runs

-- these steps and those that are paid on the task's running instruction can be counted
abbrev pub IsCountable : List TaskRun → (task steps : ℕ) → Type 0
IsCountable runs task steps = (run : TaskRun) → slice_get runs task ≡ Some run → run.vm.paid + steps < 2 ^ 64

-- The machine made these steps, whatever was printed before, and what they print was put. Before and behind stand for what the
-- sink told
pub record Makes (p : Program) (count : ℕ) (old new : Vm) (before behind : Option (List ℕ)) : Type 0 where
  pub printed : List ℕ
  pub steps : (earlier : List ℕ) → steps p.library count (machine_of p old (alone earlier)) ≡ machine_of p new (alone (earlier ++ printed))
  pub put : Appends before behind printed

-- a front of what these steps of the machine print was put
pub record MakesFront (p : Program) (count : ℕ) (old : Vm) (before behind : Option (List ℕ)) : Type 0 where
  pub printed : List ℕ
  pub prints : (earlier : List ℕ) → (run_of (steps p.library count (machine_of p old (alone earlier)))).world.output ≡ earlier ++ printed
  pub put : AppendsFront before behind printed

-- a turn of the task was so, in each program of the library, where the sink tells what it gets
abbrev pub TurnsSo : Shelf → (count : ℕ) → (old new : TaskRun) → (before behind : Option (List ℕ)) → TurnEnd → Type 0
TurnsSo shelf count old new before behind turns.Over = IsOver old × (new ≡ old) × (behind ≡ before)
TurnsSo shelf count old new before behind turns.Went =
    GoesOn old × (new.failed ≡ false) × ((p : Program) → IsProgramOf shelf p → IsSome before → Makes p count old.vm new.vm before behind)
TurnsSo shelf count old new before behind turns.WriteFault =
    GoesOn old × (new.failed ≡ true) × ((p : Program) → IsProgramOf shelf p → IsSome before → MakesFront p count old.vm before behind)

-- the task of this number had that turn, and the others stayed
pub record TurnsOne (shelf : Shelf) (task count : ℕ) (old new : List TaskRun) (before behind : Option (List ℕ)) (end : TurnEnd) : Type 0 where
  pub was : TaskRun
  pub is : TaskRun
  pub here : slice_get old task ≡ Some was
  pub others : new ≡ slice_set old task is
  pub turn : TurnsSo shelf count was is before behind end
  pub paid : is.vm.paid ≤ was.vm.paid + count

-- the turn was made, or the task had ended before
abbrev pub IsMade : TurnEnd → Type 0
IsMade turns.Went = Unit {0}
IsMade turns.Over = Unit {0}
IsMade turns.WriteFault = ⊥

-- The task's machine stands where the run of its module alone comes to behind these steps, and this is what the run has printed
pub record Stands (p : Program) (task : Task) (total : ℕ) (printed : List ℕ) (run : TaskRun) : Type 0 where
  pub unfailed : run.failed ≡ false
  pub comes : steps p.library total (start_of p.library task) ≡ machine_of p run.vm (alone printed)

-- behind a turn it stands so, and what it has printed more was put
pub record StandsOn (p : Program) (task : Task) (total : ℕ) (printed : List ℕ) (run : TaskRun) (before behind : Option (List ℕ)) : Type 0 where
  pub more : List ℕ
  pub stands : Stands p task total (printed ++ more) run
  pub put : Appends before behind more

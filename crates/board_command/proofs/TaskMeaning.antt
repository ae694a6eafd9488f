-- What the run of a task says of its program.
use Rattle.std.proofs.Common.{◌≡◌, ℕ, zero, suc, ◌<◌, List, [], ◌∷◌, length, Option, Some, refl, subst, arith}
use Rattle.std.specs.Prelude.{slice_get}
use Rattle.std.proofs.lemmas.Option.{slice_get_within}
use Rattle.meant_files.specs.meant_runs.mpy_base.World.{PortState}
use Rattle.meant_files.specs.meant_runs.mpy_io.Files.{FileOf}
use Rattle.board_files.specs.vm_starting.bc_library.Shelf.{Shelf}
use Rattle.meant_files.specs.meant_runs.py_meaning.Program.{Program}
use Rattle.meant_files.specs.meant_runs.bc_machine.Machine.{run}
use Rattle.board_files.specs.vm_starting.vm_states.Means as machine
use Rattle.board_files.specs.vm_starting.Programs.{IsProgramOf}
use Rattle.meant_files.specs.meant_runs.Runs.{MeansRun}
use Rattle.meant_files.specs.meant_runs.Units.{AreUnits}
use Rattle.board_files.specs.board_plan.declared.plan.Plan.{Plan}
use Rattle.board_files.specs.board_plan.declared.plan.Task.{Task}
use Rattle.board_files.specs.board_tasks.Schedules.{total}
use Rattle.board_files.specs.Summaries.{HasRun, run_in}
use Rattle.board_command.specs.TaskRuns.{RanAsMeant}

line_at : (lines : List (List ℕ)) (i : ℕ) → i < length lines → (line : List ℕ) × (slice_get lines i ≡ Some line)
line_at [] i h = absurd (omega (arith, h))
line_at (line ∷ lines) zero h = (line, refl)
line_at (line ∷ lines) (suc i) h = line_at lines i (omega (arith, h))

-- what the law of programs says of their runs
abbrev pub RunsMean : Type 0
RunsMean = (shelf : Shelf) (p : machine.Program) (program : Program) → IsProgramOf shelf p → AreUnits program shelf → (cells bytes : ℕ) (ports : List PortState) (n : ℕ)
    → MeansRun program cells bytes ports n (run p.library program.main_name cells bytes ports n)

pub ran_as_meant : RunsMean → (shelf : Shelf) (p : machine.Program) (plan : Plan) (old new : FileOf) (before behind : Option (List ℕ)) (number : ℕ) (task : Task) (program : Program) → IsProgramOf shelf p
    → (ran : HasRun p plan old new before behind) → slice_get plan.tasks number ≡ Some task → AreUnits program shelf → program.main_name ≡ task.«module» → RanAsMeant program plan number task new ran.summarizes.lines
ran_as_meant mean shelf p plan old new before behind number task program is ran at units named =
    let within = slice_get_within plan.tasks number task at in
    let many = ran.summarizes.as_many in
    let line = line_at ran.summarizes.lines number (omega arith) in
    record {
      run = run_in p plan number task;
      means = subst (λ (name : List ℕ). MeansRun program task.room.cells task.room.bytes [] (total plan.turns number) (run p.library name task.room.cells task.room.bytes [] (total plan.turns number))) named
          (mean shelf p program is units task.room.cells task.room.bytes [] (total plan.turns number));
      output = ran.outputs number task at;
      line = line.0;
      told = line.1;
      says = ran.summarizes.each number task line.0 at line.1;
    }

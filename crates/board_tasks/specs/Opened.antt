-- Tasks at their start, and those that can't start.
use Rattle.std.specs.Prelude.{◌≡◌, ℕ, false, List, [], ◌∷◌, Option, Some, None}
use Rattle.bc_library.specs.declared.fault.Member.{Member}
use Rattle.bc_library.specs.declared.fault.Member.TheVariants as members
use Rattle.bc_library.specs.Shelf.{Shelf, member_of}
use Rattle.vm_machine.specs.vm_starting.vm_states.Means.{Program}
use Rattle.vm_machine.specs.vm_starting.Programs.{IsProgramOf}
use Rattle.vm_machine.specs.Machine.{IsVm, machine_of}
use Rattle.board_plan.specs.declared.plan.Task.{Task}
use Rattle.board_tasks.specs.declared.turning.TaskRun.{TaskRun}
use Rattle.board_tasks.specs.Alone.{start_of, alone}

-- the number of a module that isn't refused
abbrev pub number_by : Option Member → Option ℕ
number_by None = None
number_by (Some members.Refused) = None
number_by (Some (members.Module number)) = Some number

-- the number of the module of that name
abbrev pub number_of : Shelf → (name : List ℕ) → Option ℕ
number_of shelf name = number_by (member_of shelf name)

-- the name, if it has no module, and else the first name that is missing among the others
abbrev pub missing_by : (name : List ℕ) → Option ℕ → (others : Option (List ℕ)) → Option (List ℕ)
missing_by name None others = Some name
missing_by name (Some number) others = others

-- the module of the first task that the library lacks or refuses
abbrev pub first_missing : Shelf → List Task → Option (List ℕ)
first_missing shelf [] = None
first_missing shelf (task ∷ tasks) = missing_by task.«module» (number_of shelf task.«module») (first_missing shelf tasks)

-- the task's machine is at its start, in each program of the library. Where the main module doesn't fit, it has ended there
pub record IsOpened (shelf : Shelf) (task : Task) (run : TaskRun) : Type 0 where
  pub vm : IsVm shelf run.vm
  pub starts : (p : Program) → IsProgramOf shelf p → start_of p.library task ≡ machine_of p run.vm (alone [])
  pub paid : run.vm.paid ≡ 0
  pub unfailed : run.failed ≡ false

-- the tasks are at their starts, one by one
abbrev pub AreOpened : Shelf → List Task → List TaskRun → Type 0
AreOpened shelf [] [] = Unit {0}
AreOpened shelf [] (run ∷ runs) = ⊥
AreOpened shelf (task ∷ tasks) [] = ⊥
AreOpened shelf (task ∷ tasks) (run ∷ runs) = IsOpened shelf task run × AreOpened shelf tasks runs

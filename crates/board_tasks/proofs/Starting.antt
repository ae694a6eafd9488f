-- Tasks at their start.
use Rattle.std.proofs.Common.{◌≡◌, ℕ, ◌+◌, ◌<◌, List, [], ◌∷◌, ◌++◌, length, take, drop, get_or, false, Some, None, refl, sym, ap, subst, ◌∙◌}
use Rattle.std.proofs.lemmas.List.{take_more, drop_more}
use Rattle.std.specs.Prelude.{slice_get}
use Rattle.mpy_base.specs.declared.room.Room.{Room}
use Rattle.mpy_base.specs.World.{PortState}
use Rattle.bc_library.specs.Shelf.{Shelf, Named}
use Rattle.vm_machine.specs.vm_frames.bc_machine.Library.{Name}
use Rattle.vm_machine.specs.vm_frames.bc_machine.Machine.{start}
use Rattle.vm_machine.specs.vm_frames.py_effects.Ends.{new_world}
use Rattle.vm_machine.specs.vm_starting.vm_states.Means.{Program}
use Rattle.vm_machine.specs.vm_starting.Programs.{IsProgramOf}
use Rattle.vm_machine.specs.vm_starting.declared.opening.Vm.{Vm}
use Rattle.vm_machine.specs.Machine.{IsVm, machine_of}
use Rattle.board_plan.specs.declared.plan.Task.{Task}
use Rattle.board_tasks.specs.declared.turning.TaskRun.{TaskRun}
use Rattle.board_tasks.specs.Alone.{start_of, alone}
use Rattle.board_tasks.specs.Opened.{IsOpened, AreOpened, number_of, first_missing}
use Rattle.board_tasks.proofs.Found.{Has, found, each_there}

-- the module's name in a program
named : (shelf : Shelf) (p : Program) → IsProgramOf shelf p → (name : List ℕ) (number : ℕ) → Has shelf name number → p.tables.module_name number ≡ name
named shelf p is name number has =
    (is.means.modules number has.n (subst (λ (s : Shelf). slice_get s.modules number ≡ Some has.n) (sym is.shelf_is) has.there)).name_is ∙ has.named

pub opened : (shelf : Shelf) (task : Task) (number : ℕ) (vm : Vm) → number_of shelf task.«module» ≡ Some number → IsVm shelf vm → vm.paid ≡ 0
    → ((p : Program) (name : Name) (ports : List PortState) → IsProgramOf shelf p → p.tables.module_name number ≡ name
    → start p.library name (new_world task.room.cells task.room.bytes ports) ≡ machine_of p vm (new_world task.room.cells task.room.bytes ports))
    → IsOpened shelf task (record { vm = vm; failed = false })
opened shelf task number vm there is_vm paid starts = record {
  vm = is_vm;
  starts = λ p is. starts p task.«module» [] is (named shelf p is task.«module» number (found shelf task.«module» number there));
  paid = paid;
  unfailed = refl;
}

-- one task more
pub opened_more : (shelf : Shelf) (tasks : List Task) (runs : List TaskRun) (task : Task) (run : TaskRun) → AreOpened shelf tasks runs → IsOpened shelf task run
    → AreOpened shelf (tasks ++ task ∷ []) (runs ++ run ∷ [])
opened_more shelf [] [] task run all one = (one, tt)
opened_more shelf [] (r ∷ runs) task run all one = absurd all
opened_more shelf (t ∷ tasks) [] task run all one = absurd all
opened_more shelf (t ∷ tasks) (r ∷ runs) task run all one = (all.0, opened_more shelf tasks runs task run all.1 one)

-- of all tasks, those up to one more
pub more_opened : (shelf : Shelf) (tasks : List Task) (runs : List TaskRun) (i : ℕ) (task : Task) (run : TaskRun) → i < length tasks → task ≡ get_or tasks i task → first_missing shelf (drop i tasks) ≡ None
    → AreOpened shelf (take i tasks) runs → IsOpened shelf task run → (first_missing shelf (drop (i + 1) tasks) ≡ None) × AreOpened shelf (take (i + 1) tasks) (runs ++ run ∷ [])
more_opened shelf tasks runs i task run within at none all one =
    let next : drop i tasks ≡ task ∷ drop (i + 1) tasks = drop_more tasks i task within ∙ ap (λ (t : Task). t ∷ drop (i + 1) tasks) (sym at) in
    let there = each_there shelf task (drop (i + 1) tasks) (ap (first_missing shelf) (sym next) ∙ none) in
    let front : take (i + 1) tasks ≡ take i tasks ++ task ∷ [] = take_more tasks i task within ∙ ap (λ (t : Task). take i tasks ++ t ∷ []) (sym at) in
    (there.1, subst (λ (ts : List Task). AreOpened shelf ts (runs ++ run ∷ [])) (sym front) (opened_more shelf (take i tasks) runs task run all one))

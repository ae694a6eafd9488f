-- Which runs of tasks have ended, and how.
use Rattle.std.specs.Prelude.{◌≡◌, ◌⊎◌, ℕ, List, Bool, true, false, Option, Some, None, IsSome}
use Rattle.mpy_base.specs.declared.kind.Kind.{Kind}
use Rattle.mpy_base.specs.declared.room.Room.{Room}
use Rattle.mpy_base.specs.Weights.{used}
use Rattle.mpy_base.specs.World.{Heap, ExceptionObject, object}
use Rattle.vm_machine.specs.vm_frames.py_effects.Ends as plain
use Rattle.vm_machine.specs.vm_frames.py_effects.Ends.{End, Run}
use Rattle.vm_machine.specs.state_calls.frame_exits.declared.ends.End.{End as Stop}
use Rattle.vm_machine.specs.state_calls.frame_exits.declared.ends.End.TheVariants as stops
use Rattle.board_tasks.specs.declared.ending.TaskEnd.{TaskEnd}
use Rattle.board_tasks.specs.declared.ending.TaskEnd.TheVariants as ends
use Rattle.board_tasks.specs.declared.ending.TurnEnd.{TurnEnd}
use Rattle.board_tasks.specs.declared.ending.TurnEnd.TheVariants as turns
use Rattle.board_tasks.specs.declared.turning.TaskRun.{TaskRun}

-- the task has ended: its machine, or with its sink
abbrev pub IsOver : TaskRun → Type 0
IsOver run = (run.failed ≡ true) ⊎ IsSome run.vm.end

-- the run goes on
pub record GoesOn (run : TaskRun) : Type 0 where
  pub unfailed : run.failed ≡ false
  pub open_end : run.vm.end ≡ None

-- whether the count of faults of the output's sink rose
abbrev pub is_write_fault : TurnEnd → Bool
is_write_fault turns.Went = false
is_write_fault turns.Over = false
is_write_fault turns.WriteFault = true

-- the object of this number is an exception of this kind
pub record IsOfKind {V N : Type 0} (heap : Heap V N) (x : ℕ) (kind : Kind) : Type 0 where
  pub args : V
  pub file : N
  pub line : ℕ
  pub name : N
  pub is : object heap.objects x ≡ Some (ExceptionObject kind args file line name)

-- what is told of the end of a machine's run over its heap: None exactly where it is open
abbrev pub Ends : {V N : Type 0} → Heap V N → End → Option TaskEnd → Type 0
Ends heap plain.Open end = end ≡ None
Ends heap plain.Ended end = end ≡ Some ends.Ended
Ends heap (plain.Raised x) end = (kind : Kind) × IsOfKind heap x kind × (end ≡ Some (ends.Raised kind))
Ends heap (plain.Memory room) end = end ≡ Some ends.Memory

-- how a run of the machine ended, as a task's end
abbrev pub RunEnds : Run → Option TaskEnd → Type 0
RunEnds run end = Ends run.world.heap run.end end

-- how the machine's run stands, as the meaning has it
abbrev pub standing : Option Stop → End
standing None = plain.Open
standing (Some stops.Ended) = plain.Ended
standing (Some (stops.Raised x)) = plain.Raised x.cell
standing (Some (stops.Memory room)) = plain.Memory room

-- how a task ended, if it did: by a failed write where its sink failed, and else as the machine's run stands
abbrev pub EndsBy : Bool → TaskRun → Option TaskEnd → Type 0
EndsBy true run end = end ≡ Some ends.WriteFault
EndsBy false run end = Ends run.vm.arena (standing run.vm.end) end

-- how the run of a task has ended, or that it is open
abbrev pub HasEnd : TaskRun → Option TaskEnd → Type 0
HasEnd run end = EndsBy run.failed run end

-- the room that the objects of a heap use
pub record UsesRoom {V N : Type 0} (heap : Heap V N) (room : Room) : Type 0 where
  pub cells : room.cells ≡ used heap
  pub bytes : room.bytes ≡ heap.bytes

-- the room that the objects of a task's arena use
abbrev pub IsRoomOf : TaskRun → Room → Type 0
IsRoomOf run room = UsesRoom run.vm.arena room

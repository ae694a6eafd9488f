-- What a machine keeps in a run, whose snapshot is one of a state of its library.
use Rattle.std.specs.Prelude.{◌≡◌, ℕ, ◌^◌, ◌<◌, ◌≤◌, length, None}
use Rattle.mpy_base.specs.declared.limits.TheConstants.{MAX_CALLS}
use Rattle.mpy_base.specs.World.{Objects, object}
use Rattle.mpy_base.specs.Weights.{used}
use Rattle.mpy_base.specs.Val.{PlainWorld}
use Rattle.arena_heap.specs.declared.value.Value.{Value}
use Rattle.arena_heap.specs.Values.{Sound, IsWithinRoom, HasOwnRoom}
use Rattle.bc_library.specs.Shelf.{Shelf}
use Rattle.bc_machine.specs.Growth.{world_of}
use Rattle.bc_machine.specs.State.{State}
use Rattle.vm_starting.specs.vm_states.Means.{Program}
use Rattle.vm_starting.specs.Programs.{IsProgramOf}
use Rattle.vm_starting.specs.declared.opening.Vm.{Vm}
use Rattle.vm_machine.specs.Machine.{machine_of}
use Rattle.snap_saving.specs.Shown.{snapshot_of}
use Rattle.snap_grammar.specs.declared.parts.Snapshot.{Snapshot}
use Rattle.snap_laws.specs.Filled.{AreFilled, HoldsBytes}
use Rattle.snap_laws.specs.Kept.{WaitsWell, IsPaid}
use Rattle.snap_kept.specs.Frames.{IsKept}

-- what each state of a run keeps, in a program
pub record Keeps (p : Program) (s : State) : Type 0 where
  pub kept : IsKept p.library s
  pub waits : WaitsWell p.library s
  pub filled : AreFilled (world_of s).heap
  pub bytes : HoldsBytes (world_of s).heap

-- the snapshot of the machine
abbrev pub snapshot_in : Shelf → Vm → Snapshot
snapshot_in shelf vm = snapshot_of shelf vm.arena vm.modules vm.frames.calls vm.paid

-- the objects of an arena are formed, and its lists and dicts have such rooms, and no more in them than these hold
pub record IsRoomy (objects : Objects Value ℕ) : Type 0 where
  pub sound : Sound objects
  pub rooms : (n : ℕ) → IsWithinRoom (object objects n)
  pub own_rooms : (n : ℕ) → HasOwnRoom (object objects n)

-- what the types of a machine keep: its objects are such, and what is used of its room lies within it
pub record IsHeld (vm : Vm) : Type 0 where
  pub roomy : IsRoomy vm.arena.objects
  pub cells : used vm.arena ≤ vm.arena.cell_size
  pub bytes : vm.arena.bytes ≤ vm.arena.byte_size

-- the machine's room is within its limits, and what is used within the room; it has no more calls, and no more is
-- paid, than may be
pub record IsWithin (vm : Vm) : Type 0 where
  pub cells : used vm.arena ≤ vm.arena.cell_size
  pub bytes : vm.arena.bytes ≤ vm.arena.byte_size
  pub few_cells : vm.arena.cell_size ≤ 4194304
  pub few_bytes : vm.arena.byte_size ≤ 16777216
  pub few_calls : length vm.frames.calls ≤ MAX_CALLS
  pub few_paid : vm.paid < 2 ^ 63

-- the machine goes on, keeps these in each program of its library, and has no more than a snapshot may have
pub record IsSaved (shelf : Shelf) (vm : Vm) : Type 0 where
  pub goes_on : vm.end ≡ None
  pub keeps : (p : Program) → IsProgramOf shelf p → (w : PlainWorld) → Keeps p (machine_of p vm w)
  -- what is paid is so in the world of the run
  pub paid : (p : Program) → IsProgramOf shelf p → (w : PlainWorld) × IsPaid p.library (machine_of p vm w)
  pub within : IsWithin vm

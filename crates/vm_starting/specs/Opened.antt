-- What a run of a library keeps.
use Rattle.std.specs.Prelude.{◌≡◌, ℕ, ◌+◌, [], length, None}
use Rattle.mpy_base.specs.declared.limits.TheConstants.{MAX_MODULES}
use Rattle.mpy_base.specs.declared.room.Room.{Room}
use Rattle.mpy_base.specs.Val.{PlainWorld}
use Rattle.mpy_base.specs.Weights.{empty}
use Rattle.vm_states.specs.bc_library.Greatest.{IsGreatestIn, ShelfHas}
use Rattle.vm_states.specs.bc_library.Shelf.{Shelf}
use Rattle.frame_calls.specs.bc_machine.State.{State}
use Rattle.frame_calls.specs.prim_modules.Registry.{Registry}
use Rattle.vm_states.specs.frame_moves.Outcomes.{world_of}
use Rattle.vm_states.specs.frame_exits.Ends.{with_modules, state_of}
use Rattle.vm_states.specs.Means.{Program}
use Rattle.vm_starting.specs.declared.opening.Vm.{Vm}
use Rattle.vm_starting.specs.Starting.{Begins}
use Rattle.vm_starting.specs.Titles.{AreTitles}

-- memory beside the frames: for the operands and parameters of each call, where no code of the library takes more slots and
-- handler entries than these, and for the items of each instruction. The names are those of the library's modules
pub record HasMemory (shelf : Shelf) (n_state n_exc : ℕ) (vm : Vm) : Type 0 where
  pub greatest : IsGreatestIn (ShelfHas shelf) n_state n_exc
  pub slot_room : vm.frames.slot_room ≡ n_state + 1
  pub entry_room : vm.frames.entry_room ≡ n_exc
  pub registry : vm.modules.room ≡ MAX_MODULES + 1
  pub names : AreTitles shelf vm.names.items
  pub operands : vm.operands.room ≡ n_state + 1
  pub bindings : vm.bindings.room ≡ n_state + 1
  pub items : length vm.items.items ≡ n_state + 1

-- the main module has begun in an empty arena, where no module was registered
pub record IsBegun (shelf : Shelf) (number : ℕ) (room : Room) (vm : Vm) : Type 0 where
  pub locals : ℕ
  pub before : Registry
  pub none : before.entries ≡ []
  pub begins : Begins shelf number locals (empty room.cells room.bytes) vm.arena before vm.modules vm.frames.calls

-- the machine has taken its memory, and nothing has begun
pub record IsFresh (room : Room) (vm : Vm) : Type 0 where
  pub calls : vm.frames.calls ≡ []
  pub arena : vm.arena ≡ empty room.cells room.bytes
  pub modules : vm.modules.entries ≡ []
  pub paid : vm.paid ≡ 0
  pub end : vm.end ≡ None

-- where the run is with its calls, its arena and its registered modules, in this world's output and ports
abbrev pub state_in : Program → Vm → PlainWorld → State
state_in p vm w = state_of p.tables vm.end vm.frames.calls (world_of p.tables (with_modules p.tables w vm.modules) vm.arena)

-- What an instruction calls, with its operands.
use Rattle.std.specs.Prelude.{◌≡◌, ℕ, suc, ◌+◌, ◌<◌, ◌≤◌, List, length, Some, All, slice_get}
use Rattle.vm_states.specs.mpy_base.declared.builtin.Builtin.{Builtin}
use Rattle.vm_states.specs.mpy_base.World.{Heap}
use Rattle.vm_states.specs.bc_ops.declared.instr.Instr.TheVariants as instrs
use Rattle.frame_calls.specs.arena_heap.declared.value.Value.{Value}
use Rattle.frame_calls.specs.arena_heap.declared.value.Value.TheVariants as values
use Rattle.frame_calls.specs.arena_heap.Values.{IsMethodOf}
use Rattle.vm_states.specs.bc_library.Constants.{items_at, text_at}
use Rattle.vm_states.specs.bc_library.Shelf.{Shelf}
use Rattle.frame_calls.specs.bc_machine.Library.{Plain}
use Rattle.frame_calls.specs.prim_calls.Callees.{IsKnownCallee}
use Rattle.vm_states.specs.vm_frames.declared.slot.Slot.{Slot}
use Rattle.vm_states.specs.vm_frames.declared.slot.Slot.TheVariants as slots
use Rattle.vm_states.specs.vm_frames.Calls.{Call, Calls}
use Rattle.vm_states.specs.vm_fetching.declared.operations.CallOp.{CallOp}
use Rattle.vm_states.specs.vm_fetching.declared.operations.CallOp.TheVariants as call_ops
use Rattle.vm_states.specs.vm_fetching.Operations.{call_op}
use Rattle.frame_calls.specs.declared.calling.Invocation.{Invocation}
use Rattle.frame_calls.specs.Invoking.{Invokes}
use Rattle.frame_calls.specs.Known.{AreKnown}
use Rattle.frame_calls.specs.Layouts.{Layout, tables_of}
use Rattle.frame_calls.specs.Operands.{Given, running_slots, operands_count}

-- how many slots below the operands say what is called
abbrev pub callee_slots : CallOp → ℕ
callee_slots call_ops.CallFunction = 1
callee_slots call_ops.CallMethod = 2

-- an object that a look-up left lies on a method of its type
abbrev pub HasMethods : List Slot → Type 0
HasMethods st =
    (i : ℕ) (object : Value) (method : Builtin) → slice_get st i ≡ Some (slots.Object (Some object))
    → slice_get st (suc i) ≡ Some (slots.Value (values.Built method))
    → IsMethodOf method object

-- the rooms of the calls stay, and their look-ups lie on methods where the old ones did
pub record Keeps (old new : Calls) : Type 0 where
  pub rooms : new ≡ record old { calls = new.calls }
  pub methods : All (λ (c : Call). HasMethods c.slots) old.calls → All (λ (c : Call). HasMethods c.slots) new.calls

-- this is what the instruction calls over the arena, and these are its operands. They are known
pub record IsTaken (shelf : Shelf) (op : CallOp) (number : ℕ) (heap : Heap Value ℕ) (s : Calls) (given : Given) (call : Invocation) : Type 0 where
  pub invokes : (layout : Layout)
      → Invokes (tables_of (text_at shelf) (items_at shelf) layout)
      (Plain (instrs.Num (call_op op) number)) call.size heap s.calls given.args given.keys call.callee
  pub callee : IsKnownCallee (text_at shelf) (items_at shelf) heap.objects call.callee
  pub operands : AreKnown (text_at shelf) (items_at shelf) heap.objects given
  pub few : length given.args < 256
  pub size : call.size ≡ operands_count number + callee_slots op
  pub there : call.size ≤ length (running_slots s.calls)

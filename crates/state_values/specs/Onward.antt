-- What an instruction does in each program, and how it leaves the calls: what it acts as comes from these.
use Rattle.std.specs.Prelude.{◌≡◌, ℕ, List, Option, IfSome, All, Result, Ok, Err}
use Rattle.vm_states.specs.mpy_base.World.{Heap, Objects}
use Rattle.vm_states.specs.prim_names.arena_heap.declared.value.Value.{Value}
use Rattle.vm_states.specs.prim_names.arena_heap.declared.value.StrNo.{StrNo}
use Rattle.vm_states.specs.prim_names.arena_heap.declared.value.ConstNo.{ConstNo}
use Rattle.vm_states.specs.bc_labels.Positions.{Starts}
use Rattle.vm_states.specs.bc_rows.declared.row.Row.{Row}
use Rattle.vm_states.specs.prim_names.prim_faults.declared.stop.Stop.{Stop}
use Rattle.vm_states.specs.prim_names.prim_faults.Faults.{IsKnown}
use Rattle.vm_states.specs.vm_frames.declared.slot.Slot.{Slot}
use Rattle.vm_states.specs.vm_frames.Calls.{Call, Calls, on_running}
use Rattle.vm_states.specs.vm_frames.Views.{starts_of}
use Rattle.vm_states.specs.frame_moves.Shown.{view_of}
use Rattle.vm_states.specs.frame_moves.Outcomes.{Does}
use Rattle.vm_states.specs.frame_exits.Known.{IsKnownSlot, IsKnownCall}
use Rattle.vm_states.specs.vm_fetching.declared.instruction.Fetched.{Fetched}
use Rattle.vm_states.specs.Means.{Program}
use Rattle.vm_states.specs.Ready.{IsReady, item_at}
use Rattle.vm_states.specs.Acting.{Tells}

-- an instruction starts at the offset, where this was fetched for the first of the calls of a program
abbrev pub StartsBehind : Fetched → (offset : ℕ) → Type 0
StartsBehind fetched offset =
    (p : Program) (s : Calls) (row : Row) → (ready : IsReady p s row fetched) → Starts (starts_of (view_of p.tables) ready.first) offset

module _ (texts : StrNo → Option (List ℕ)) (tuples : ConstNo → Option (List Value)) where
  -- in each program with these texts and tuples, the machine's instruction that was fetched does this
  abbrev pub DoesBehind : Fetched → (visits : ℕ) → (before behind : Heap Value ℕ) → (old new : Calls) → Result (Unit {0}) Stop → Type 0
  DoesBehind fetched visits before behind old new result =
      (p : Program) (row : Row) → Tells texts tuples p → (ready : IsReady p old row fetched)
      → Does p.tables (item_at p ready.first fetched) visits before behind old.calls new.calls result

  -- the running call goes on at the offset with other slots and locals, which are known where the old ones are
  pub record Onward (objects : Objects Value ℕ) (offset : ℕ) (old new : Calls) : Type 0 where
    pub slots_of : Call → List Slot
    pub locals_of : Call → List (Option Value)
    pub moved : new ≡ on_running (λ c. record c { at = offset; slots = slots_of c; locals = locals_of c }) old
    pub slots_known : (c : Call) → All (IsKnownSlot texts tuples objects) c.slots → All (IsKnownSlot texts tuples objects) (slots_of c)
    pub locals_known : (c : Call) → All (λ v. IfSome v (IsKnown texts tuples objects)) c.locals
        → All (λ v. IfSome v (IsKnown texts tuples objects)) (locals_of c)

  -- the calls have gone on where the instruction is done, and are as they were where it stopped
  abbrev pub GoesOnward : Objects Value ℕ → (offset : ℕ) → (old new : Calls) → Result (Unit {0}) Stop → Type 0
  GoesOnward objects offset old new (Ok done) = Onward objects offset old new
  GoesOnward objects offset old new (Err stop) = new ≡ old

  -- the running call changes to one that is known where the old one is
  pub record Changed (objects : Objects Value ℕ) (old new : Calls) : Type 0 where
    pub change : Call → Call
    pub moved : new ≡ on_running change old
    pub known : (modules : ℕ) (c : Call) → IsKnownCall texts tuples modules objects c → IsKnownCall texts tuples modules objects (change c)

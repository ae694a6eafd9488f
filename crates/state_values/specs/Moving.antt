-- Instructions that move slots, and what they come to.
use Rattle.std.specs.Prelude.{◌≡◌, ℕ, List, ◌∷◌, drop, true, false}
use Rattle.vm_states.specs.mpy_base.Val.{PlainWorld}
use Rattle.vm_states.specs.prim_names.arena_heap.declared.value.Value.TheVariants as values
use Rattle.vm_states.specs.bc_rows.declared.row.Row.{Row}
use Rattle.vm_states.specs.bc_machine.Step.{step}
use Rattle.vm_states.specs.vm_frames.declared.slot.Slot.{Slot}
use Rattle.vm_states.specs.vm_frames.declared.slot.Slot.TheVariants as slots
use Rattle.vm_states.specs.vm_frames.Calls.{Calls}
use Rattle.vm_states.specs.frame_moves.Shown.{running_of}
use Rattle.vm_states.specs.frame_moves.Stacks.{doubled, doubled_two, turned_two, turned_three}
use Rattle.vm_states.specs.vm_fetching.declared.operations.MoveOp.{MoveOp}
use Rattle.vm_states.specs.vm_fetching.declared.operations.MoveOp.TheVariants as move_ops
use Rattle.vm_states.specs.vm_fetching.declared.operations.ItemOp.{ItemOp}
use Rattle.vm_states.specs.vm_fetching.declared.instruction.Fetched.{Fetched}
use Rattle.vm_states.specs.vm_fetching.Instructions as fetched
use Rattle.vm_states.specs.Means.{Program, Means}
use Rattle.vm_states.specs.Ready.{IsReady}
use Rattle.vm_states.specs.Running.{IsRunning}

-- the slots behind it
abbrev pub moved_slots : MoveOp → List Slot → List Slot
moved_slots move_ops.LoadConstFalse st = slots.Value (values.Bool false) ∷ st
moved_slots move_ops.LoadConstNone st = slots.Value values.None ∷ st
moved_slots move_ops.LoadConstTrue st = slots.Value (values.Bool true) ∷ st
moved_slots move_ops.LoadNull st = slots.Null ∷ st
moved_slots move_ops.DupTop st = doubled st
moved_slots move_ops.DupTopTwo st = doubled_two st
moved_slots move_ops.PopTop st = drop 1 st
moved_slots move_ops.RotTwo st = turned_two st
moved_slots move_ops.RotThree st = turned_three st

-- the operation as it is fetched
abbrev pub fetched_move : MoveOp → (end : ℕ) → Fetched
fetched_move op end = record { instruction = fetched.move op; end = end }

-- an operation on an item, as it is fetched
abbrev pub fetched_item : ItemOp → (end : ℕ) → Fetched
fetched_item op end = record { instruction = fetched.item op; end = end }

-- an iterator that is put, as it is fetched
abbrev pub fetched_iterate : (end : ℕ) → Fetched
fetched_iterate end = record { instruction = fetched.iterate; end = end }

-- the calls run a program, and this was fetched for the first of them
pub record Runs (s : Calls) (fetched : Fetched) : Type 0 where
  pub program : Program
  pub row : Row
  pub means : Means program
  pub running : IsRunning program s
  pub ready : IsReady program s row fetched

-- the machine's step comes from the old calls to the new ones, in each world and whatever was paid, and the new ones run the
-- program
pub record Goes (p : Program) (old new : Calls) : Type 0 where
  pub steps : (paid : ℕ) (w : PlainWorld) → step p.library (running_of p.tables paid old.calls w) ≡ running_of p.tables 0 new.calls w
  pub runs : IsRunning p new

-- the calls go on so in each program that the old ones run, where this was fetched for the first of them
abbrev pub GoesBehind : Fetched → (old new : Calls) → Type 0
GoesBehind fetched old new = (p : Program) (row : Row) → Means p → IsRunning p old → IsReady p old row fetched → Goes p old new

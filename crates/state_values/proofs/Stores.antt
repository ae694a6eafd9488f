-- What stores a local finds it, and a value on top.
use Rattle.std.proofs.Common.{◌≡◌, ℕ, ◌<◌, List, Some, ap}
use Rattle.std.specs.Prelude.{slice_get}
use Rattle.vm_states.specs.mpy_base.Val.{PlainWorld}
use Rattle.vm_states.specs.bc_ops.declared.instr.Op.TheVariants as ops
use Rattle.vm_states.specs.bc_ops.declared.instr.Instr.TheVariants as instrs
use Rattle.vm_states.specs.bc_machine.Library.{Plain, Code, Library}
use Rattle.vm_states.specs.bc_machine.State.{Frame}
use Rattle.vm_states.specs.bc_progress.Plans.{Plan}
use Rattle.vm_states.specs.bc_rows.declared.row.Row.{Row}
use Rattle.vm_states.specs.prim_names.arena_heap.declared.value.Value.{Value}
use Rattle.vm_states.specs.vm_frames.declared.slot.Slot.{Slot}
use Rattle.vm_states.specs.vm_frames.declared.slot.Slot.TheVariants as slots
use Rattle.vm_states.specs.vm_frames.Calls.{Call, Calls}
use Rattle.vm_states.specs.vm_frames.Views.{View, slots_of, starts_of, frame_of}
use Rattle.vm_states.specs.frame_moves.Shown.{Tables, Steps, IsNext, IsTop, view_of}
use Rattle.vm_states.specs.Finds.{FindsNumber}
use Rattle.vm_states.specs.OnTop as machine
use Rattle.vm_states.specs.Tops as tops
use Rattle.vm_states.specs.vm_fetching.declared.operations.LocalOp.{LocalOp}
use Rattle.vm_states.specs.vm_fetching.declared.operations.LocalOp.TheVariants as local_ops
use Rattle.vm_states.specs.vm_fetching.Instructions as fetched
use Rattle.vm_states.specs.vm_fetching.Operations.{local_op}
use Rattle.vm_states.specs.Means.{Program}
use Rattle.vm_states.specs.Ready.{IsReady}
use Rattle.state_values.specs.Storing.{StoresLocal}
use Rattle.state_values.proofs.Moves.{of_first}

-- of either operation, so of the one that stores
either : (P : LocalOp → Type 0) → P local_ops.StoreFast → P local_ops.StoreFastN → (op : LocalOp) → StoresLocal op → P op
either P short long local_ops.StoreFast h = short
either P short long local_ops.StoreFastN h = long
either P short long local_ops.LoadFast h = absurd h
either P short long local_ops.LoadFastN h = absurd h
either P short long local_ops.DeleteFast h = absurd h

pub stores : (op : LocalOp) (n end : ℕ) (old new : List Call) → StoresLocal op
    → ((tables : Tables) (w : PlainWorld) → IsNext tables end old → Steps tables w (Plain (instrs.Num ops.StoreFast n)) old new)
    → ((tables : Tables) (w : PlainWorld) → IsNext tables end old → Steps tables w (Plain (instrs.Num ops.StoreFastN n)) old new)
    → (tables : Tables) (w : PlainWorld) → IsNext tables end old → Steps tables w (Plain (instrs.Num (local_op op) n)) old new
stores op n end old new h short long =
    either (λ o. (tables : Tables) (w : PlainWorld) → IsNext tables end old → Steps tables w (Plain (instrs.Num (local_op o) n)) old new) short long op h

finds_value : (plan : Plan) (library : Library) (code : Code) (frame : Frame) (op : LocalOp) (n : ℕ) → StoresLocal op → FindsNumber plan library code frame (local_op op) n → machine.OneValue frame.slots
finds_value plan library code frame op n h =
    either (λ o. FindsNumber plan library code frame (local_op o) n → machine.OneValue frame.slots) (λ f. f) (λ f. f) op h

pub value_there : ((view : View) (starts : List ℕ) (st : List Slot) → machine.OneValue (slots_of view starts st) → tops.OneValue st)
    → (p : Program) (s : Calls) (row : Row) (op : LocalOp) (n end : ℕ) (r : IsReady p s row (record { instruction = fetched.local op n; end = end })) → StoresLocal op
    → (v : Value) × IsTop (slots.Value v) s.calls
value_there one p s row op n end r h =
    let view : View = view_of p.tables in
    let found = finds_value (p.plans (p.tables.module_name r.first.module_number) r.first.code) p.library r.code (frame_of view r.first) op n h r.finds in
    let top = one view (starts_of view r.first) r.first.slots found in
    (top.top, of_first (λ c. slice_get c.slots 0 ≡ Some (slots.Value top.top)) p s row (record { instruction = fetched.local op n; end = end }) r (ap (λ (z : List Slot). slice_get z 0) top.are))

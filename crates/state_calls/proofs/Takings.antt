-- A call that was taken.
use Rattle.std.proofs.Common.{◌≡◌, ℕ, ◌+◌, ◌<◌, ◌≤◌, List, ◌∷◌, length, Some, All, sym, subst, arith}
use Rattle.std.specs.Prelude.{slice_get}
use Rattle.std.proofs.lemmas.Option.{slice_get_within}
use Rattle.vm_states.specs.mpy_base.World.{Heap}
use Rattle.frame_calls.specs.arena_heap.declared.value.Value.{Value}
use Rattle.frame_calls.specs.arena_objects.Keys.{AllTold}
use Rattle.vm_states.specs.bc_library.Constants.{items_at, text_at}
use Rattle.vm_states.specs.bc_library.Shelf.{Shelf}
use Rattle.vm_states.specs.bc_ops.declared.instr.Instr.TheVariants as instrs
use Rattle.bc_progress.specs.bc_flow.Action.{arguments}
use Rattle.frame_calls.specs.bc_machine.Library.{Name, Code, Library, Plain, code_at}
use Rattle.vm_states.specs.bc_progress.Plans.{Plan}
use Rattle.vm_states.specs.bc_rows.declared.row.Row.{Row}
use Rattle.frame_calls.specs.prim_calls.Callees.{IsKnownCallee}
use Rattle.vm_states.specs.vm_frames.declared.slot.Slot.{Slot}
use Rattle.vm_states.specs.vm_frames.declared.slot.Slot.TheVariants as slots
use Rattle.vm_states.specs.vm_frames.Calls.{Call, Calls, OfRunning}
use Rattle.vm_states.specs.vm_frames.Views.{View, slots_of, starts_of, frame_of}
use Rattle.vm_states.specs.frame_moves.Shown.{Tables, view_of}
use Rattle.vm_states.specs.Finds.{FindsNumber}
use Rattle.vm_states.specs.OnTop as machine
use Rattle.vm_states.specs.Tops as tops
use Rattle.vm_states.specs.vm_fetching.declared.operations.CallOp.{CallOp}
use Rattle.vm_states.specs.vm_fetching.declared.operations.CallOp.TheVariants as call_ops
use Rattle.vm_states.specs.vm_fetching.declared.instruction.Fetched.{Fetched}
use Rattle.vm_states.specs.vm_fetching.Instructions as fetched
use Rattle.vm_states.specs.vm_fetching.Operations.{call_op}
use Rattle.frame_calls.specs.declared.calling.Invocation.{Invocation}
use Rattle.frame_calls.specs.Invoking.{HasLooked, Invokes}
use Rattle.frame_calls.specs.Known.{IsKnownSlot, AreKnown}
use Rattle.frame_calls.specs.Layouts.{Layout, tables_of}
use Rattle.frame_calls.specs.Operands.{Given, running_slots, args_in, keys_in, operands_count}
use Rattle.vm_states.specs.Means.{Program, Means}
use Rattle.vm_states.specs.Ready.{IsReady}
use Rattle.vm_states.specs.Running.{FitCalls, IsRunning}
use Rattle.state_calls.specs.Runs.{RunsIn, RunsWithin}
use Rattle.state_calls.specs.Taken.{callee_slots, HasMethods, IsTaken}
use Rattle.state_calls.proofs.Arriving.{Within}
use Rattle.state_calls.proofs.Bases.{first_known}
use Rattle.state_calls.proofs.Looking.{callee_there, looked_there, of_first, first_of, slots_known}
use Rattle.state_calls.proofs.Places.{under}

-- the laws of what lies on top
pub record Laws : Type 0 where
  pub arguments_are : (view : View) (starts : List ℕ) (count : ℕ) (st : List Slot) → machine.Values count machine.OneValue (slots_of view starts st) → tops.Values count tops.OneValue st
  pub looked : (view : View) (starts : List ℕ) (count : ℕ) (st : List Slot) → machine.Values count machine.IsLooked (slots_of view starts st) → tops.Values count (tops.IsLooked view) st

-- of either operation, so of the one that calls
either : (P : CallOp → Type 0) → P call_ops.CallFunction → P call_ops.CallMethod → (op : CallOp) → P op
either P function method call_ops.CallFunction = function
either P function method call_ops.CallMethod = method

pub some_slots : (op : CallOp) → 0 < callee_slots op
some_slots op = either (λ o. 0 < callee_slots o) (omega arith) (omega arith) op

module _ (laws : Laws) (plan : Plan) (library : Library) (code : Code) (t : Tables) (c : Call) (number : ℕ) where
  -- the value that CALL_FUNCTION calls
  pub function_there : FindsNumber plan library code (frame_of (view_of t) c) (call_op call_ops.CallFunction) number → (v : Value) × (slice_get c.slots (operands_count number) ≡ Some (slots.Value v))
  function_there f = callee_there number c.slots (laws.arguments_are (view_of t) (starts_of (view_of t) c) (arguments number) c.slots f)

  -- what CALL_METHOD calls
  pub method_there : FindsNumber plan library code (frame_of (view_of t) c) (call_op call_ops.CallMethod) number → HasMethods c.slots → HasLooked (operands_count number) c.slots
  method_there f methods = looked_there t number c.slots methods (laws.looked (view_of t) (starts_of (view_of t) c) (arguments number) c.slots f)

  pub operands_there : (op : CallOp) → FindsNumber plan library code (frame_of (view_of t) c) (call_op op) number → HasMethods c.slots → operands_count number ≤ length c.slots
  operands_there op f methods =
      either (λ o. FindsNumber plan library code (frame_of (view_of t) c) (call_op o) number → operands_count number ≤ length c.slots)
      (λ g. let h = function_there g in let few = slice_get_within c.slots (operands_count number) (slots.Value h.0) h.1 in omega (arith, few))
      (λ g. let h = method_there g methods in let few = slice_get_within c.slots (operands_count number) h.upper h.upper_there in omega (arith, few))
      op f

-- the slots of the first call are within the room that its plan asks for
pub slots_within : Within → ((t : Tables) (c : Call) → length (frame_of (view_of t) c).slots ≡ length c.slots)
    → (room : ℕ) (p : Program) (means : Means p) (s : Calls) (row : Row) (fetched : Fetched) (run : IsRunning p s) (r : IsReady p s row fetched)
    → ((name : Name) (number : ℕ) (code : Code) → code_at p.library name number ≡ Some code → (p.plans name number).n_state ≤ room) → length r.first.slots ≤ room
slots_within within count room p means s row fetched run r roomy =
    let fits : FitCalls p (r.first ∷ r.others) = subst (FitCalls p) r.are run.fits in
    let stands = fits.0 in
    let w = within p.plans p.library (frame_of (view_of p.tables) r.first) means.follows stands in
    let most = w.slots in
    let n = count p.tables r.first in
    let le = roomy (p.tables.module_name r.first.module_number) r.first.code stands.code stands.code_is in
    omega (arith, most, n, le)

-- the operands were taken of this call
pub taken : (shelf : Shelf) (op : CallOp) (number : ℕ) (heap : Heap Value ℕ) (s : Calls) (old given : Given) (call : Invocation)
    → given ≡ record old { args = args_in number (running_slots s.calls); keys = keys_in number (running_slots s.calls) }
    → ((layout : Layout) → Invokes (tables_of (text_at shelf) (items_at shelf) layout) (Plain (instrs.Num (call_op op) number)) call.size heap s.calls (args_in number (running_slots s.calls)) (keys_in number (running_slots s.calls)) call.callee)
    → IsKnownCallee (text_at shelf) (items_at shelf) heap.objects call.callee → AreKnown (text_at shelf) (items_at shelf) heap.objects given → length given.args < 256
    → call.size ≡ operands_count number + callee_slots op → call.size ≤ length (running_slots s.calls) → IsTaken shelf op number heap s given call
taken shelf op number heap s old given call e invokes callee operands few size there = record {
  invokes = λ layout. subst (λ (z : Given). Invokes (tables_of (text_at shelf) (items_at shelf) layout) (Plain (instrs.Num (call_op op) number)) call.size heap s.calls z.args z.keys call.callee) (sym e) (invokes layout);
  callee = callee;
  operands = operands;
  few = few;
  size = size;
  there = there;
}

-- what calls find that run a program of a library within this room
module _ (laws : Laws) (within : Within) (count : (t : Tables) (c : Call) → length (frame_of (view_of t) c).slots ≡ length c.slots) (room : ℕ) (shelf : Shelf) (heap : Heap Value ℕ) (s : Calls) (op : CallOp) (number end : ℕ)
    (h : RunsWithin room shelf heap s (record { instruction = fetched.call op number; end = end })) where
  abbrev It : Call
  It = h.runs.ready.first

  abbrev Its : Plan
  Its = h.runs.program.plans (h.runs.program.tables.module_name It.module_number) It.code

  pub its_slots : (P : List Slot → Type 0) → P It.slots → P (running_slots s.calls)
  its_slots P q = of_first P s.calls It h.runs.ready.others h.runs.ready.are q

  pub slots_fit : length (running_slots s.calls) ≤ room
  slots_fit =
      its_slots (λ st. length st ≤ room)
      (slots_within within count room h.runs.program h.runs.means s h.runs.row (record { instruction = fetched.call op number; end = end }) h.runs.state.running h.runs.ready h.roomy)

  pub slots_are_known : All (IsKnownSlot (text_at shelf) (items_at shelf) heap.objects) (running_slots s.calls)
  slots_are_known =
      let p = h.runs.program in
      let k = first_known p heap.objects s It h.runs.ready.others h.runs.ready.are h.runs.state in
      under p h.runs.means shelf h.runs.shelf_is (λ t u. All (IsKnownSlot t u heap.objects) (running_slots s.calls))
      (its_slots (λ st. All (IsKnownSlot p.tables.texts p.tables.tuples heap.objects) st) (slots_known p.tables.texts p.tables.tuples heap.objects It.slots k.slots))

  module _ (methods : OfRunning (λ c. HasMethods c.slots) s.calls) where
    pub operands_fit : operands_count number ≤ length (running_slots s.calls)
    operands_fit =
        its_slots (λ st. operands_count number ≤ length st)
        (operands_there laws Its h.runs.program.library h.runs.ready.code h.runs.program.tables It number op h.runs.ready.finds (first_of (λ c. HasMethods c.slots) s.calls It h.runs.ready.others h.runs.ready.are methods))

    abbrev FindsAs : CallOp → Type 0
    FindsAs o = FindsNumber Its h.runs.program.library h.runs.ready.code (frame_of (view_of h.runs.program.tables) It) (call_op o) number

    pub its_function : op ≡ call_ops.CallFunction → (v : Value) × (slice_get (running_slots s.calls) (operands_count number) ≡ Some (slots.Value v))
    its_function e =
        its_slots (λ st. (v : Value) × (slice_get st (operands_count number) ≡ Some (slots.Value v)))
        (function_there laws Its h.runs.program.library h.runs.ready.code h.runs.program.tables It number (subst FindsAs e h.runs.ready.finds))

    pub its_method : op ≡ call_ops.CallMethod → HasLooked (operands_count number) (running_slots s.calls)
    its_method e =
        its_slots (λ st. HasLooked (operands_count number) st)
        (method_there laws Its h.runs.program.library h.runs.ready.code h.runs.program.tables It number (subst FindsAs e h.runs.ready.finds) (first_of (λ c. HasMethods c.slots) s.calls It h.runs.ready.others h.runs.ready.are methods))

pub told_there : (shelf : Shelf) (heap : Heap Value ℕ) (s : Calls) (f : Fetched) → RunsIn shelf heap s f → AllTold (text_at shelf) (items_at shelf) heap.objects
told_there shelf heap s f h = under h.program h.means shelf h.shelf_is (λ t u. AllTold t u heap.objects) h.state.all_told

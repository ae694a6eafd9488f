-- A step of the machine that is paid for a visit of the instruction.
use Rattle.std.proofs.Common.{◌≡◌, ℕ, suc, ◌<◌, List, [], ◌∷◌, map, drop, length, Option, Some, None, refl, ap, ◌∙◌, arith}
use Rattle.std.specs.Prelude.{slice_get, Bool}
use Rattle.std.proofs.lemmas.Bool.{lt-ltb}
use Rattle.mpy_base.specs.World.{Heap}
use Rattle.mpy_base.specs.Val.{Val, PlainWorld}
use Rattle.state_steps.specs.prim_faults.arena_heap.declared.value.Value.{Value}
use Rattle.state_steps.specs.vm_frames.py_effects.Effect.{Effect, Place}
use Rattle.state_steps.specs.vm_frames.py_effects.Calling as plain
use Rattle.state_steps.specs.vm_frames.py_effects.Calling.{Keys}
use Rattle.bc_library.specs.Shelf.{Shelf}
use Rattle.state_steps.specs.vm_frames.bc_machine.Library.{Library, Plain}
use Rattle.state_steps.specs.vm_frames.bc_machine.Operations.{TwoValued, operator_at}
use Rattle.state_steps.specs.vm_frames.bc_machine.State as states
use Rattle.state_steps.specs.vm_frames.bc_machine.State.{State, Running}
use Rattle.state_steps.specs.vm_frames.bc_machine.Step as step
use Rattle.state_steps.specs.vm_frames.bc_ops.declared.instr.Instr.TheVariants as instrs
use Rattle.vm_kept.specs.state_calls.bc_rows.declared.row.Row.{Row}
use Rattle.state_steps.specs.prim_faults.prim_walks.Plain.{plain_pair}
use Rattle.state_steps.specs.vm_frames.declared.slot.Slot.{Slot}
use Rattle.state_steps.specs.vm_frames.declared.slot.Slot.TheVariants as slots
use Rattle.state_steps.specs.vm_frames.Calls.{Call, Calls}
use Rattle.state_steps.specs.vm_frames.Views.{slots_of, starts_of, frame_of}
use Rattle.vm_kept.specs.state_calls.frame_moves.Shown.{Tables, value_of, view_of, running_of, step_of}
use Rattle.vm_kept.specs.state_calls.frame_moves.Outcomes.{world_of}
use Rattle.vm_kept.specs.state_calls.frame_values.Operations as operations
use Rattle.vm_at_once.specs.state_values.Operators.{value_in, visits_over, visits_binary}
use Rattle.vm_kept.specs.state_calls.prim_calls.Callees.{plain_callee}
use Rattle.vm_kept.specs.state_calls.vm_fetching.declared.instruction.Fetched.{Fetched}
use Rattle.vm_kept.specs.state_calls.vm_fetching.declared.instruction.Instruction.{Instruction}
use Rattle.vm_kept.specs.state_calls.vm_fetching.declared.instruction.Instruction.TheVariants as instructions
use Rattle.vm_kept.specs.state_calls.vm_fetching.Instructions as fetched
use Rattle.vm_kept.specs.state_calls.vm_fetching.declared.operations.CallOp.{CallOp}
use Rattle.vm_kept.specs.state_calls.vm_fetching.Operations.{call_op}
use Rattle.vm_kept.specs.state_calls.vm_fetching.Shows.{item_of_fetched}
use Rattle.vm_starting.specs.frame_calls.declared.calling.Invocation.{Invocation}
use Rattle.vm_starting.specs.frame_calls.Invoking.{visits_of, calling_of, Invokes}
use Rattle.vm_starting.specs.frame_calls.Layouts.{Layout, tables_of}
use Rattle.vm_starting.specs.frame_calls.Operands.{Given}
use Rattle.vm_starting.specs.vm_states.Means.{Program}
use Rattle.vm_starting.specs.vm_states.Ready.{IsReady}
use Rattle.vm_starting.specs.vm_states.Acting.{stepped}
use Rattle.vm_kept.specs.state_calls.Called.{visits}
use Rattle.vm_kept.specs.state_calls.Taken.{IsTaken}
use Rattle.vm_starting.specs.Programs.{IsProgramOf}
use Rattle.state_steps.specs.Values.{value_visits}
use Rattle.vm_machine.proofs.Machines.{in_program}

module _ (library : Library) (place : Place) (paid : ℕ) (frame : states.Frame) (frames : List states.Frame) (w : PlainWorld) where
  pub unpaid : {A : Type 0} (effect : Effect A) (next : A → PlainWorld → State) → paid < effect.visits → step.does library place paid frame frames w effect next ≡ Running (suc paid) frame frames w
  unpaid effect next less = ap (λ (b : Bool). step.paying library place paid frame frames w b effect next) (lt-ltb paid effect.visits less)

  -- a callee's visits
  pub callee_pays : (below : List states.Slot) (k : plain.Callee) (args : List Val) (keys : Keys) → paid < visits_of k args keys
      → step.run_callee library place paid frame frames w below k args keys ≡ Running (suc paid) frame frames w
  callee_pays below (plain.Acts act) args keys less = unpaid (act args keys) (λ v. step.next library place paid frame frames w (states.Value v ∷ below)) less
  callee_pays below (plain.Runs f) args keys less = absurd (omega (arith, less))

  -- an operator's visits
  two_pays : (op : Option TwoValued) (left right : Val) (st : List states.Slot) → paid < operations.visits_of op w.heap left right
      → step.two_step library place paid frame frames w (states.Value right ∷ states.Value left ∷ st) op ≡ Running (suc paid) frame frames w
  two_pays (Some op) left right st less = unpaid (step.on library place paid frame frames w (op w.heap left right)) (λ v. step.next library place paid frame frames w (states.Value v ∷ st)) less
  two_pays None left right st less = absurd (omega (arith, less))

module _ (t : Tables) (library : Library) (place : Place) (paid : ℕ) (heap : Heap Value ℕ) (w : PlainWorld) where
  abbrev W : PlainWorld
  W = world_of t w heap

  none_right : (number : ℕ) (left : Option Value) → visits_over t.texts t.tuples heap number left None ≡ 0
  none_right number (Some left) = refl
  none_right number None = refl

  slots_pay : (number : ℕ) (frame : states.Frame) (frames : List states.Frame) (starts : List ℕ) (st : List Slot)
      → paid < visits_over t.texts t.tuples heap number (value_in (slice_get st 1)) (value_in (slice_get st 0))
      → step.two_step library place paid frame frames W (slots_of (view_of t) starts st) (operator_at number) ≡ Running (suc paid) frame frames W
  slots_pay number frame frames starts [] less = absurd (omega (arith, less))
  slots_pay number frame frames starts (s ∷ []) less = absurd (omega (arith, less))
  slots_pay number frame frames starts (slots.Value right ∷ slots.Value left ∷ st) less =
      two_pays library place paid frame frames W (operator_at number) (value_of t left) (value_of t right) (slots_of (view_of t) starts st) less
  slots_pay number frame frames starts (slots.Value right ∷ l ∷ st) less = absurd (omega (arith, less))
  slots_pay number frame frames starts (r ∷ l ∷ st) less =
      let e : visits_over t.texts t.tuples heap number (value_in (slice_get (r ∷ l ∷ st) 1)) (value_in (slice_get (r ∷ l ∷ st) 0)) ≡ 0 = none_right number (value_in (slice_get (r ∷ l ∷ st) 1)) in
      absurd (omega (arith, less, e))

  binary_pays : (number : ℕ) (calls : List Call) → paid < visits_binary t.texts t.tuples heap calls number
      → step_of t library place paid calls W (Plain (instrs.Binary number)) ≡ running_of t (suc paid) calls W
  binary_pays number [] less = absurd (omega (arith, less))
  binary_pays number (c ∷ cs) less = slots_pay number (frame_of (view_of t) c) (map (frame_of (view_of t)) cs) (starts_of (view_of t) c) c.slots less

  -- those of an instruction that is no call
  value_pays : (starts : List ℕ) (i : Instruction) (calls : List Call) → paid < value_visits t.texts t.tuples heap calls i
      → step_of t library place paid calls W (item_of_fetched t starts i) ≡ running_of t (suc paid) calls W
  value_pays starts (instructions.Binary number) calls less = binary_pays number calls less
  value_pays starts i calls less = absurd (omega (arith, less))

pub instruction_pays : (p : Program) (row : Row) (s : Calls) (f : Fetched) (r : IsReady p s row f) (heap : Heap Value ℕ) (paid : ℕ) (w : PlainWorld)
    → paid < value_visits p.tables.texts p.tables.tuples heap s.calls f.instruction → stepped p paid s w heap ≡ running_of p.tables (suc paid) s.calls (world_of p.tables w heap)
instruction_pays p row s f r heap paid w less =
    r.steps paid (world_of p.tables w heap)
    ∙ value_pays p.tables p.library r.place paid heap w (starts_of (view_of p.tables) r.first) f.instruction s.calls less

called_pays : (t : Tables) (library : Library) (place : Place) (paid : ℕ) (heap : Heap Value ℕ) (w : PlainWorld) (size : ℕ) (k : plain.Callee) (args : List Value) (keys : List (Value × Value)) (calls : List Call)
    → 0 < length calls → paid < visits_of k (map (value_of t) args) (map (plain_pair t.texts t.tuples) keys)
    → calling_of t library place paid size calls (world_of t w heap) k args keys ≡ running_of t (suc paid) calls (world_of t w heap)
called_pays t library place paid heap w size k args keys [] some less = absurd (omega (arith, some))
called_pays t library place paid heap w size k args keys (c ∷ cs) some less =
    callee_pays library place paid (frame_of (view_of t) c) (map (frame_of (view_of t)) cs) (world_of t w heap) (slots_of (view_of t) (starts_of (view_of t) c) (drop size c.slots)) k (map (value_of t) args) (map (plain_pair t.texts t.tuples) keys) less

some_calls : (calls : List Call) (c : Call) (cs : List Call) → calls ≡ c ∷ cs → 0 < length calls
some_calls calls c cs e = let n = ap length e in omega (arith, n)

pub call_pays : (shelf : Shelf) (p : Program) → IsProgramOf shelf p → (row : Row) (s : Calls) (op : CallOp) (number end : ℕ) (r : IsReady p s row (record { instruction = fetched.call op number; end = end }))
    (heap : Heap Value ℕ) (given : Given) (call : Invocation) → IsTaken shelf op number heap s given call → (paid : ℕ) (w : PlainWorld)
    → paid < visits p call.callee given heap w → stepped p paid s w heap ≡ running_of p.tables (suc paid) s.calls (world_of p.tables w heap)
call_pays shelf p of row s op number end r heap given call taken paid w less =
    let layout : Layout = record { module_name = p.tables.module_name; starts = p.tables.starts } in
    let invokes : Invokes p.tables (Plain (instrs.Num (call_op op) number)) call.size heap s.calls given.args given.keys call.callee =
    in_program shelf p of (λ t u. Invokes (tables_of t u layout) (Plain (instrs.Num (call_op op) number)) call.size heap s.calls given.args given.keys call.callee) (taken.invokes layout) in
    r.steps paid (world_of p.tables w heap)
    ∙ (invokes.calls_it p.library r.place paid w
    ∙ called_pays p.tables p.library r.place paid heap w call.size (plain_callee p.tables.texts p.tables.tuples (world_of p.tables w heap) call.callee) given.args given.keys s.calls (some_calls s.calls r.first r.others r.are) less)

-- What the running instruction is paid for.
use Rattle.std.proofs.Common.{◌≡◌, ℕ, suc, ◌<◌, ◌≤◌, List, [], ◌∷◌, map, drop, length, Option, Some, None, refl, sym, ap, subst, ◌∙◌, arith, slice_get}
use Rattle.std.specs.Prelude.{min}
use Rattle.mpy_base.specs.World.{Heap}
use Rattle.mpy_base.specs.Val.{Val, PlainWorld}
use Rattle.state_steps.specs.prim_faults.arena_heap.declared.value.Value.{Value}
use Rattle.state_steps.specs.vm_frames.py_effects.Effect.{Place}
use Rattle.state_steps.specs.vm_frames.py_effects.Calling as plain
use Rattle.bc_library.specs.Constants.{items_at, text_at}
use Rattle.bc_library.specs.Shelf.{Shelf}
use Rattle.state_steps.specs.vm_frames.bc_machine.Library.{Library, Plain}
use Rattle.state_steps.specs.vm_frames.bc_machine.Operations.{TwoValued, operator_at}
use Rattle.state_steps.specs.vm_frames.bc_machine.State as states
use Rattle.state_steps.specs.vm_frames.bc_machine.State.{State}
use Rattle.state_steps.specs.vm_frames.bc_machine.Step.{step}
use Rattle.state_steps.specs.vm_frames.bc_ops.declared.instr.Instr.TheVariants as instrs
use Rattle.vm_kept.specs.state_calls.bc_rows.declared.row.Row.{Row}
use Rattle.state_steps.specs.prim_faults.prim_walks.Plain.{plain_pair}
use Rattle.state_steps.specs.vm_frames.declared.slot.Slot.{Slot}
use Rattle.state_steps.specs.vm_frames.declared.slot.Slot.TheVariants as slots
use Rattle.state_steps.specs.vm_frames.Calls.{Call, Calls}
use Rattle.state_steps.specs.vm_frames.Views.{slots_of, starts_of, frame_of}
use Rattle.vm_kept.specs.state_calls.frame_moves.Shown.{Tables, value_of, view_of, running_of, step_of}
use Rattle.vm_kept.specs.state_calls.frame_moves.Outcomes.{world_of}
use Rattle.vm_kept.specs.state_calls.frame_exits.Ends.{with_modules}
use Rattle.vm_kept.specs.state_calls.frame_values.Operations as operations
use Rattle.vm_at_once.specs.state_values.Operators.{value_in, visits_over}
use Rattle.vm_kept.specs.state_calls.prim_calls.Callees.{plain_callee}
use Rattle.vm_kept.specs.state_calls.vm_fetching.declared.instruction.Fetched.{Fetched}
use Rattle.vm_kept.specs.state_calls.vm_fetching.declared.instruction.Instruction.{Instruction}
use Rattle.vm_kept.specs.state_calls.vm_fetching.declared.instruction.Instruction.TheVariants as instructions
use Rattle.vm_kept.specs.state_calls.vm_fetching.declared.instruction.Action.{Action}
use Rattle.vm_kept.specs.state_calls.vm_fetching.declared.instruction.Action.TheVariants as actions
use Rattle.vm_kept.specs.state_calls.vm_fetching.declared.instruction.Step.TheVariants as steps
use Rattle.vm_kept.specs.state_calls.vm_fetching.declared.operations.LocalOp.{LocalOp}
use Rattle.vm_kept.specs.state_calls.vm_fetching.declared.operations.LocalOp.TheVariants as local_ops
use Rattle.vm_kept.specs.state_calls.vm_fetching.declared.operations.BuildOp.{BuildOp}
use Rattle.vm_kept.specs.state_calls.vm_fetching.declared.operations.BuildOp.TheVariants as build_ops
use Rattle.vm_kept.specs.state_calls.vm_fetching.declared.operations.MakeOp.{MakeOp}
use Rattle.vm_kept.specs.state_calls.vm_fetching.declared.operations.MakeOp.TheVariants as make_ops
use Rattle.vm_kept.specs.state_calls.vm_fetching.declared.operations.CallOp.{CallOp}
use Rattle.vm_kept.specs.state_calls.vm_fetching.Instructions as fetched
use Rattle.vm_kept.specs.state_calls.vm_fetching.Operations.{local_op, build_op, make_op, call_op}
use Rattle.vm_kept.specs.state_calls.vm_fetching.Shows.{item_of_action, item_of_fetched}
use Rattle.vm_starting.specs.frame_calls.declared.calling.Invocation.{Invocation}
use Rattle.vm_starting.specs.frame_calls.Invoking.{visits_of, calling_of, Invokes}
use Rattle.vm_starting.specs.frame_calls.Layouts.{Layout, tables_of}
use Rattle.vm_starting.specs.frame_calls.Operands.{Given}
use Rattle.vm_starting.specs.vm_states.Means.{Program}
use Rattle.vm_starting.specs.vm_states.Ready.{IsReady}
use Rattle.vm_starting.specs.vm_states.Acting.{stepped}
use Rattle.vm_kept.specs.state_calls.Called.{visits}
use Rattle.vm_kept.specs.state_calls.Taken.{IsTaken}
use Rattle.vm_starting.specs.Programs.{IsProgramOf}
use Rattle.state_steps.specs.Values.{value_visits}
use Rattle.vm_starting.specs.declared.opening.Vm.{Vm}
use Rattle.vm_machine.specs.Acting.{HasFetched}
use Rattle.vm_machine.specs.Due.{IsDue, paying_in}
use Rattle.vm_machine.specs.Machine.{world_in}
use Rattle.vm_machine.proofs.Machines.{in_program}
use Rattle.vm_machine.proofs.Pays.{instruction_pays, call_pays}
use Rattle.vm_machine.proofs.Begun.{IsBegun, NoCall, visits_two, IsPaidFor, item_begun, callee_begun}

-- the step behind the visits
-- ==========================

-- the instruction is no call
abbrev pub CallsNothing : Instruction → Type 0
CallsNothing (instructions.Calls op n) = ⊥
CallsNothing _ = Unit {0}

no_local_call : (op : LocalOp) → NoCall (local_op op)
no_local_call local_ops.LoadFast = tt
no_local_call local_ops.LoadFastN = tt
no_local_call local_ops.StoreFast = tt
no_local_call local_ops.StoreFastN = tt
no_local_call local_ops.DeleteFast = tt

no_build_call : (op : BuildOp) → NoCall (build_op op)
no_build_call build_ops.BuildTuple = tt
no_build_call build_ops.BuildList = tt
no_build_call build_ops.BuildMap = tt
no_build_call build_ops.UnpackSequence = tt

no_make_call : (op : MakeOp) → NoCall (make_op op)
no_make_call make_ops.MakeFunction = tt
no_make_call make_ops.MakeFunctionDefargs = tt

same_visits : (w : PlainWorld) (o : Option TwoValued) (left right : Val) (st : List states.Slot) → visits_two w (states.Value right ∷ states.Value left ∷ st) o ≡ operations.visits_of o w.heap left right
same_visits w (Some op) left right st = refl
same_visits w None left right st = refl

module _ (t : Tables) (library : Library) (place : Place) (paid : ℕ) (heap : Heap Value ℕ) (w : PlainWorld) where
  abbrev W : PlainWorld
  W = world_of t w heap

  slots_paid : (number : ℕ) (starts : List ℕ) (st : List Slot) → visits_over t.texts t.tuples heap number (value_in (slice_get st 1)) (value_in (slice_get st 0)) ≤ paid
      → visits_two W (slots_of (view_of t) starts st) (operator_at number) ≤ paid
  slots_paid number starts [] enough = omega arith
  slots_paid number starts (slots.Value right ∷ []) enough = omega arith
  slots_paid number starts (slots.Value right ∷ slots.Value left ∷ st) enough =
      subst (λ (n : ℕ). n ≤ paid) (sym (same_visits W (operator_at number) (value_of t left) (value_of t right) (slots_of (view_of t) starts st))) enough
  slots_paid number starts (slots.Value right ∷ l ∷ st) enough = omega arith
  slots_paid number starts (r ∷ st) enough = omega arith

  action_paid : (starts : List ℕ) (c : Call) (cs : List Call) (a : Action) → IsPaidFor library place paid (frame_of (view_of t) c) (map (frame_of (view_of t)) cs) W (item_of_action t starts a)
  action_paid starts c cs (actions.Stays (steps.Local op n)) = no_local_call op
  action_paid starts c cs (actions.Stays (steps.Build op n)) = no_build_call op
  action_paid starts c cs (actions.Stays step) = tt
  action_paid starts c cs (actions.Makes op n) = no_make_call op
  action_paid starts c cs a = tt

  paid_for : (starts : List ℕ) (c : Call) (cs : List Call) (i : Instruction) → CallsNothing i → value_visits t.texts t.tuples heap (c ∷ cs) i ≤ paid
      → IsPaidFor library place paid (frame_of (view_of t) c) (map (frame_of (view_of t)) cs) W (item_of_fetched t starts i)
  paid_for starts c cs (instructions.Acts a) never enough = action_paid starts c cs a
  paid_for starts c cs (instructions.Binary number) never enough = slots_paid number (starts_of (view_of t) c) c.slots enough
  paid_for starts c cs (instructions.Calls op n) never enough = absurd never

  value_begun : (starts : List ℕ) (i : Instruction) (calls : List Call) → CallsNothing i → value_visits t.texts t.tuples heap calls i ≤ paid
      → IsBegun (step_of t library place paid calls W (item_of_fetched t starts i))
  value_begun starts i [] never enough = tt
  value_begun starts i (c ∷ cs) never enough =
      item_begun library place paid (frame_of (view_of t) c) (map (frame_of (view_of t)) cs) W (item_of_fetched t starts i) (paid_for starts c cs i never enough)

  calling_begun : (size : ℕ) (k : plain.Callee) (args : List Value) (keys : List (Value × Value)) (calls : List Call) → visits_of k (map (value_of t) args) (map (plain_pair t.texts t.tuples) keys) ≤ paid
      → IsBegun (calling_of t library place paid size calls W k args keys)
  calling_begun size k args keys [] enough = tt
  calling_begun size k args keys (c ∷ cs) enough =
      callee_begun library place paid (frame_of (view_of t) c) (map (frame_of (view_of t)) cs) W (slots_of (view_of t) (starts_of (view_of t) c) (drop size c.slots)) k (map (value_of t) args)
      (map (plain_pair t.texts t.tuples) keys) enough

instruction_begun : (p : Program) (row : Row) (s : Calls) (f : Fetched) (r : IsReady p s row f) (heap : Heap Value ℕ) (paid : ℕ) (w : PlainWorld) → CallsNothing f.instruction
    → value_visits p.tables.texts p.tables.tuples heap s.calls f.instruction ≤ paid → IsBegun (stepped p paid s w heap)
instruction_begun p row s f r heap paid w never enough =
    subst IsBegun (sym (r.steps paid (world_of p.tables w heap)))
    (value_begun p.tables p.library r.place paid heap w (starts_of (view_of p.tables) r.first) f.instruction s.calls never enough)

call_begun : (shelf : Shelf) (p : Program) → IsProgramOf shelf p → (row : Row) (s : Calls) (op : CallOp) (number end : ℕ) (r : IsReady p s row (record { instruction = fetched.call op number; end = end }))
    (heap : Heap Value ℕ) (given : Given) (call : Invocation) → IsTaken shelf op number heap s given call → (paid : ℕ) (w : PlainWorld) → visits p call.callee given heap w ≤ paid → IsBegun (stepped p paid s w heap)
call_begun shelf p of row s op number end r heap given call taken paid w enough =
    let layout : Layout = record { module_name = p.tables.module_name; starts = p.tables.starts } in
    let invokes : Invokes p.tables (Plain (instrs.Num (call_op op) number)) call.size heap s.calls given.args given.keys call.callee =
    in_program shelf p of (λ t u. Invokes (tables_of t u layout) (Plain (instrs.Num (call_op op) number)) call.size heap s.calls given.args given.keys call.callee) (taken.invokes layout) in
    subst IsBegun (sym (r.steps paid (world_of p.tables w heap) ∙ invokes.calls_it p.library r.place paid w))
    (calling_begun p.tables p.library r.place paid heap w call.size (plain_callee p.tables.texts p.tables.tuples (world_of p.tables w heap) call.callee) given.args given.keys s.calls enough)

-- a state on whose instruction nothing is paid isn't one on whose instruction something is
not_paid : (t : Tables) (calls : List Call) (first : Call) (others : List Call) (paid : ℕ) (w : PlainWorld) (s : State) → calls ≡ first ∷ others → IsBegun s → s ≡ running_of t (suc paid) calls w → ⊥
not_paid t calls first others paid w s are begun e =
    let none : suc paid ≡ 0 = subst IsBegun (e ∙ ap (λ (cs : List Call). running_of t (suc paid) cs w) are) begun in
    omega (arith, none)

-- what is due
-- ===========

module _ (shelf : Shelf) (vm : Vm) (row : Row) where
  -- of an instruction that is no call
  pub instruction_due : (f : Fetched) (h : HasFetched shelf vm row f) → CallsNothing f.instruction → (most due : ℕ) → due ≡ min (value_visits (text_at shelf) (items_at shelf) vm.arena vm.frames.calls f.instruction) most
      → (p : Program) → IsProgramOf shelf p → IsDue p vm most due
  instruction_due f h never most due least p of =
      let r = h.ready p of in
      let is : due ≡ min (value_visits p.tables.texts p.tables.tuples vm.arena vm.frames.calls f.instruction) most =
      in_program shelf p of (λ t u. due ≡ min (value_visits t u vm.arena vm.frames.calls f.instruction) most) least in
      record {
        few = omega (arith, is);
        pays = λ w paid less. instruction_pays p row vm.frames f r vm.arena paid (with_modules p.tables w vm.modules) (omega (arith, is, less));
        acts = λ w lt.
            not_paid p.tables vm.frames.calls r.first r.others due (world_in p vm w) (step p.library (paying_in p vm due w)) r.are
            (instruction_begun p row vm.frames f r vm.arena due (with_modules p.tables w vm.modules) never (omega (arith, is, lt)));
      }

  -- of a call
  pub call_due : (op : CallOp) (number end : ℕ) → HasFetched shelf vm row (record { instruction = fetched.call op number; end = end }) → (given : Given) (call : Invocation) → IsTaken shelf op number vm.arena vm.frames given call
      → (most due : ℕ) → ((p : Program) (w : PlainWorld) → IsProgramOf shelf p → due ≡ min (visits p call.callee given vm.arena (with_modules p.tables w vm.modules)) most)
      → (p : Program) → IsProgramOf shelf p → (some : PlainWorld) → IsDue p vm most due
  call_due op number end h given call taken most due least p of some =
      let r = h.ready p of in
      record {
        few = (let is = least p some of in omega (arith, is));
        pays = λ w paid less. (let is = least p w of in
            call_pays shelf p of row vm.frames op number end r vm.arena given call taken paid (with_modules p.tables w vm.modules) (omega (arith, is, less)));
        acts = λ w lt. (let is = least p w of in
            not_paid p.tables vm.frames.calls r.first r.others due (world_in p vm w) (step p.library (paying_in p vm due w)) r.are
            (call_begun shelf p of row vm.frames op number end r vm.arena given call taken due (with_modules p.tables w vm.modules) (omega (arith, is, lt))));
      }

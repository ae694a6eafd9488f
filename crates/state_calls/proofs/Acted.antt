-- Calls of methods, of built-ins, and of what isn't callable.
use Rattle.std.proofs.Common.{◌≡◌, ℕ, ◌<◌, ◌≤◌, List, [], ◌∷◌, length, map, Option, Some, Result, Ok, Err, inr, refl, sym, ap, subst, ◌∙◌, arith}
use Rattle.vm_states.specs.mpy_base.declared.builtin.Builtin.{Builtin}
use Rattle.vm_states.specs.mpy_base.World.{Heap}
use Rattle.vm_states.specs.mpy_base.Val.{PlainWorld}
use Rattle.port_set.specs.Calls.{Tell}
use Rattle.frame_calls.specs.arena_heap.declared.value.Value.{Value}
use Rattle.bc_progress.specs.py_effects.py_primitives.Methods.{call_method}
use Rattle.bc_progress.specs.py_effects.Effect.{Place}
use Rattle.bc_progress.specs.py_effects.Ends.{new_world}
use Rattle.vm_states.specs.bc_library.Constants.{items_at, text_at}
use Rattle.vm_states.specs.bc_library.Shelf.{Shelf}
use Rattle.vm_states.specs.bc_ops.declared.instr.Instr.TheVariants as instrs
use Rattle.frame_calls.specs.bc_machine.Library.{Item, Library, Plain}
use Rattle.vm_states.specs.bc_rows.declared.row.Row.{Row}
use Rattle.frame_calls.specs.prim_walks.Plain.{plain, plain_heap, plain_pair}
use Rattle.frame_calls.specs.prim_faults.declared.types.ValueType.{ValueType}
use Rattle.frame_calls.specs.prim_faults.declared.stop.Stop.{Stop}
use Rattle.frame_calls.specs.prim_calls.Calls.{Seen}
use Rattle.frame_calls.specs.prim_calls.Families.{IsOfPorts}
use Rattle.frame_calls.specs.prim_calls.declared.callees.Callee.{Callee}
use Rattle.frame_calls.specs.prim_calls.declared.callees.Callee.TheVariants as callees
use Rattle.frame_calls.specs.prim_calls.declared.calls.CallStop.{CallStop}
use Rattle.vm_states.specs.vm_frames.Calls.{Call, Calls, OfRunning}
use Rattle.vm_states.specs.frame_moves.Shown.{Tables, IsNext}
use Rattle.vm_states.specs.frame_moves.Outcomes.{world_of, outcome_of, Does}
use Rattle.vm_states.specs.vm_fetching.declared.operations.CallOp.{CallOp}
use Rattle.vm_states.specs.vm_fetching.declared.instruction.Fetched.{Fetched}
use Rattle.vm_states.specs.vm_fetching.Instructions as fetched
use Rattle.vm_states.specs.vm_fetching.Operations.{call_op}
use Rattle.frame_calls.specs.declared.calling.Invocation.{Invocation}
use Rattle.frame_calls.specs.Built.{ActsBuilt, IsCalled}
use Rattle.frame_calls.specs.Invoking.{Invokes}
use Rattle.frame_calls.specs.Layouts.{Layout, tables_of}
use Rattle.frame_calls.specs.Operands.{Given, running_slots}
use Rattle.frame_calls.specs.Putting.{Puts}
use Rattle.vm_states.specs.Means.{Program, Means}
use Rattle.vm_states.specs.Ready.{IsReady}
use Rattle.vm_states.specs.State.{IsState}
use Rattle.state_calls.specs.Called.{of_stop, visits, Comes, CallComes, HeapComes}
use Rattle.state_calls.specs.Runs.{IsFetchedAt}
use Rattle.state_calls.specs.Taken.{IsTaken}
use Rattle.state_calls.proofs.Comings.{with_tables, by_does, built}
use Rattle.state_calls.proofs.Fitting.{value_runs}
use Rattle.state_calls.proofs.Functions.{invokes_in}
use Rattle.state_calls.proofs.Heaps.{heap_built, decided}
use Rattle.state_calls.proofs.Looking.{first_of}
use Rattle.state_calls.proofs.Places as places
use Rattle.state_calls.proofs.Puttings as puttings

pub some_calls : (calls : List Call) (n : ℕ) → 0 < n → n ≤ length (running_slots calls) → 0 < length calls
some_calls [] n some there = absurd (omega (arith, some, there))
some_calls (c ∷ cs) n some there = omega arith

module _ (p : Program) (row : Row) (means : Means p) (shelf : Shelf) (shelf_is : p.shelf ≡ shelf) (op : CallOp) (number end : ℕ) (before behind : Heap Value ℕ) (s new : Calls)
    (state : IsState p before.objects s) (r : IsReady p s row (record { instruction = fetched.call op number; end = end })) (given : Given) (call : Invocation) (taken : IsTaken shelf op number before s given call) where
  abbrev It : Item
  It = Plain (instrs.Num (call_op op) number)

  abbrev Read : Fetched
  Read = record { instruction = fetched.call op number; end = end }

  -- a method
  module _ (object : Value) (method : Builtin) (is : call.callee ≡ callees.Method object method) (result : Result (Unit {0}) Stop) where
    abbrev VisitsIn : Tables → ℕ
    VisitsIn t = (call_method (plain_heap t.texts t.tuples before) method (plain t.texts t.tuples object) (map (plain t.texts t.tuples) given.args) (map (plain_pair t.texts t.tuples) given.keys)).visits

    pub method_does : ((layout : Layout) (item : Item) → Invokes (tables_of (text_at shelf) (items_at shelf) layout) item call.size before s.calls given.args given.keys (callees.Method object method)
        → IsNext (tables_of (text_at shelf) (items_at shelf) layout) end s.calls
        → Does (tables_of (text_at shelf) (items_at shelf) layout) item (VisitsIn (tables_of (text_at shelf) (items_at shelf) layout)) before behind s.calls new.calls result)
        → Does p.tables It (VisitsIn p.tables) before behind s.calls new.calls result
    method_does steps =
        with_tables p means shelf shelf_is
        (λ (t : Tables). Invokes t It call.size before s.calls given.args given.keys (callees.Method object method) → IsNext t end s.calls → Does t It (VisitsIn t) before behind s.calls new.calls result)
        (λ layout. steps layout It) (invokes_in p means shelf shelf_is op number before s given call taken (callees.Method object method) is) r.next

    pub method_comes : Does p.tables It (VisitsIn p.tables) before behind s.calls new.calls result → (w : PlainWorld)
        → Comes p (callees.Method object method) given before w s (outcome_of p.tables r.place w behind s.calls new.calls result)
    method_comes does w = by_does p row s Read r (callees.Method object method) given before w behind new result does

    pub method_again : puttings.Laws → puttings.Put (text_at shelf) (items_at shelf) before behind end call.size s new result → Does p.tables It (VisitsIn p.tables) before behind s.calls new.calls result → IsState p behind.objects new
    method_again laws put does =
        let none : PlainWorld = new_world 0 0 [] in
        puttings.put_state laws p row means before behind s new Read state r call.size result (places.over p means shelf shelf_is (λ t u. puttings.Put t u before behind end call.size s new result) put)
        (λ v ok moved. puttings.step_runs laws p row means before behind s new Read state r tt call.size (VisitsIn p.tables) (world_of p.tables none before) (world_of p.tables none behind) v
        (does.steps p.library r.place (VisitsIn p.tables) none (omega arith) ∙ ap (outcome_of p.tables r.place none behind s.calls new.calls) ok) moved)

  -- a value that isn't callable
  pub refused_comes : (value_type : ValueType) (is : call.callee ≡ callees.NotCallable value_type) (stop : Stop) → 0 < length s.calls
      → (Invokes p.tables It call.size before s.calls given.args given.keys (callees.NotCallable value_type) → Does p.tables It 0 before before s.calls s.calls (Err stop)) → (w : PlainWorld)
      → Comes p (callees.NotCallable value_type) given before w s (outcome_of p.tables r.place w before s.calls s.calls (Err stop))
  refused_comes value_type is stop some steps w =
      by_does p row s Read r (callees.NotCallable value_type) given before w before s (Err stop) (steps (invokes_in p means shelf shelf_is op number before s given call taken (callees.NotCallable value_type) is))

  -- a built-in gives a value, or stops
  pub built_again : (rows : places.Laws) → puttings.Laws → OfRunning (IsFetchedAt shelf Read) s.calls → (result : Result (Unit {0}) CallStop)
      → puttings.Put (text_at shelf) (items_at shelf) before behind end call.size s new result → IsState p behind.objects new
  built_again rows laws read result put =
      let own : IsFetchedAt p.shelf Read r.first = subst (λ (z : Shelf). IsFetchedAt z Read r.first) (sym shelf_is) (first_of (IsFetchedAt shelf Read) s.calls r.first r.others r.are read) in
      puttings.put_state laws p row means before behind s new Read state r call.size result (places.over p means shelf shelf_is (λ t u. puttings.Put t u before behind end call.size s new result) put)
      (λ v ok moved. value_runs p means s r.first r.others r.are state.running rows op number end own call.size taken.size (first_of _ s.calls r.first r.others r.are r.next) v new moved (r.begins tt))

-- a call that puts nothing and calls no port
pub quiet_heap : (p : Program) (place : Place) (next size : ℕ) (callee : Callee) (given : Given) (before behind : Heap Value ℕ) (s new : Calls) (result : Result (Unit {0}) Stop)
    → ((w : PlainWorld) → Comes p callee given before w s (outcome_of p.tables place w behind s.calls new.calls result)) → HeapComes p place next size before behind s new (of_stop result)
quiet_heap p place next size callee given before behind s new (Ok done) comes =
    inr (λ w. record { paid = visits p callee given before w; after = w; modules = refl; steps = (comes w).steps (visits p callee given before w) (omega arith) })
quiet_heap p place next size callee given before behind s new (Err stop) comes =
    inr (λ w. record { paid = visits p callee given before w; after = w; modules = refl; steps = (comes w).steps (visits p callee given before w) (omega arith) })

-- and comes to that, with the output and the ports
pub built_comes : {S : Type 0} (told : S → Option (List ℕ)) (count : S → ℕ) (p : Program) (row : Row) (means : Means p) (shelf : Shelf) (shelf_is : p.shelf ≡ shelf) (op : CallOp) (number end : ℕ) (before behind : Seen S) (s new : Calls)
    (r : IsReady p s row (record { instruction = fetched.call op number; end = end })) (given : Given) (call : Invocation) (taken : IsTaken shelf op number before.heap s given call)
    (b : Builtin) (is : call.callee ≡ callees.Built b) (result : Result (Unit {0}) CallStop)
    → ((layout : Layout) (library : Library) (item : Item) (w : PlainWorld) → Invokes (tables_of (text_at shelf) (items_at shelf) layout) item call.size before.heap s.calls given.args given.keys (callees.Built b)
    → IsNext (tables_of (text_at shelf) (items_at shelf) layout) end s.calls → (IsOfPorts b → Tell before.ports w.ports)
    → ActsBuilt told count (tables_of (text_at shelf) (items_at shelf) layout) library item call.size end b given.args given.keys before behind s.calls new.calls w result)
    → IsCalled told count (text_at shelf) (items_at shelf) before behind given.args given.keys b result
    → (w : PlainWorld) → told before.out ≡ Some w.output → Tell before.ports w.ports → CallComes told count p r.place (callees.Built b) given before behind s new w result
built_comes told count p row means shelf shelf_is op number end before behind s new r given call taken b is result acts is_called w told_is tell =
    let item : Item = Plain (instrs.Num (call_op op) number) in
    built told count p row s new (record { instruction = fetched.call op number; end = end }) r given before behind b call.size w told_is tell result
    (with_tables p means shelf shelf_is
    (λ (t : Tables). Invokes t item call.size before.heap s.calls given.args given.keys (callees.Built b) → IsNext t end s.calls → ActsBuilt told count t p.library item call.size end b given.args given.keys before behind s.calls new.calls w result)
    (λ layout i n. acts layout p.library item w i n (λ of_ports. tell)) (invokes_in p means shelf shelf_is op number before.heap s given call taken (callees.Built b) is) r.next)
    (decided told count p row s new (record { instruction = fetched.call op number; end = end }) r given before behind b call.size shelf w tell result
    (places.over p means shelf shelf_is (λ t u. IsCalled told count t u before behind given.args given.keys b result) is_called))

-- and so does the heap, whatever these tell
pub built_heap : {S : Type 0} (told : S → Option (List ℕ)) (count : S → ℕ) (p : Program) (row : Row) (means : Means p) (shelf : Shelf) (shelf_is : p.shelf ≡ shelf) (op : CallOp) (number end : ℕ) (before behind : Seen S) (s new : Calls)
    (r : IsReady p s row (record { instruction = fetched.call op number; end = end })) (given : Given) (call : Invocation) (taken : IsTaken shelf op number before.heap s given call)
    (b : Builtin) (is : call.callee ≡ callees.Built b) (result : Result (Unit {0}) CallStop)
    → ((layout : Layout) (library : Library) (item : Item) (w : PlainWorld) → Invokes (tables_of (text_at shelf) (items_at shelf) layout) item call.size before.heap s.calls given.args given.keys (callees.Built b)
    → IsNext (tables_of (text_at shelf) (items_at shelf) layout) end s.calls → (IsOfPorts b → Tell before.ports w.ports)
    → ActsBuilt told count (tables_of (text_at shelf) (items_at shelf) layout) library item call.size end b given.args given.keys before behind s.calls new.calls w result)
    → IsCalled told count (text_at shelf) (items_at shelf) before behind given.args given.keys b result → Puts (text_at shelf) (items_at shelf) behind.heap.objects end call.size s new result
    → HeapComes p r.place end call.size before.heap behind.heap s new result
built_heap told count p row means shelf shelf_is op number end before behind s new r given call taken b is result acts is_called moved =
    let item : Item = Plain (instrs.Num (call_op op) number) in
    heap_built told count p row s new (record { instruction = fetched.call op number; end = end }) r given before behind b call.size shelf result
    (λ w tell.
    with_tables p means shelf shelf_is
    (λ (t : Tables). Invokes t item call.size before.heap s.calls given.args given.keys (callees.Built b) → IsNext t end s.calls → ActsBuilt told count t p.library item call.size end b given.args given.keys before behind s.calls new.calls w result)
    (λ layout i n. acts layout p.library item w i n tell) (invokes_in p means shelf shelf_is op number before.heap s given call taken (callees.Built b) is) r.next)
    (places.over p means shelf shelf_is (λ t u. IsCalled told count t u before behind given.args given.keys b result) is_called) moved

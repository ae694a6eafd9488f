-- Calls of functions of the program.
use Rattle.std.proofs.Common.{◌≡◌, ℕ, ◌≤◌, [], length, Some, None, Result, Ok, sym, subst, arith}
use Rattle.std.specs.Prelude.{IsOk}
use Rattle.vm_states.specs.mpy_base.World.{Heap}
use Rattle.vm_states.specs.mpy_base.Val.{PlainWorld}
use Rattle.frame_calls.specs.arena_heap.declared.value.Value.{Value}
use Rattle.frame_calls.specs.arena_heap.declared.value.Value.TheVariants as values
use Rattle.bc_progress.specs.py_effects.Ends.{new_world}
use Rattle.vm_states.specs.bc_library.Constants.{items_at, text_at}
use Rattle.vm_states.specs.bc_library.Shelf.{Shelf}
use Rattle.vm_states.specs.bc_ops.declared.instr.Instr.TheVariants as instrs
use Rattle.frame_calls.specs.bc_machine.Library.{Name, Library, Item, Plain, code_at}
use Rattle.vm_states.specs.bc_rows.declared.row.Row.{Row}
use Rattle.vm_states.specs.bc_rows.Rows.{IsRow}
use Rattle.frame_calls.specs.prim_walks.Plain.{plain_name}
use Rattle.frame_calls.specs.prim_faults.declared.stop.Stop.{Stop}
use Rattle.frame_calls.specs.prim_calls.declared.callees.Callee.{Callee}
use Rattle.frame_calls.specs.prim_calls.declared.callees.Callee.TheVariants as callees
use Rattle.frame_calls.specs.prim_calls.declared.callees.Function.{Function}
use Rattle.frame_calls.specs.prim_calls.Callees.{IsKnownFunction, IsKnownCallee}
use Rattle.vm_states.specs.vm_frames.Calls.{Calls, OfRunning, on_running}
use Rattle.vm_states.specs.vm_frames.Placed.{IsPlaced}
use Rattle.vm_states.specs.frame_moves.Shown.{Tables, IsNext, view_of}
use Rattle.vm_states.specs.frame_moves.Outcomes.{world_of, outcome_of}
use Rattle.vm_states.specs.vm_fetching.declared.operations.CallOp.{CallOp}
use Rattle.vm_states.specs.vm_fetching.declared.instruction.Fetched.{Fetched}
use Rattle.vm_states.specs.vm_fetching.Instructions as fetched
use Rattle.vm_states.specs.vm_fetching.Operations.{call_op}
use Rattle.frame_calls.specs.declared.binding.FunctionCode.{FunctionCode}
use Rattle.frame_calls.specs.declared.calling.Invocation.{Invocation}
use Rattle.frame_calls.specs.Coming.{ComesTo}
use Rattle.frame_calls.specs.Entering.{IsCodeOf, Enters}
use Rattle.frame_calls.specs.Invoking.{Invokes}
use Rattle.frame_calls.specs.Layouts.{Layout, tables_of}
use Rattle.frame_calls.specs.Operands.{Given}
use Rattle.frame_calls.specs.Putting.{with_value}
use Rattle.frame_calls.proofs.Knowns.{none_known}
use Rattle.vm_states.specs.Means.{Program, Means}
use Rattle.vm_states.specs.Ready.{IsReady}
use Rattle.vm_states.specs.State.{IsState}
use Rattle.state_calls.specs.Called.{Comes}
use Rattle.state_calls.specs.Codes.{module_of_name, LacksCode}
use Rattle.state_calls.specs.Runs.{RunsWithin}
use Rattle.state_calls.specs.Taken.{IsTaken}
use Rattle.state_calls.proofs.Arriving.{Went, Within, enters_state, locals_within, params_within, params_count}
use Rattle.state_calls.proofs.Bases.{at, code_is, code_lacks}
use Rattle.state_calls.proofs.Comings.{with_tables, by_step}
use Rattle.state_calls.proofs.Places as places
use Rattle.state_calls.proofs.Puttings as puttings

-- what the instruction calls, in the program's tables
pub invokes_in : (p : Program) → Means p → (shelf : Shelf) → p.shelf ≡ shelf → (op : CallOp) (number : ℕ) (heap : Heap Value ℕ) (s : Calls) (given : Given) (call : Invocation) → IsTaken shelf op number heap s given call
    → (callee : Callee) → call.callee ≡ callee → Invokes p.tables (Plain (instrs.Num (call_op op) number)) call.size heap s.calls given.args given.keys callee
invokes_in p means shelf shelf_is op number heap s given call taken callee is =
    subst (λ (k : Callee). Invokes p.tables (Plain (instrs.Num (call_op op) number)) call.size heap s.calls given.args given.keys k) is
    (with_tables p means shelf shelf_is (λ (t : Tables). Invokes t (Plain (instrs.Num (call_op op) number)) call.size heap s.calls given.args given.keys call.callee) taken.invokes)

module _ (rows : places.Laws) (p : Program) (row : Row) (means : Means p) (shelf : Shelf) (shelf_is : p.shelf ≡ shelf) (op : CallOp) (number end : ℕ) (heap : Heap Value ℕ) (s new : Calls)
    (state : IsState p heap.objects s) (r : IsReady p s row (record { instruction = fetched.call op number; end = end })) (given : Given) (call : Invocation) (taken : IsTaken shelf op number heap s given call)
    (f : Function) (is : call.callee ≡ callees.Runs f) where
  abbrev It : Item
  It = Plain (instrs.Num (call_op op) number)

  abbrev Read : Fetched
  Read = record { instruction = fetched.call op number; end = end }

  invokes : Invokes p.tables It call.size heap s.calls given.args given.keys (callees.Runs f)
  invokes = invokes_in p means shelf shelf_is op number heap s given call taken (callees.Runs f) is

  pub by_comes : (result : Result (Unit {0}) Stop) → ComesTo p.tables p.library It 0 heap heap s.calls new.calls result → (w : PlainWorld)
      → Comes p (callees.Runs f) given heap w s (outcome_of p.tables r.place w heap s.calls new.calls result)
  by_comes result comes w = by_step p row s Read r (callees.Runs f) given heap w (λ place. outcome_of p.tables place w heap s.calls new.calls result) (comes w)

  -- one whose code isn't in the library
  module _ (lacks : LacksCode shelf f)
      (steps : (layout : Layout) (library : Library) → Invokes (tables_of p.tables.texts p.tables.tuples layout) It call.size heap s.calls given.args given.keys (callees.Runs f)
      → code_at library (plain_name p.tables.texts p.tables.tuples f.module_name) f.code ≡ None → IsNext (tables_of p.tables.texts p.tables.tuples layout) end s.calls
      → ComesTo (tables_of p.tables.texts p.tables.tuples layout) library It 0 heap heap s.calls new.calls (Ok tt)) where
    pub skipped_comes : ComesTo p.tables p.library It 0 heap heap s.calls new.calls (Ok tt)
    skipped_comes =
        steps (record { module_name = p.tables.module_name; starts = p.tables.starts }) p.library invokes
        (code_lacks p means rows f (subst (λ (z : Shelf). LacksCode z f) (sym shelf_is) lacks)) r.next

    pub skipped_state : puttings.Laws → new ≡ on_running (with_value end call.size values.None) s → IsState p heap.objects new
    skipped_state laws moved =
        let none : PlainWorld = new_world 0 0 [] in
        puttings.put_state laws p row means heap heap s new Read state r {E = Stop} call.size (Ok tt)
        (record { puts = (values.None, none_known p.tables.texts p.tables.tuples heap.objects, moved); later = record { keeps = λ kind n h. h }; all_told = state.all_told })
        (λ v ok e. puttings.step_runs laws p row means heap heap s new Read state r tt call.size 0 (world_of p.tables none heap) (world_of p.tables none heap) v ((skipped_comes none).steps r.place 0 (omega arith)) e)

  -- one whose code has this row
  module _ (i : ℕ) (own : Row) (own_is : IsRow shelf i f.code own) (named : module_of_name shelf f.module_name ≡ Some i) (code : FunctionCode)
      (params : code.params.now ≡ own.params) (given_is : code.given ≡ own.given) (locals : code.locals ≡ own.locals) where
    abbrev here : module_of_name p.shelf f.module_name ≡ Some i
    here = subst (λ (z : Shelf). module_of_name z f.module_name ≡ Some i) (sym shelf_is) named

    pub its_code : IsCodeOf p.tables p.library f i code
    its_code = code_is p means rows f i here own (subst (λ (z : Shelf). IsRow z i f.code own) (sym shelf_is) own_is) code params given_is locals

    module _ (result : Result (Unit {0}) Stop) where
      pub entered_comes : ((layout : Layout) (library : Library) (item : Item) → Invokes (tables_of (text_at shelf) (items_at shelf) layout) item call.size heap s.calls given.args given.keys (callees.Runs f)
          → IsCodeOf (tables_of (text_at shelf) (items_at shelf) layout) library f i code → ComesTo (tables_of (text_at shelf) (items_at shelf) layout) library item 0 heap heap s.calls new.calls result)
          → ComesTo p.tables p.library It 0 heap heap s.calls new.calls result
      entered_comes steps =
          with_tables p means shelf shelf_is
          (λ (t : Tables). Invokes t It call.size heap s.calls given.args given.keys (callees.Runs f) → IsCodeOf t p.library f i code → ComesTo t p.library It 0 heap heap s.calls new.calls result)
          (λ layout. steps layout p.library It) invokes its_code

      pub entered_again : Went → Enters (text_at shelf) (items_at shelf) heap.objects f i code.locals call.size s new result
          → ((layout : Layout) (library : Library) → IsCodeOf (tables_of (text_at shelf) (items_at shelf) layout) library f i code → IsOk result → OfRunning (IsPlaced (view_of (tables_of (text_at shelf) (items_at shelf) layout))) new.calls)
          → ComesTo p.tables p.library It 0 heap heap s.calls new.calls result → IsState p heap.objects new
      entered_again went enters placed comes =
          let known : IsKnownFunction (text_at shelf) (items_at shelf) heap.objects f = subst (IsKnownCallee (text_at shelf) (items_at shelf) heap.objects) is taken.callee in
          enters_state went p row means heap s new Read state r f i code.locals call.size (at p means rows f i here).inside
          (places.over p means shelf shelf_is (λ t u. IsKnownFunction t u heap.objects f) known) result
          (places.over p means shelf shelf_is (λ t u. Enters t u heap.objects f i code.locals call.size s new result) enters)
          (with_tables p means shelf shelf_is (λ (t : Tables). IsCodeOf t p.library f i code → IsOk result → OfRunning (IsPlaced (view_of t)) new.calls) (λ layout. placed layout p.library) its_code) comes

-- what a function's code asks for has room
module _ (rows : places.Laws) (within : Within) (room : ℕ) (shelf : Shelf) (heap : Heap Value ℕ) (s : Calls) (f : Fetched) (h : RunsWithin room shelf heap s f)
    (function : Function) (i : ℕ) (own : Row) (own_is : IsRow shelf i function.code own) (named : module_of_name shelf function.module_name ≡ Some i) (code : FunctionCode)
    (params : code.params.now ≡ own.params) (given_is : code.given ≡ own.given) (locals : code.locals ≡ own.locals) where
  abbrev P : Program
  P = h.runs.program

  stands : IsCodeOf P.tables P.library function i code
  stands =
      code_is P h.runs.means rows function i (subst (λ (z : Shelf). module_of_name z function.module_name ≡ Some i) (sym h.runs.shelf_is) named)
      own (subst (λ (z : Shelf). IsRow z i function.code own) (sym h.runs.shelf_is) own_is) code params given_is locals

  abbrev Its : Name
  Its = plain_name P.tables.texts P.tables.tuples function.module_name

  planned : code.locals ≤ (P.plans Its function.code).n_state
  planned = subst (λ (n : ℕ). n ≤ (P.plans Its function.code).n_state) (sym stands.locals) (locals_within within P h.runs.means Its function.code stands.found stands.there)

  few : length code.params.now ≤ code.locals
  few =
      let n = params_count P P.library function i code stands in
      let le = params_within P h.runs.means Its function.code stands.found stands.there in
      let same = stands.locals in
      omega (arith, n, le, same)

  pub locals_fit : code.locals ≤ s.slot_room
  locals_fit = let le = planned in let less = h.runs.state.running.rooms.slots Its function.code stands.found stands.there in omega (arith, le, less)

  pub params_fit : length code.params.now ≤ s.slot_room
  params_fit = let a = few in let b = locals_fit in omega (arith, a, b)

  pub bindings_fit : length code.params.now ≤ room
  bindings_fit = let a = few in let le = planned in let most = h.roomy Its function.code stands.found stands.there in omega (arith, a, le, most)

-- How many steps an instruction is paid for hangs on the heap alone.
use Rattle.std.proofs.Common.{◌≡◌, ℕ, suc, ◌<◌, ◌≤◌, List, [], ◌∷◌, Option, Some, None, inl, inr, refl, sym, ap, subst, ◌∙◌, arith}
use Rattle.std.specs.Prelude.{Result, Ok, Err, map}
use Rattle.std.proofs.lemmas.Bool.{cases_lt}
use Rattle.bc_machine.specs.mpy_base.declared.builtin.Builtin.{Builtin}
use Rattle.bc_machine.specs.mpy_base.declared.builtin.Builtin.TheVariants as builtins
use Rattle.bc_machine.specs.mpy_base.World.{Object, FunctionObject, MethodObject, object}
use Rattle.bc_machine.specs.mpy_base.Val.{Val, Built, At, PlainWorld}
use Rattle.bc_machine.specs.bc_ops.declared.instr.Op.{Op}
use Rattle.bc_machine.specs.bc_ops.declared.instr.Op.TheVariants as ops
use Rattle.bc_machine.specs.bc_ops.declared.instr.Instr.TheVariants as instrs
use Rattle.bc_machine.specs.py_values.Shown.{PlainHeap}
use Rattle.bc_machine.specs.py_primitives.Outcome.{Outcome, Stop}
use Rattle.bc_machine.specs.py_primitives.Output.{printed}
use Rattle.bc_machine.specs.py_effects.Effect.{Place, on_heap}
use Rattle.bc_machine.specs.py_effects.Calling.{Keys, callee_object, callee_of, call_method, call_builtin, written}
use Rattle.bc_machine.specs.Library.{Library, Item, Plain, Code, Module, Line, module_in, entry_in, code_at}
use Rattle.bc_machine.specs.State.{Slot, Value, Object as Looked, Frame, State, Running, Halted, Stuck}
use Rattle.bc_machine.specs.Operations.{TwoValued, operator_at, Operands, operands}
use Rattle.bc_machine.specs.Step.{next, call_function, call_looked, number_step, two_step, item_step, run_line, line_at}
use Rattle.vm_starting.specs.frame_calls.Invoking.{visits_of}
use Rattle.vm_starting.specs.vm_states.frame_exits.declared.ends.End.{End}
use Rattle.vm_starting.specs.vm_states.frame_moves.Shown.{view_of}
use Rattle.vm_starting.specs.vm_states.vm_frames.Calls.{Call}
use Rattle.vm_starting.specs.vm_states.vm_frames.Views.{frame_of}
use Rattle.vm_starting.specs.vm_states.Means.{Program}
use Rattle.vm_starting.specs.declared.opening.Vm.{Vm}
use Rattle.vm_machine.specs.Machine.{paid_state, machine_of, world_in}
use Rattle.snap_laws.specs.Kept.{IsPaid}
use Rattle.vm_machine.proofs.Pays.{unpaid, callee_pays}
use Rattle.vm_machine.proofs.Begun.{IsBegun, visits_two, item_begun, callee_begun, gives_begun}

-- the visits of a call of a value
abbrev visits_function : PlainWorld → Operands → List Slot → ℕ
visits_function w o (Value v ∷ below) = visits_of (callee_of w v) o.args o.keys
visits_function w o st = 0

-- the visits of a call of what was looked up
abbrev visits_looked : PlainWorld → Operands → List Slot → ℕ
visits_looked w o (Looked (Some x) ∷ Value (Built method) ∷ below) = (call_method w method x o.args o.keys).visits
visits_looked w o (Looked None ∷ Value v ∷ below) = visits_of (callee_of w v) o.args o.keys
visits_looked w o st = 0

-- the visits of an instruction over these slots
abbrev visits_num : PlainWorld → List Slot → Op → ℕ → ℕ
visits_num w st ops.CallFunction n = visits_function w (operands n st) (operands n st).below
visits_num w st ops.CallMethod n = visits_looked w (operands n st) (operands n st).below
visits_num w st op n = 0

abbrev visits_in : PlainWorld → List Slot → Item → ℕ
visits_in w st (Plain (instrs.Binary n)) = visits_two w st (operator_at n)
visits_in w st (Plain (instrs.Num op n)) = visits_num w st op n
visits_in w st item = 0

-- a world with this heap and nothing else
abbrev only : PlainHeap → PlainWorld
only heap = record { heap = heap; modules = []; ports = []; output = [] }

-- it hangs on the heap
-- ====================

written_visits : (w : PlainWorld) (o : Outcome (List ℕ)) (r : Result (List ℕ) Stop) → (written w o r).visits ≡ o.visits
written_visits w o (Ok text) = refl
written_visits w o (Err stop) = refl

builtin_visits : (w : PlainWorld) (b : Builtin) (args : List Val) (keys : Keys) → (call_builtin w b args keys).visits ≡ (call_builtin (only w.heap) b args keys).visits
builtin_visits w builtins.Print args keys =
    let o = printed w.heap args keys in written_visits w o o.answer ∙ sym (written_visits (only w.heap) o o.answer)
builtin_visits w b args keys = refl

object_visits : (w : PlainWorld) (x : Val) (o : Option (Object Val (List ℕ))) (args : List Val) (keys : Keys) → visits_of (callee_object w x o) args keys ≡ visits_of (callee_object (only w.heap) x o) args keys
object_visits w x (Some (FunctionObject name module_name code names defaults)) args keys = refl
object_visits w x (Some (MethodObject y method)) args keys = refl
object_visits w x _ args keys = refl

callee_visits : (w : PlainWorld) (x : Val) (args : List Val) (keys : Keys) → visits_of (callee_of w x) args keys ≡ visits_of (callee_of (only w.heap) x) args keys
callee_visits w (At n) args keys = object_visits w (At n) (object w.heap.objects n) args keys
callee_visits w (Built b) args keys = builtin_visits w b args keys
callee_visits w x args keys = refl

function_visits : (w : PlainWorld) (o : Operands) (st : List Slot) → visits_function w o st ≡ visits_function (only w.heap) o st
function_visits w o (Value x ∷ below) = callee_visits w x o.args o.keys
function_visits w o st = refl

looked_visits : (w : PlainWorld) (o : Operands) (st : List Slot) → visits_looked w o st ≡ visits_looked (only w.heap) o st
looked_visits w o (Looked (Some x) ∷ Value (Built method) ∷ below) = refl
looked_visits w o (Looked None ∷ Value x ∷ below) = callee_visits w x o.args o.keys
looked_visits w o st = refl

two_visits : (w : PlainWorld) (st : List Slot) (o : Option TwoValued) → visits_two w st o ≡ visits_two (only w.heap) st o
two_visits w (Value u ∷ Value x ∷ st) (Some op) = refl
two_visits w st o = refl

num_visits : (w : PlainWorld) (st : List Slot) (op : Op) (n : ℕ) → visits_num w st op n ≡ visits_num (only w.heap) st op n
num_visits w st ops.CallFunction n = function_visits w (operands n st) (operands n st).below
num_visits w st ops.CallMethod n = looked_visits w (operands n st) (operands n st).below
num_visits w st op n = refl

by_heap : (w : PlainWorld) (st : List Slot) (item : Item) → visits_in w st item ≡ visits_in (only w.heap) st item
by_heap w st (Plain (instrs.Binary n)) = two_visits w st (operator_at n)
by_heap w st (Plain (instrs.Num op n)) = num_visits w st op n
by_heap w st item = refl

same_visits : (w v : PlainWorld) (st : List Slot) (item : Item) → w.heap ≡ v.heap → visits_in w st item ≡ visits_in v st item
same_visits w v st item e = by_heap w st item ∙ (ap (λ (h : PlainHeap). visits_in (only h) st item) e ∙ sym (by_heap v st item))

-- a step in front of the visits and behind them
-- =============================================

module _ (library : Library) (place : Place) (paid : ℕ) (frame : Frame) (frames : List Frame) (w : PlainWorld) where
  two_pays : (st : List Slot) (o : Option TwoValued) → paid < visits_two w st o → two_step library place paid frame frames w st o ≡ Running (suc paid) frame frames w
  two_pays (Value u ∷ Value x ∷ st) (Some op) less = unpaid library place paid frame frames w (on_heap w (op w.heap x u)) (λ y. next library place paid frame frames w (Value y ∷ st)) less
  two_pays st o less = absurd (omega (arith, less))

  function_pays : (o : Operands) (st : List Slot) → paid < visits_function w o st → call_function library place paid frame frames w o st ≡ Running (suc paid) frame frames w
  function_pays o (Value x ∷ below) less = callee_pays library place paid frame frames w below (callee_of w x) o.args o.keys less
  function_pays o st less = absurd (omega (arith, less))

  looked_pays : (o : Operands) (st : List Slot) → paid < visits_looked w o st → call_looked library place paid frame frames w o st ≡ Running (suc paid) frame frames w
  looked_pays o (Looked (Some x) ∷ Value (Built method) ∷ below) less =
      unpaid library place paid frame frames w (call_method w method x o.args o.keys) (λ y. next library place paid frame frames w (Value y ∷ below)) less
  looked_pays o (Looked None ∷ Value x ∷ below) less = callee_pays library place paid frame frames w below (callee_of w x) o.args o.keys less
  looked_pays o st less = absurd (omega (arith, less))

  num_pays : (op : Op) (n : ℕ) → paid < visits_num w frame.slots op n → number_step library place paid frame frames w op n frame.slots ≡ Running (suc paid) frame frames w
  num_pays ops.CallFunction n less = function_pays (operands n frame.slots) (operands n frame.slots).below less
  num_pays ops.CallMethod n less = looked_pays (operands n frame.slots) (operands n frame.slots).below less
  num_pays op n less = absurd (omega (arith, less))

  item_pays : (item : Item) → paid < visits_in w frame.slots item → item_step library place paid frame frames w item ≡ Running (suc paid) frame frames w
  item_pays (Plain (instrs.Binary n)) less = two_pays frame.slots (operator_at n) less
  item_pays (Plain (instrs.Num op n)) less = num_pays op n less
  item_pays item less = absurd (omega (arith, less))

  function_begun : (o : Operands) (st : List Slot) → visits_function w o st ≤ paid → IsBegun (call_function library place paid frame frames w o st)
  function_begun o (Value x ∷ below) enough = callee_begun library place paid frame frames w below (callee_of w x) o.args o.keys enough
  function_begun o st enough = tt

  looked_begun : (o : Operands) (st : List Slot) → visits_looked w o st ≤ paid → IsBegun (call_looked library place paid frame frames w o st)
  looked_begun o (Looked (Some x) ∷ Value (Built method) ∷ below) enough = gives_begun library place paid frame frames w below (call_method w method x o.args o.keys) enough
  looked_begun o (Looked None ∷ Value x ∷ below) enough = callee_begun library place paid frame frames w below (callee_of w x) o.args o.keys enough
  looked_begun o st enough = tt

  num_begun : (op : Op) (n : ℕ) → visits_num w frame.slots op n ≤ paid → IsBegun (number_step library place paid frame frames w op n frame.slots)
  num_begun ops.CallFunction n enough = function_begun (operands n frame.slots) (operands n frame.slots).below enough
  num_begun ops.CallMethod n enough = looked_begun (operands n frame.slots) (operands n frame.slots).below enough
  num_begun op n enough = item_begun library place paid frame frames w (Plain (instrs.Num op n)) tt

  all_begun : (item : Item) → visits_in w frame.slots item ≤ paid → IsBegun (item_step library place paid frame frames w item)
  all_begun (Plain (instrs.Binary n)) enough = item_begun library place paid frame frames w (Plain (instrs.Binary n)) enough
  all_begun (Plain (instrs.Num op n)) enough = num_begun op n enough
  all_begun item enough = item_begun library place paid frame frames w item tt

begun_only : (paid : ℕ) (frame : Frame) (frames : List Frame) (w : PlainWorld) (s : State) → IsBegun s → s ≡ Running (suc paid) frame frames w → ⊥
begun_only paid frame frames w s begun e = let none : suc paid ≡ 0 = subst IsBegun e begun in omega (arith, none)

-- a stuck machine isn't one that runs
abbrev IsStuck : State → Type 0
IsStuck (Running paid frame frames w) = ⊥
IsStuck (Halted end w) = ⊥
IsStuck (Stuck w) = Unit {0}

-- whatever the world
-- ==================

module _ (library : Library) (frame : Frame) (frames : List Frame) (w v : PlainWorld) (same : w.heap ≡ v.heap) where
  line_pays : (k : ℕ) (m : Option Module) (c : Option Code) (l : Option Line) → run_line library k frame frames w m c l ≡ Running (suc k) frame frames w
      → run_line library k frame frames v m c l ≡ Running (suc k) frame frames v
  line_pays k (Some m) (Some code) (Some l) e =
      let place : Place = record { file = m.file; line = l.line; name = code.name } in
      let one = same_visits w v frame.slots l.item same in
      elim (cases_lt k (visits_in w frame.slots l.item)) [
        | inl less ↦ item_pays library place k frame frames v l.item (omega (arith, less, one))
        | inr enough ↦ absurd (begun_only k frame frames w (item_step library place k frame frames w l.item) (all_begun library place k frame frames w l.item enough) e)
      ]
  line_pays k m c l e = absurd (subst IsStuck e tt)

  pub paid_there : (paid : ℕ) → IsPaid library (Running paid frame frames w) → IsPaid library (Running paid frame frames v)
  paid_there paid h = λ k lt.
      line_pays k (module_in (entry_in library frame.module_name)) (code_at library frame.module_name frame.code) (line_at (code_at library frame.module_name frame.code) frame.position) (h k lt)

module _ (p : Program) (vm : Vm) (w v : PlainWorld) where
  machine_by : (end : Option End) (calls : List Call) → IsPaid p.library (paid_state p end vm.paid calls (world_in p vm w)) → IsPaid p.library (paid_state p end vm.paid calls (world_in p vm v))
  machine_by None [] h = tt
  machine_by None (c ∷ cs) h = paid_there p.library (frame_of (view_of p.tables) c) (map (frame_of (view_of p.tables)) cs) (world_in p vm w) (world_in p vm v) refl vm.paid h
  machine_by (Some end) calls h = tt

  pub machine_paid : IsPaid p.library (machine_of p vm w) → IsPaid p.library (machine_of p vm v)
  machine_paid h = machine_by vm.end vm.frames.calls h

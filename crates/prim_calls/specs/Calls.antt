-- Calls of built-ins, with the output and the ports.
use Rattle.std.specs.Prelude.{◌≡◌, ℕ, List, map, Option, Result, Ok, Err}
use Rattle.mpy_base.specs.declared.builtin.Builtin.{Builtin}
use Rattle.mpy_base.specs.declared.builtin.Builtin.TheVariants as builtins
use Rattle.mpy_base.specs.World.{Heap, Objects, PortState}
use Rattle.mpy_base.specs.Val.{Val, Built}
use Rattle.mpy_io.specs.Ports.{PortView}
use Rattle.port_set.specs.Calls.{Tell}
use Rattle.port_set.specs.Counts.{CountsKeep}
use Rattle.prim_methods.specs.arena_heap.declared.value.Value.{Value}
use Rattle.prim_methods.specs.arena_heap.declared.value.StrNo.{StrNo}
use Rattle.prim_methods.specs.arena_heap.declared.value.ConstNo.{ConstNo}
use Rattle.prim_types.specs.py_values.Shown.{PlainHeap}
use Rattle.prim_types.specs.py_values.Names.{type_name}
use Rattle.prim_types.specs.py_primitives.Faults as plain
use Rattle.prim_types.specs.py_primitives.Outcome as primitives
use Rattle.prim_types.specs.py_primitives.Outcome.{Outcome, raises}
use Rattle.prim_types.specs.py_primitives.Calls.{call}
use Rattle.prim_types.specs.py_primitives.Output.{printed, call_port}
use Rattle.prim_methods.specs.prim_walks.Plain.{plain as plain_value, plain_pair, plain_heap}
use Rattle.prim_methods.specs.prim_faults.declared.fault.Fault.TheVariants as faults
use Rattle.prim_methods.specs.prim_faults.declared.stop.Stop.{Stop}
use Rattle.prim_methods.specs.prim_faults.declared.stop.Stop.TheVariants as stops
use Rattle.prim_methods.specs.prim_faults.Outcomes.{IsKnownAnswer, IsOutcome}
use Rattle.prim_outputs.specs.declared.prints.PrintStop.{PrintStop}
use Rattle.prim_outputs.specs.declared.prints.PrintStop.TheVariants as prints
use Rattle.prim_outputs.specs.Prints.{IsPrint}
use Rattle.prim_outputs.specs.PortCalls.{IsPortOutcome, Failed, IsListed, called_number}
use Rattle.prim_calls.specs.declared.calls.CallStop.{CallStop}
use Rattle.prim_calls.specs.declared.calls.CallStop.TheVariants as calls

-- the answer of a primitive's call as that of a built-in's
abbrev pub as_call : Result Value Stop → Result Value CallStop
as_call (Ok v) = Ok v
as_call (Err stop) = Err (calls.Stops stop)

-- the answer of a call of `print` as that of a built-in's
abbrev pub as_print : Result Value PrintStop → Result Value CallStop
as_print (Ok v) = Ok v
as_print (Err (prints.Raises fault)) = Err (calls.Stops (stops.Raises fault))
as_print (Err (prints.Out failed)) = Err (calls.Out failed)

-- it is the answer of such a call, of which this holds
pub record Answers {A : Type 0} (widened : A → Result Value CallStop) (result : Result Value CallStop) (P : A → Type 0) : Type 0 where
  pub answer : A
  pub is : result ≡ widened answer
  pub holds : P answer

-- the arena, the output and the ports
pub record Seen (S : Type 0) : Type 0 where
  pub heap : Heap Value ℕ
  pub out : S
  pub ports : List PortView

-- the values of an answer are known
abbrev pub IsKnownCall : (StrNo → Option (List ℕ)) → (ConstNo → Option (List Value)) → Objects Value ℕ → Result Value CallStop → Type 0
IsKnownCall texts tuples objects (Ok v) = IsKnownAnswer texts tuples objects (Ok v)
IsKnownCall texts tuples objects (Err (calls.Stops stop)) = IsKnownAnswer texts tuples objects (Err stop)
IsKnownCall texts tuples objects (Err (calls.Out failed)) = Unit {0}

module _ {S : Type 0} (told : S → Option (List ℕ)) (count : S → ℕ) (texts : StrNo → Option (List ℕ)) (tuples : ConstNo
    → Option (List Value)) (old new : Seen S) (args : List Value) (keys : List (Value × Value)) (result : Result Value CallStop) where
  -- the heap before the call, as the meaning has it
  abbrev pub heap_of : PlainHeap
  heap_of = plain_heap texts tuples old.heap

  -- the positional arguments
  abbrev pub plain_args : List Val
  plain_args = map (plain_value texts tuples) args

  -- the keyword arguments
  abbrev pub plain_keys : List (Val × Val)
  plain_keys = map (plain_pair texts tuples) keys

  -- it does this on the heap, and nothing else
  pub record ActsOnHeap (outcome : Outcome Val) : Type 0 where
    pub does : Answers as_call result (λ r. IsOutcome texts tuples old.heap new.heap r outcome)
    pub out : new.out ≡ old.out
    pub ports : new.ports ≡ old.ports

  -- it prints, and does nothing else
  pub record Prints : Type 0 where
    pub does : Answers as_print result (λ r. IsPrint told count texts tuples old.heap old.out new.out r (printed heap_of plain_args plain_keys))
    pub heap : new.heap ≡ old.heap
    pub ports : new.ports ≡ old.ports

  -- it calls a port that tells its contents as the primitive does, if it fails only where that does, and does nothing else. One
  -- that failed is of the port that the first argument names, whose call fails as the primitive where it is listed to. No port's
  -- count of faults falls
  abbrev pub DoesAsPort : Builtin → Result Value Stop → Type 0
  DoesAsPort b r =
      (contents : List PortState) → Tell old.ports contents
      → (r ≡ Err (stops.Raises faults.PortFailed) → (call_port heap_of contents b plain_args plain_keys).answer ≡ Err (primitives.Raises plain.PortFailed))
      → IsPortOutcome texts tuples old.heap new.ports r (call_port heap_of contents b plain_args plain_keys)

  -- a call of a port does what the primitive does; where it fails, the port told so
  pub record CallsPort (b : Builtin) : Type 0 where
    pub does : Answers as_call result (DoesAsPort b)
    pub failed : result ≡ Err (calls.Stops (stops.Raises faults.PortFailed)) → Failed (called_number args) old.ports new.ports
    pub listed : result ≡ Err (calls.Stops (stops.Raises faults.PortFailed)) → (contents : List PortState) → IsListed (called_number args) contents
        → (call_port heap_of contents b plain_args plain_keys).answer ≡ Err (primitives.Raises plain.PortFailed)
    pub faults : CountsKeep old.ports new.ports
    pub heap : new.heap ≡ old.heap
    pub out : new.out ≡ old.out

  -- it counts the ports, and does nothing else. No port fails
  pub record CountsPorts : Type 0 where
    pub does : Answers as_call result (λ r. (contents : List PortState) → Tell old.ports contents
        → IsPortOutcome texts tuples old.heap new.ports r (call_port heap_of contents builtins.PortCount plain_args plain_keys))
    pub heap : new.heap ≡ old.heap
    pub out : new.out ≡ old.out
    pub ports : new.ports ≡ old.ports

  -- what the call of a built-in does
  abbrev pub IsCall : Builtin → Type 0
  IsCall builtins.Print = Prints
  IsCall builtins.PortPut = CallsPort builtins.PortPut
  IsCall builtins.PortGet = CallsPort builtins.PortGet
  IsCall builtins.PortCount = CountsPorts
  IsCall builtins.Port = ActsOnHeap (raises (plain.NotCallable (type_name heap_of (Built builtins.Port))) heap_of)
  IsCall b = ActsOnHeap (call heap_of b plain_args plain_keys)

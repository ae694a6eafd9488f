-- What calls of ports do to ports that tell their contents.
use Rattle.std.specs.Prelude.{◌≡◌, ℕ, ℤ, pos, negsuc, List, [], ◌∷◌, map, Option, Some, None, IfSome, Ok, Err, Result, slice_get}
use Rattle.mpy_base.specs.declared.builtin.Builtin.{Builtin}
use Rattle.mpy_base.specs.World.{Heap, PortState}
use Rattle.mpy_io.specs.Count.{Rose}
use Rattle.mpy_io.specs.Ports.{PortView, IsFailing, called as called_once}
use Rattle.port_set.specs.Calls.{Tell}
use Rattle.prim_builtins.specs.arena_heap.declared.value.Value.{Value}
use Rattle.prim_builtins.specs.arena_heap.declared.value.Value.TheVariants as values
use Rattle.prim_builtins.specs.arena_heap.declared.value.StrNo.{StrNo}
use Rattle.prim_builtins.specs.arena_heap.Values.{IsSmall}
use Rattle.prim_builtins.specs.arena_heap.declared.value.ConstNo.{ConstNo}
use Rattle.prim_builtins.specs.arena_heap.declared.constants.Constants.{Ghosts}
use Rattle.prim_builtins.specs.py_values.Shown.{PlainHeap}
use Rattle.prim_builtins.specs.py_primitives.Faults.{NoSuchPort, PortFailed}
use Rattle.prim_builtins.specs.py_primitives.Outcome.{Raises}
use Rattle.prim_builtins.specs.py_primitives.Output.{PortOutcome, refused, number_answer, taken, put_to, get_from, call_port}
use Rattle.prim_builtins.specs.prim_faults.declared.fault.Fault.TheVariants as faults
use Rattle.prim_builtins.specs.prim_faults.declared.stop.Stop.{Stop}
use Rattle.prim_builtins.specs.prim_faults.declared.stop.Stop.TheVariants as stops
use Rattle.prim_builtins.specs.prim_faults.Outcomes.{plain_answer}
use Rattle.prim_builtins.specs.prim_faults.Sights.{Sight, sight}
use Rattle.prim_builtins.specs.prim_operators.Operands.{number_in}

-- a call that answers so and leaves these ports does what the primitive does, if it fails only where that does
module _ (texts : StrNo → Option (List ℕ)) (tuples : ConstNo → Option (List Value)) (heap : Heap Value ℕ) where
  -- the answer and the ports are those of the primitive
  pub record IsPortOutcome (new : List PortView) (result : Result Value Stop) (outcome : PortOutcome) : Type 0 where
    pub answer : plain_answer texts tuples heap result ≡ outcome.answer
    pub ports : Tell new outcome.ports

-- None, a number, or a fault that names no value
abbrev pub IsPortAnswer : Result Value Stop → Type 0
IsPortAnswer (Ok values.None) = Unit {0}
IsPortAnswer (Ok (values.Int z)) = IsSmall z
IsPortAnswer (Err (stops.Raises faults.NoSuchPort)) = Unit {0}
IsPortAnswer (Err (stops.Raises faults.PortFailed)) = Unit {0}
IsPortAnswer (Err (stops.Raises (faults.Arithmetic fault))) = Unit {0}
IsPortAnswer _ = ⊥

-- no port was called
abbrev pub IsNoCall : Result Value Stop → Type 0
IsNoCall (Ok v) = ⊥
IsNoCall (Err (stops.Raises faults.PortFailed)) = ⊥
IsNoCall (Err (stops.Raises (faults.Arithmetic fault))) = ⊥
IsNoCall _ = Unit {0}

-- a number, where it is a small integer
abbrev pub IsNumberAnswer : ℤ → Result Value Stop → Type 0
IsNumberAnswer n result = (texts : StrNo → Option (List ℕ)) (tuples : ConstNo → Option (List Value)) (heap : Heap Value ℕ)
    → plain_answer texts tuples heap result ≡ number_answer n

-- what a get gives where these answers are pending
abbrev pub IsTaken : List ℤ → Result Value Stop → Type 0
IsTaken pending result = (texts : StrNo → Option (List ℕ)) (tuples : ConstNo → Option (List Value)) (heap : Heap Value ℕ)
    → plain_answer texts tuples heap result ≡ taken pending

-- the number of the port that is called: what the first argument counts as
abbrev pub called_number : List Value → Option ℤ
called_number [] = None
called_number (i ∷ _) = number_in i

-- a call that failed is one of the port of this number, whose count of faults rose. Where it tells its contents, it was called
-- once more, and nothing else changed
pub record Failed (called : Option ℤ) (old new : List PortView) : Type 0 where
  pub number : ℕ
  pub before : PortView
  pub after : PortView
  pub named : called ≡ Some (pos number)
  pub was : slice_get old number ≡ Some before
  pub is : slice_get new number ≡ Some after
  pub rose : Rose before.count after.count
  pub told : IfSome before.told (λ port. after.told ≡ Some (called_once port))

-- the next call of the port of this number is one of those that fail
pub record IsListed (called : Option ℤ) (contents : List PortState) : Type 0 where
  pub number : ℕ
  pub port : PortState
  pub named : called ≡ Some (pos number)
  pub here : slice_get contents number ≡ Some port
  pub failing : IsFailing port

-- the same whatever the constants and the heap are
abbrev pub DoesPort : List PortView → Result Value Stop → PortOutcome → Type 0
DoesPort new result outcome = (texts : StrNo → Option (List ℕ)) (tuples : ConstNo → Option (List Value)) (heap : Heap Value ℕ)
    → IsPortOutcome texts tuples heap new result outcome

-- a put, and a get, of the port that has a number
abbrev pub put_at : List PortState → ℤ → ℤ → PortOutcome
put_at ports (pos at) n = put_to ports at n (slice_get ports at)
put_at ports (negsuc _) n = refused NoSuchPort ports

-- a get of the port that has a number
abbrev pub get_at : List PortState → ℤ → PortOutcome
get_at ports (pos at) = get_from ports at (slice_get ports at)
get_at ports (negsuc _) = refused NoSuchPort ports

-- a call failed, or a primitive does
abbrev pub IsFailure : Result Value Stop → Type 0
IsFailure result = result ≡ Err (stops.Raises faults.PortFailed)

abbrev pub HasFailure : PortOutcome → Type 0
HasFailure outcome = outcome.answer ≡ Err (Raises PortFailed)

-- a call, if it fails only where the primitive does, does what that does to ports that tell their contents
abbrev pub DoesTold : (old new : List PortView) → Result Value Stop → (List PortState → PortOutcome) → Type 0
DoesTold old new result primitive =
    (contents : List PortState) → Tell old contents → (IsFailure result → HasFailure (primitive contents)) → DoesPort new result (primitive contents)

-- it fails only where the next call of the port of this number does
abbrev pub FailsListed : Option ℤ → Result Value Stop → (List PortState → PortOutcome) → Type 0
FailsListed called result primitive = IsFailure result → (contents : List PortState) → IsListed called contents → HasFailure (primitive contents)

-- a built-in of ports is called
abbrev pub calling_port : Builtin → (args : List Value) → (keys : List (Value × Value)) → PlainHeap → Sight → List PortState → PortOutcome
calling_port builtin args keys heap see ports = call_port heap ports builtin (map see.value args) (map see.pair keys)

-- both over an arena
module _ {T : Type 0} (C : Ghosts T) (consts : T) (arena : Heap Value ℕ) where
  abbrev pub DoesPorts : (old new : List PortView) → Result Value Stop → (PlainHeap → Sight → List PortState → PortOutcome) → Type 0
  DoesPorts old new result primitive =
      let see = sight C consts in
      let done = primitive (see.heap arena) see in
      (contents : List PortState) → Tell old contents → (IsFailure result → HasFailure (done contents))
      → IsPortOutcome see.texts see.tuples arena new result (done contents)

  abbrev pub FailsPorts : Option ℤ → Result Value Stop → (PlainHeap → Sight → List PortState → PortOutcome) → Type 0
  FailsPorts called result primitive = let see = sight C consts in FailsListed called result (primitive (see.heap arena) see)

-- Arguments that are refused.
use Rattle.std.specs.Prelude.{◌≡◌, ◌≢◌, ◌⊎◌, ◌<◌, ◌≤◌, ℕ, List, [], map, Option}
use Rattle.prim_operators.specs.mpy_base.declared.builtin.Builtin.{Builtin}
use Rattle.prim_operators.specs.mpy_base.World.{Heap}
use Rattle.prim_operators.specs.arena_heap.declared.value.Value.{Value}
use Rattle.prim_operators.specs.arena_heap.declared.value.StrNo.{StrNo}
use Rattle.prim_operators.specs.arena_heap.declared.value.ConstNo.{ConstNo}
use Rattle.prim_operators.specs.mpy_base.Val.{Val}
use Rattle.prim_operators.specs.py_primitives.Calls.{Counts, counts_of, call}
use Rattle.prim_operators.specs.py_primitives.Methods.{call_method}
use Rattle.prim_operators.specs.py_primitives.Outcome.{raises}
use Rattle.prim_operators.specs.prim_walks.Plain.{plain, plain_pair, plain_heap}
use Rattle.prim_operators.specs.prim_faults.declared.fault.Fault.{Fault}
use Rattle.prim_operators.specs.prim_faults.declared.fault.Fault.TheVariants as faults
use Rattle.prim_operators.specs.prim_faults.Faults.{plain_fault, IsKnownFault}

-- each built-in and each method that takes these counts raises the fault, whatever the constants and the heap are
pub record IsRefusal (counts : Counts) (args : List Value) (keys : List (Value × Value)) (fault : Fault) : Type 0 where
  pub known : (texts : StrNo → Option (List ℕ)) (tuples : ConstNo → Option (List Value)) (heap : Heap Value ℕ) → IsKnownFault texts tuples heap.objects fault
  pub raised : (texts : StrNo → Option (List ℕ)) (tuples : ConstNo → Option (List Value)) (heap : Heap Value ℕ) (b : Builtin) → counts_of b ≡ counts
      → call (plain_heap texts tuples heap) b (map (plain texts tuples) args) (map (plain_pair texts tuples) keys)
      ≡ raises (plain_fault texts tuples heap fault) (plain_heap texts tuples heap)
  pub method_raised : (texts : StrNo → Option (List ℕ)) (tuples : ConstNo
      → Option (List Value)) (heap : Heap Value ℕ) (method : Builtin) (object : Val) → counts_of method ≡ counts
      → call_method (plain_heap texts tuples heap) method object (map (plain texts tuples) args) (map (plain_pair texts tuples) keys)
      ≡ raises (plain_fault texts tuples heap fault) (plain_heap texts tuples heap)

-- the fault of fewer arguments than the least count, or of more than the most
abbrev pub IsMiscount : (least most given : ℕ) → Fault → Type 0
IsMiscount least most given (faults.TooFew least' given') = (given < least) × (least' ≡ least) × (given' ≡ given)
IsMiscount least most given (faults.TooMany most' given') = (least ≤ given) × (most < given) × (most' ≡ most) × (given' ≡ given)
IsMiscount least most given _ = ⊥

-- the fault of another count than that
abbrev pub IsOtherCount : (takes given : ℕ) → Fault → Type 0
IsOtherCount takes given fault = (given ≢ takes) × (fault ≡ faults.WrongCount takes given)

-- keyword arguments are refused first, and then a count with that fault
abbrev pub IsMisgiven : (Fault → Type 0) → List (Value × Value) → Fault → Type 0
IsMisgiven Miscount keys fault = ((keys ≢ []) × (fault ≡ faults.NoKeywords)) ⊎ ((keys ≡ []) × Miscount fault)

-- Operators over two numbers.
use Rattle.std.specs.Prelude.{◌≡◌, ℕ, ◌≤◌, ℤ, List, Option, Some, Result, Ok}
use Rattle.state_values.specs.mpy_base.World.{Objects}
use Rattle.state_values.specs.mpy_base.Val.{Val, Int}
use Rattle.state_values.specs.prim_assignments.arena_heap.declared.value.Value.{Value}
use Rattle.state_values.specs.prim_assignments.arena_heap.declared.value.StrNo.{StrNo}
use Rattle.state_values.specs.prim_assignments.arena_heap.declared.value.ConstNo.{ConstNo}
use Rattle.state_values.specs.bc_progress.py_values.declared.small_int.NumFault.{NumFault}
use Rattle.state_values.specs.bc_progress.py_values.Shown.{PlainHeap}
use Rattle.state_values.specs.bc_progress.py_primitives.Outcome.{Outcome}
use Rattle.state_values.specs.bc_progress.py_primitives.Operators.{gives_number}
use Rattle.state_values.specs.prim_assignments.prim_walks.Plain.{plain}
use Rattle.state_values.specs.prim_assignments.prim_faults.Faults.{IsKnown}
use Rattle.state_values.specs.bc_progress.bc_machine.Operations.{TwoValued, operator_at}

-- the operator with this number comes to this over two numbers, whatever the heap is
abbrev pub ComesTo : (number : ℕ) → (left right : ℤ) → (PlainHeap → Outcome Val) → Type 0
ComesTo number left right outcome = (operator : TwoValued) × (operator_at number ≡ Some operator)
    × ((heap : PlainHeap) → operator heap (Int left) (Int right) ≡ outcome heap)

-- it gives the value, with these visits
abbrev pub Gives : (number : ℕ) → (left right : ℤ) → Val → (visits : ℕ) → Type 0
Gives number left right v visits = ComesTo number left right (λ heap. record { answer = Ok v; heap = heap; visits = visits })

-- it computes the number, or its fault
abbrev pub Computes : (number : ℕ) → (left right : ℤ) → Result ℤ NumFault → Type 0
Computes number left right answer = ComesTo number left right (λ heap. gives_number heap answer)

-- the value is what it gives, and known over all objects
pub record IsAnswer (number : ℕ) (left right : ℤ) (v : Value) (visits : ℕ) : Type 0 where
  pub gives : (texts : StrNo → Option (List ℕ)) (tuples : ConstNo → Option (List Value)) → Gives number left right (plain texts tuples v) visits
  pub known : (texts : StrNo → Option (List ℕ)) (tuples : ConstNo → Option (List Value)) (objects : Objects Value ℕ) → IsKnown texts tuples objects v
  pub few : visits ≤ 1

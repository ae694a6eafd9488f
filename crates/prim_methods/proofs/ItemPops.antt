-- Items that are taken out of lists.
use Rattle.std.proofs.Common.{◌≡◌, ℕ, ◌<◌, ℤ, List, [], ◌∷◌, length, map, get_or, refl, arith}
use Rattle.prim_assignments.specs.arena_heap.declared.value.Value.{Value}
use Rattle.mpy_base.specs.Val.{Val, Int, At}
use Rattle.prim_builtins.specs.py_values.Shown.{PlainHeap}
use Rattle.prim_builtins.specs.py_primitives.Faults.{EmptyList}
use Rattle.prim_builtins.specs.py_primitives.Outcome.{raises}
use Rattle.prim_builtins.specs.py_primitives.Calls.{with_number}
use Rattle.prim_builtins.specs.py_primitives.Uses.{at_place}
use Rattle.prim_builtins.specs.py_primitives.Methods.{pop, pop_from, pop_at}

module _ (heap : PlainHeap) (list : ℕ) where
  pub empty_popped : (items : List Val) (index : Val) → length items ≡ 0 → pop_from heap list items index ≡ raises EmptyList heap
  empty_popped [] index e = refl
  empty_popped (item ∷ items) index e = absurd (omega arith)

  pub popped_from : (items : List Val) (index : Val) → 0 < length items → pop_from heap list items index ≡ at_place heap (At list) index (pop_at heap list items)
  popped_from [] index some = absurd (omega arith)
  popped_from (item ∷ items) index some = refl

  -- with an index
  pub popped_at : (f : Value → Val) (items : List Val) (args : List Value) (d : Value) → 0 < length args
      → pop heap list items (map f args) ≡ with_number heap (f (get_or args 0 d)) (λ (z : ℤ). pop_from heap list items (Int z))
  popped_at f items [] d some = absurd (omega arith)
  popped_at f items (arg ∷ args) d some = refl

  pub popped_last : (f : Value → Val) (items : List Val) (args : List Value) → length args ≡ 0 → pop heap list items (map f args) ≡ pop heap list items []
  popped_last f items [] e = refl
  popped_last f items (arg ∷ args) e = absurd (omega arith)

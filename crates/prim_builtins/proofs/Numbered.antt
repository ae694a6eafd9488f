-- What follows on arguments that are numbers.
use Rattle.std.proofs.Common.{◌≡◌, ℕ, ℤ, List, Option, Some, None, refl, sym, ap, ◌∙◌}
use Rattle.prim_operators.specs.arena_heap.declared.value.Value.{Value}
use Rattle.prim_operators.specs.arena_heap.declared.value.StrNo.{StrNo}
use Rattle.prim_operators.specs.arena_heap.declared.value.ConstNo.{ConstNo}
use Rattle.prim_operators.specs.mpy_base.World.{Heap}
use Rattle.prim_operators.specs.mpy_base.Val.{Val}
use Rattle.prim_operators.specs.py_values.Shown.{PlainHeap, Shown, Number}
use Rattle.prim_operators.specs.py_values.Names.{type_name}
use Rattle.prim_operators.specs.py_primitives.Faults.{NotANumber}
use Rattle.prim_operators.specs.py_primitives.Faults as primitives
use Rattle.prim_operators.specs.py_primitives.Outcome.{Outcome, raises}
use Rattle.prim_operators.specs.py_primitives.Calls.{of_number, with_number}
use Rattle.prim_operators.specs.prim_walks.Plain.{plain, plain_heap}
use Rattle.prim_operators.specs.prim_faults.declared.fault.Fault.{Fault}
use Rattle.prim_operators.specs.prim_faults.Faults.{plain_fault}
use Rattle.prim_operators.specs.Operands.{number_in}
use Rattle.prim_operators.proofs.Looked.{shown_number, number_shown, shows_number}
use Rattle.prim_builtins.specs.Numbers.{IsNoNumber}

of_other : (heap : PlainHeap) (v : Val) (next : ℤ → Outcome Val) (s : Shown) → shown_number s ≡ None → of_number heap v s next ≡ raises (NotANumber (type_name heap v)) heap
of_other heap v next (Number z) e = absurd cc
of_other heap v next _ e = refl

module _ (texts : StrNo → Option (List ℕ)) (tuples : ConstNo → Option (List Value)) (h : Heap Value ℕ) (v : Value) (next : ℤ → Outcome Val) where
  pub numbered : (z : ℤ) → number_in v ≡ Some z → with_number (plain_heap texts tuples h) (plain texts tuples v) next ≡ next z
  numbered z e = ap (λ (s : Shown). of_number (plain_heap texts tuples h) (plain texts tuples v) s next) (shows_number texts tuples h v z e)

  pub unnumbered : (fault : Fault) → number_in v ≡ None → IsNoNumber h v fault
      → with_number (plain_heap texts tuples h) (plain texts tuples v) next ≡ raises (plain_fault texts tuples h fault) (plain_heap texts tuples h)
  unnumbered fault none is =
      of_other (plain_heap texts tuples h) (plain texts tuples v) next _ (number_shown texts tuples h v ∙ none)
      ∙ ap (λ (f : primitives.Fault). raises {A = Val} f (plain_heap texts tuples h)) (sym ((is texts tuples).1))

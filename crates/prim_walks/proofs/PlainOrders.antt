-- Orders of an arena's values and of the meaning's.
use Rattle.std.proofs.Common.{◌≡◌, ℕ, List, Option, Result, Ok, Err, refl, sym, subst}
use Rattle.std.specs.Prelude.{IfOk, IfErr, IfSome}
use Rattle.std.specs.Option.{option_map}
use Rattle.std.specs.Result.{result_ok}
use Rattle.std.specs.declared.cmp.Ordering.{Ordering}
use Rattle.arena_objects.specs.arena_heap.declared.value.Value.{Value}
use Rattle.arena_objects.specs.arena_heap.declared.value.StrNo.{StrNo}
use Rattle.arena_objects.specs.arena_heap.declared.value.ConstNo.{ConstNo}
use Rattle.prim_walks.specs.declared.budget.Halt.{Halt}
use Rattle.prim_walks.specs.declared.orders.Unordered.{Unordered}
use Rattle.py_primitives.specs.mpy_base.World.{Objects}
use Rattle.prim_walks.specs.Orders.{plain_order, plain_answer, BothLead}

pub answer_plain : (texts : StrNo → Option (List ℕ)) (tuples : ConstNo → Option (List Value)) (r : Result (Result Ordering Unordered) Halt)
    → option_map (plain_order texts tuples) (result_ok r) ≡ result_ok (plain_answer texts tuples r)
answer_plain texts tuples (Ok found) = refl
answer_plain texts tuples (Err halt) = refl

module _ (objects : Objects Value ℕ) where
  led : (r : Result (Result Ordering Unordered) Halt) → IfOk r (λ found. IfErr found (BothLead objects)) → IfSome (result_ok r) (λ found. IfErr found (BothLead objects))
  led (Ok found) leads = leads
  led (Err halt) leads = tt

  -- the values of an order that there is not lead to objects
  pub led_plain : (r : Result (Result Ordering Unordered) Halt) (answer : Option (Result Ordering Unordered)) → answer ≡ result_ok r → IfOk r (λ found. IfErr found (BothLead objects))
      → IfSome answer (λ found. IfErr found (BothLead objects))
  led_plain r answer is leads = subst (λ (o : Option (Result Ordering Unordered)). IfSome o (λ found. IfErr found (BothLead objects))) (sym is) (led r leads)

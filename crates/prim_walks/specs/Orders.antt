-- The order of an arena's values.
use Rattle.std.specs.Prelude.{◌≡◌, ℕ, Bool, List, length, map, Option, Result, Ok, Err}
use Rattle.std.specs.declared.cmp.Ordering.{Ordering}
use Rattle.arena_objects.specs.arena_heap.declared.value.Value.{Value}
use Rattle.arena_objects.specs.arena_heap.declared.value.StrNo.{StrNo}
use Rattle.arena_objects.specs.arena_heap.declared.value.ConstNo.{ConstNo}
use Rattle.arena_objects.specs.arena_heap.Values.{Leads}
use Rattle.py_primitives.specs.mpy_base.World.{Heap, Objects}
use Rattle.py_primitives.specs.mpy_base.Val.{Val}
use Rattle.arena_objects.specs.Iterables.{items_in}
use Rattle.py_primitives.specs.py_values.Equality.{Walk, answers}
use Rattle.py_primitives.specs.Order as meaning
use Rattle.py_primitives.specs.Order.{order_items}
use Rattle.prim_walks.specs.declared.budget.Halt.{Halt}
use Rattle.prim_walks.specs.declared.orders.Unordered.{Unordered}
use Rattle.prim_walks.specs.declared.ranking.Ranking.{Ranking}
use Rattle.prim_walks.specs.declared.ranking.Ranking.TheVariants as rankings
use Rattle.prim_walks.specs.Plain.{plain}

-- both values lead to objects
abbrev pub BothLead : Objects Value ℕ → Unordered → Type 0
BothLead objects e = Leads objects e.left × Leads objects e.right

module _ (texts : StrNo → Option (List ℕ)) (tuples : ConstNo → Option (List Value)) where
  -- two values that have no order, as the meaning has them
  abbrev pub plain_unordered : Unordered → meaning.Unordered
  plain_unordered e = record { left = plain texts tuples e.left; right = plain texts tuples e.right }

  -- an order, or two values that have none
  abbrev pub plain_order : Result Ordering Unordered → Result Ordering meaning.Unordered
  plain_order (Ok o) = Ok o
  plain_order (Err e) = Err (plain_unordered e)

  -- the same of a walk that may halt
  abbrev pub plain_answer : Result (Result Ordering Unordered) Halt → Result (Result Ordering meaning.Unordered) Halt
  plain_answer (Ok found) = Ok (plain_order found)
  plain_answer (Err halt) = Err halt

  module _ (heap : Heap Value ℕ) (a b : Value) where
    -- the walk that a ranking leaves
    abbrev pub ranked : (Val → Val → Walk Bool) → (Val → Val → Walk (Result Ordering meaning.Unordered)) → Ranking → Walk (Result Ordering meaning.Unordered)
    ranked equal order (rankings.Decided o) = answers (Ok o)
    ranked equal order (rankings.Items m n) =
        order_items equal order (map (plain texts tuples) (items_in tuples heap a)) (map (plain texts tuples) (items_in tuples heap b))
    ranked equal order rankings.Unordered = answers (Err (record { left = plain texts tuples a; right = plain texts tuples b }))

    -- as many items as there are on either side
    abbrev pub IsRanking : Ranking → Type 0
    IsRanking (rankings.Items m n) = (m ≡ length (items_in tuples heap a)) × (n ≡ length (items_in tuples heap b))
    IsRanking _ = Unit {0}

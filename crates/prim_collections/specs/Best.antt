-- The best of values, and the values that are compared.
use Rattle.std.specs.Prelude.{ℕ, ◌^◌, ◌<◌, List, [], ◌∷◌, length, All, Option, Result, Ok, Err}
use Rattle.prim_builtins.specs.mpy_base.declared.builtin.Builtin.{Builtin}
use Rattle.prim_builtins.specs.mpy_base.declared.builtin.Builtin.TheVariants as builtins
use Rattle.prim_builtins.specs.mpy_base.World.{Heap, Objects}
use Rattle.prim_builtins.specs.mpy_base.Val.{Val, Nil}
use Rattle.prim_builtins.specs.arena_heap.declared.value.Value.{Value}
use Rattle.prim_builtins.specs.arena_heap.declared.value.StrNo.{StrNo}
use Rattle.prim_builtins.specs.arena_heap.declared.value.ConstNo.{ConstNo}
use Rattle.prim_builtins.specs.arena_objects.Iterables.{items_in}
use Rattle.prim_builtins.specs.py_values.Shown.{PlainHeap}
use Rattle.prim_builtins.specs.py_values.Equality.{Walk, answers, visit}
use Rattle.prim_builtins.specs.py_primitives.Order as plain
use Rattle.prim_builtins.specs.py_primitives.Order.{Sign, best_from}
use Rattle.prim_builtins.specs.prim_walks.Plain.{plain as plain_value}
use Rattle.prim_builtins.specs.prim_walks.Orders.{plain_unordered, BothLead}
use Rattle.prim_builtins.specs.prim_walks.declared.orders.Unordered.{Unordered}
use Rattle.prim_builtins.specs.prim_faults.Faults.{IsKnown}
use Rattle.prim_collections.specs.declared.extreme.Extreme.{Extreme}
use Rattle.prim_collections.specs.declared.extreme.Extreme.TheVariants as extremes
use Rattle.prim_collections.specs.declared.candidates.Candidates.{Candidates}
use Rattle.prim_collections.specs.declared.candidates.Candidates.TheVariants as candidates

-- the sign by which a value is better than another one
abbrev pub plain_extreme : Extreme → Sign
plain_extreme extremes.Least = plain.Below
plain_extreme extremes.Greatest = plain.Above

-- the walk to the best of values, of which there is one at least
abbrev pub best_among : PlainHeap → Sign → List Val → Walk (Result Val plain.Unordered)
best_among heap sign [] = answers (Ok Nil)
best_among heap sign (v ∷ vs) = visit (best_from heap sign (Ok v) vs)

-- the values that are compared
abbrev pub values_of : (ConstNo → Option (List Value)) → Heap Value ℕ → Candidates → List Value
values_of tuples heap (candidates.Items over) = items_in tuples heap over
values_of tuples heap (candidates.Arguments args) = args.now

module _ (texts : StrNo → Option (List ℕ)) (tuples : ConstNo → Option (List Value)) where
  -- the values that are compared are known
  abbrev pub AreKnown : Objects Value ℕ → Candidates → Type 0
  AreKnown objects (candidates.Items over) = IsKnown texts tuples objects over
  AreKnown objects (candidates.Arguments args) = All (IsKnown texts tuples objects) args.now × (length args.now < 2 ^ 32)

  -- the best value, or two values that have no order, as the meaning has them
  abbrev pub plain_best : Result Value Unordered → Result Val plain.Unordered
  plain_best (Ok v) = Ok (plain_value texts tuples v)
  plain_best (Err e) = Err (plain_unordered texts tuples e)

  -- the best value is known, or the two values that have no order are
  abbrev pub IsKnownBest : Objects Value ℕ → Result Value Unordered → Type 0
  IsKnownBest objects (Ok v) = IsKnown texts tuples objects v
  IsKnownBest objects (Err e) = BothLead objects e

-- the built-in that gives it
abbrev pub extreme_builtin : Extreme → Builtin
extreme_builtin extremes.Least = builtins.Min
extreme_builtin extremes.Greatest = builtins.Max

-- The order of values, with its count of visits: one for each pair that is compared, and the first unequal pair of two
-- lists or tuples is visited once more, since its own order decides.
use Rattle.std.specs.Prelude.{ℕ, zero, suc, List, [], ◌∷◌, length, Bool, true, false, Result, Ok, Err, if◌then◌else◌}
use Rattle.std.specs.declared.cmp.Ordering.{Ordering}
use Rattle.std.specs.Ordering.{nat_cmp, int_cmp, is_lt, is_gt, is_le, is_ge}
use Rattle.std.specs.Cmp.Lexicographic.{slice_cmp}
use Rattle.py_values.specs.mpy_base.declared.limits.TheConstants.{MAX_WALK_DEPTH}
use Rattle.py_values.specs.mpy_base.Val.{Val}
use Rattle.py_values.specs.Shown.{PlainHeap, Shown, Number, Text, Tuple, Items, shown}
use Rattle.py_values.specs.Equality.{Walk, answers, goes_too_deep, visit, equal_within}
use Rattle.py_primitives.specs.Walks.{and_then}

-- two values that have no order
pub record Unordered : Type 0 where
  pub left : Val
  pub right : Val

module _ (equal : Val → Val → Walk Bool) (order : Val → Val → Walk (Result Ordering Unordered)) where
  -- the order of the first unequal pair, and of the lengths where there is none
  abbrev pub order_items : List Val → List Val → Walk (Result Ordering Unordered)
  order_items (x ∷ xs) (y ∷ ys) = and_then (equal x y) (elim [ true ↦ order_items xs ys | false ↦ order x y ])
  order_items xs ys = answers (Ok (nat_cmp (length xs) (length ys)))

  -- the order of two values, by what a program can see of them
  abbrev pub order_shown : Val → Val → Shown → Shown → Walk (Result Ordering Unordered)
  order_shown a b (Number x) (Number y) = answers (Ok (int_cmp x y))
  order_shown a b (Text s) (Text t) = answers (Ok (slice_cmp nat_cmp s t))
  order_shown a b (Tuple xs) (Tuple ys) = order_items xs ys
  order_shown a b (Items xs) (Items ys) = order_items xs ys
  order_shown a b _ _ = answers (Err (record { left = a; right = b }))

-- an order that may go that number of levels deep
abbrev pub order_within : PlainHeap → ℕ → Val → Val → Walk (Result Ordering Unordered)
order_within heap zero a b = goes_too_deep
order_within heap (suc depth) a b =
    visit (order_shown (equal_within heap depth) (order_within heap depth) a b (shown heap a) (shown heap b))

-- the order of two values
unfoldable pub order : PlainHeap → Val → Val → Walk (Result Ordering Unordered)
order heap a b = order_within heap MAX_WALK_DEPTH a b

-- the four signs of order
pub data Sign : Type 0 where
  Below Above NotAbove NotBelow : Sign

-- is the order one that the sign asks for?
abbrev pub has_sign : Sign → Ordering → Bool
has_sign Below o = is_lt o
has_sign Above o = is_gt o
has_sign NotAbove o = is_le o
has_sign NotBelow o = is_ge o

-- the first value that no other is below, or above: each value is one visit, besides those of its comparison with the best
-- of those in front of it
module _ (heap : PlainHeap) (sign : Sign) where
  -- the better of a value and the best of those in front of it
  abbrev pub better : Val → Val → Result Ordering Unordered → Result Val Unordered
  better v best (Ok o) = Ok (if has_sign sign o then v else best)
  better v best (Err e) = Err e

  -- the best of values, from the best of those in front of them on
  abbrev pub best_from : Result Val Unordered → List Val → Walk (Result Val Unordered)
  best_from best [] = answers best
  best_from (Ok best) (v ∷ vs) = visit (and_then (order heap v best) (λ found. best_from (better v best found) vs))
  best_from (Err e) (v ∷ vs) = answers (Err e)

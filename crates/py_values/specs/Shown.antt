-- What a program can see of a value: numbers, texts, items, pairs and ranges. Everything else is told apart by identity.
use Rattle.std.specs.Prelude.{ℕ, suc, ◌+◌, ◌-◌, ◌/◌, ℤ, pos, negsuc, ◌-ℤ◌, List, [], ◌∷◌, Bool, true, false, not, ◌&&◌, ◌||◌, Option, Some, nat_eq}
use Rattle.std.specs.Ordering.{int_eq}
use Rattle.mpy_base.specs.World.{Object, ListObject, TupleObject, TextObject, DictObject, RangeObject, Heap, object}
use Rattle.mpy_base.specs.Val.{Val, Nil, Truth, Int, Str, Fixed, Empty, Built, At, vals}

-- the heap that the meaning of a program speaks of
abbrev pub PlainHeap : Type 0
PlainHeap = Heap Val (List ℕ)

-- what a program can see of a value
pub data Shown : Type 0 where
  Nothing : Shown
  Number : ℤ → Shown
  Text : List ℕ → Shown
  Tuple : List Val → Shown
  Items : List Val → Shown
  Pairs : List (Val × Val) → Shown
  Range : (start stop step : ℤ) → Shown
  Other : Shown

-- what a program can see of an object
abbrev pub shown_object : Option (Object Val (List ℕ)) → Shown
shown_object (Some (ListObject items room)) = Items items
shown_object (Some (TupleObject items)) = Tuple items
shown_object (Some (TextObject bytes)) = Text bytes
shown_object (Some (DictObject pairs room)) = Pairs pairs
shown_object (Some (RangeObject start stop step)) = Range start stop step
shown_object _ = Other

-- True counts as 1, and False as 0
abbrev pub number_of_truth : Bool → ℤ
number_of_truth true = pos 1
number_of_truth false = pos 0

-- what a program can see of a value in this heap
abbrev pub shown : PlainHeap → Val → Shown
shown heap Nil = Nothing
shown heap (Truth b) = Number (number_of_truth b)
shown heap (Int z) = Number z
shown heap (Str bytes) = Text bytes
shown heap (Fixed items) = Tuple (vals items)
shown heap Empty = Tuple []
shown heap (Built b) = Other
shown heap (At n) = shown_object (object heap.objects n)

-- ranges
-- ======

-- a number where it is no less than 0, and 0 below
abbrev pub at_least_zero : ℤ → ℕ
at_least_zero (pos n) = n
at_least_zero (negsuc n) = 0

-- how many numbers a range has: the steps from its start to its stop, a cut one among them
abbrev pub range_len : ℤ → ℤ → ℤ → ℕ
range_len start stop (pos step) = (at_least_zero (stop -ℤ start) + (step - 1)) / step
range_len start stop (negsuc step) = (at_least_zero (start -ℤ stop) + step) / suc step

-- do two ranges give the same numbers?
abbrev pub is_same_range : ℤ → ℤ → ℤ → ℤ → ℤ → ℤ → Bool
is_same_range start stop step start' stop' step' =
    let len = range_len start stop step
    in nat_eq len (range_len start' stop' step')
    && (nat_eq len 0 || (int_eq start start' && (nat_eq len 1 || int_eq step step')))

-- truth
-- =====

-- is there no element?
abbrev pub is_empty : {A : Type 0} → List A → Bool
is_empty [] = true
is_empty (x ∷ xs) = false

-- None, 0 and what holds nothing are false, and all else is true
abbrev pub shown_truth : Shown → Bool
shown_truth Nothing = false
shown_truth (Number z) = not (int_eq z (pos 0))
shown_truth (Text bytes) = not (is_empty bytes)
shown_truth (Tuple items) = not (is_empty items)
shown_truth (Items items) = not (is_empty items)
shown_truth (Pairs pairs) = not (is_empty pairs)
shown_truth (Range start stop step) = not (nat_eq (range_len start stop step) 0)
shown_truth Other = true

-- is the value true?
abbrev pub truth : PlainHeap → Val → Bool
truth heap v = shown_truth (shown heap v)

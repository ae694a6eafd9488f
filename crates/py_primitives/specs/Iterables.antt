-- Iterables: strs, tuples, lists, dicts (their keys) and ranges.
use Rattle.std.specs.Prelude.{ℕ, suc, ◌-◌, ℤ, pos, negsuc, ◌+ℤ◌, ◌*ℤ◌, List, [], ◌∷◌, length, map, Option, Some, None, nat_lt}
use Rattle.std.specs.Prelude.{slice_get, slice_index, if◌then◌else◌}
use Rattle.std.specs.List.{range_with_len}
use Rattle.py_values.specs.mpy_base.Val.{Val, Nil, Int, Str}
use Rattle.py_values.specs.Shown.{PlainHeap, Shown, Text, Tuple, Items, Pairs, Range, range_len, shown}
use Rattle.py_values.specs.Names.{type_name}
use Rattle.py_primitives.specs.Faults.{NotIterable}
use Rattle.py_primitives.specs.Outcome.{Outcome, gives, raises, making_text, making_texts}

-- the number of a range at a place
abbrev pub range_number : ℤ → ℤ → ℕ → ℤ
range_number start step at = start +ℤ pos at *ℤ step

-- the numbers of a range
abbrev pub range_numbers : ℤ → ℤ → ℤ → List Val
range_numbers start stop step = map (λ at. Int (range_number start step at)) (range_with_len 0 (range_len start stop step))

-- a str of one byte
abbrev pub letter : ℕ → Val
letter byte = Str (byte ∷ [])

-- the items as they are looked at, which makes nothing
abbrev pub shown_items : Shown → Option (List Val)
shown_items (Text bytes) = Some (map letter bytes)
shown_items (Tuple items) = Some items
shown_items (Items items) = Some items
shown_items (Pairs pairs) = Some (map (λ pair. pair.0) pairs)
shown_items (Range start stop step) = Some (range_numbers start stop step)
shown_items _ = None

-- the items of a value, if it is an iterable
abbrev pub items_in : PlainHeap → Val → Option (List Val)
items_in heap v = shown_items (shown heap v)

-- how many items there are of what a program can see
abbrev pub shown_length : Shown → ℕ
shown_length (Text bytes) = length bytes
shown_length (Tuple items) = length items
shown_length (Items items) = length items
shown_length (Pairs pairs) = length pairs
shown_length (Range start stop step) = range_len start stop step
shown_length _ = 0

-- how many items an iterable has
abbrev pub length_of : PlainHeap → Val → ℕ
length_of heap v = shown_length (shown heap v)

-- the value, or None where there is none
abbrev pub or_nil : Option Val → Val
or_nil (Some v) = v
or_nil None = Nil

-- the item of an iterable at a place that is there. That of a str is made
abbrev pub shown_item : PlainHeap → ℕ → Shown → Outcome Val
shown_item heap at (Text bytes) = making_text heap (slice_index bytes at ∷ [])
shown_item heap at (Tuple items) = gives (or_nil (slice_get items at)) heap
shown_item heap at (Items items) = gives (or_nil (slice_get items at)) heap
shown_item heap at (Pairs pairs) = gives (or_nil (slice_get (map (λ pair. pair.0) pairs) at)) heap
shown_item heap at (Range start stop step) = gives (Int (range_number start step at)) heap
shown_item heap at _ = gives Nil heap

-- the item of an iterable at a place
abbrev pub item_of : PlainHeap → Val → ℕ → Outcome Val
item_of heap v at = shown_item heap at (shown heap v)

-- what follows on the items of an iterable, and a fault for any other value
abbrev pub over_items : {A : Type 0} → PlainHeap → Val → Option (List Val) → (List Val → Outcome A) → Outcome A
over_items heap v (Some items) next = next items
over_items heap v None next = raises (NotIterable (type_name heap v)) heap

-- what follows on the items of an iterable
abbrev pub iterating : {A : Type 0} → PlainHeap → Val → (List Val → Outcome A) → Outcome A
iterating heap v next = over_items heap v (items_in heap v) next

-- an iterable itself
abbrev pub use_iter : PlainHeap → Val → Outcome Val
use_iter heap v = iterating heap v (λ items. gives v heap)

-- the items as they are kept: those of a str are made, from the first to the last
abbrev pub kept_items : PlainHeap → List Val → Shown → Outcome (List Val)
kept_items heap items (Text bytes) = making_texts heap (map (λ byte. byte ∷ []) bytes)
kept_items heap items _ = gives items heap

-- places
-- ======

-- the place that an index names: a negative one counts from the end
abbrev pub place_at : ℕ → ℤ → Option ℕ
place_at len (pos i) = if nat_lt i len then Some i else None
place_at len (negsuc i) = if nat_lt i len then Some (len - suc i) else None

-- the place in front of which an item is put: past either end it is that end
abbrev pub place_before : ℕ → ℤ → ℕ
place_before len (pos i) = if nat_lt i len then i else len
place_before len (negsuc i) = len - suc i

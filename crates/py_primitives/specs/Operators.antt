-- Operators.
use Rattle.std.specs.Prelude.{ℕ, suc, ℤ, pos, neg_ℤ, ◌+ℤ◌, ◌-ℤ◌, ◌*ℤ◌, List, [], ◌∷◌, ◌++◌, length, Bool, true, false, not, ◌&&◌}
use Rattle.std.specs.Prelude.{Option, Some, None, is_some, option_and_then, Result, Ok, Err, nat_eq, bytes_eq, codes}
use Rattle.std.specs.Prelude.{if◌then◌else◌}
use Rattle.std.specs.List.{repeat, list_any, starts_with, range_with_len}
use Rattle.std.specs.Option.{option_map}
use Rattle.std.specs.declared.cmp.Ordering.{Ordering}
use Rattle.std.specs.Ordering.{int_eq}
use Rattle.py_values.specs.mpy_base.declared.kind.Kind.{Kind}
use Rattle.py_values.specs.mpy_base.Kind.{parent_of, kind_name}
use Rattle.py_values.specs.mpy_base.World.{Object, ExceptionObject, items_at, object, with_list}
use Rattle.py_values.specs.mpy_base.Weights.{does_fit, list_growth, with_list_room}
use Rattle.py_values.specs.mpy_base.Val.{Val, Vals, Only, Then, Truth, Int, Fixed, Empty, Built, At}
use Rattle.py_values.specs.declared.small_int.NumFault.{NumFault}
use Rattle.py_values.specs.Small.{checked}
use Rattle.py_values.specs.Division.{floor_div_of, modulo_of}
use Rattle.py_values.specs.Shifts.{shl_of, shr_of}
use Rattle.py_values.specs.Power.{power_of}
use Rattle.py_values.specs.Bits.{int_and, int_or, int_xor}
use Rattle.py_values.specs.Shown.{PlainHeap, Shown, Number, Text, Tuple, Items, Pairs, Range, range_len, at_least_zero, shown, truth}
use Rattle.py_values.specs.Keys.{key_of, value_of_key}
use Rattle.py_values.specs.Names.{type_name}
use Rattle.py_values.specs.Equality.{Walk, answers, is_same, equal}
use Rattle.py_primitives.specs.Walks.{and_then}
use Rattle.py_primitives.specs.Builtins.{kind_in}
use Rattle.py_primitives.specs.Order.{Sign, Below, Above, NotAbove, NotBelow, has_sign, Unordered, order}
use Rattle.py_primitives.specs.Faults.{Unsupported, UnsupportedOne, UnsupportedMatch, Arithmetic}
use Rattle.py_primitives.specs.Outcome.{Outcome, gives, raises, is_full, with_visits, followed_by, after_walk, making_text, making_tuple, making_list}
use Rattle.py_primitives.specs.Iterables.{iterating, kept_items, range_number}

-- operators over two numbers, of which some are of sequences too
pub data Operator : Type 0 where
  Or Xor And ShiftLeft ShiftRight Add Subtract Multiply FloorDivide Modulo Power : Operator

-- the method that a fault names
abbrev pub operator_method : Operator → List ℕ
operator_method Or = codes "__or__"
operator_method Xor = codes "__xor__"
operator_method And = codes "__and__"
operator_method ShiftLeft = codes "__lshift__"
operator_method ShiftRight = codes "__rshift__"
operator_method Add = codes "__add__"
operator_method Subtract = codes "__sub__"
operator_method Multiply = codes "__mul__"
operator_method FloorDivide = codes "__floordiv__"
operator_method Modulo = codes "__mod__"
operator_method Power = codes "__pow__"

-- the method of a sign of order
abbrev pub sign_method : Sign → List ℕ
sign_method Below = codes "__lt__"
sign_method Above = codes "__gt__"
sign_method NotAbove = codes "__le__"
sign_method NotBelow = codes "__ge__"

-- numbers
-- =======

-- what an operator gives of two numbers
abbrev pub number_answer : Operator → ℤ → ℤ → Result ℤ NumFault
number_answer Or a b = checked (int_or a b)
number_answer Xor a b = checked (int_xor a b)
number_answer And a b = checked (int_and a b)
number_answer ShiftLeft a b = shl_of a b
number_answer ShiftRight a b = shr_of a b
number_answer Add a b = checked (a +ℤ b)
number_answer Subtract a b = checked (a -ℤ b)
number_answer Multiply a b = checked (a *ℤ b)
number_answer FloorDivide a b = floor_div_of a b
number_answer Modulo a b = modulo_of a b
number_answer Power a b = power_of a b

-- a number that was computed, or its fault
abbrev pub gives_number : PlainHeap → Result ℤ NumFault → Outcome Val
gives_number heap (Ok z) = gives (Int z) heap
gives_number heap (Err fault) = raises (Arithmetic fault) heap

-- arithmetic, and sequences that are joined and repeated
-- ======================================================

-- the fault that the operator of this method takes no such operands
abbrev pub unsupported : {A : Type 0} → PlainHeap → List ℕ → Val → Val → Outcome A
unsupported heap method a b = raises (Unsupported method (type_name heap a) (type_name heap b)) heap

-- what an operator gives of two operands, by what a program can see of them
abbrev pub binary_shown : PlainHeap → Operator → Val → Val → Shown → Shown → Outcome Val
binary_shown heap op a b (Number x) (Number y) = gives_number heap (number_answer op x y)
binary_shown heap Add a b (Text s) (Text t) = making_text heap (s ++ t)
binary_shown heap Add a b (Tuple xs) (Tuple ys) = making_tuple heap (xs ++ ys)
binary_shown heap Add a b (Items xs) (Items ys) = making_list heap (xs ++ ys)
binary_shown heap Multiply a b (Text s) (Number n) = making_text heap (repeat (at_least_zero n) s)
binary_shown heap Multiply a b (Number n) (Text s) = making_text heap (repeat (at_least_zero n) s)
binary_shown heap Multiply a b (Tuple xs) (Number n) = making_tuple heap (repeat (at_least_zero n) xs)
binary_shown heap Multiply a b (Number n) (Tuple xs) = making_tuple heap (repeat (at_least_zero n) xs)
binary_shown heap Multiply a b (Items xs) (Number n) = making_list heap (repeat (at_least_zero n) xs)
binary_shown heap Multiply a b (Number n) (Items xs) = making_list heap (repeat (at_least_zero n) xs)
binary_shown heap op a b _ _ = unsupported heap (operator_method op) a b

-- an operator with two operands
abbrev pub binary : PlainHeap → Operator → Val → Val → Outcome Val
binary heap op a b = binary_shown heap op a b (shown heap a) (shown heap b)

-- a list that takes the items of an iterable: each is one visit, then its room is taken, then texts are made for those of a
-- str, and then it has them
abbrev pub extended_by : PlainHeap → ℕ → Val → List Val → Outcome Val
extended_by heap list v items =
    let total = length (items_at heap list ++ items) in
    with_visits (length items) (
    if does_fit heap (list_growth heap list total) 0
    then followed_by (kept_items (with_list_room heap list total) items (shown heap v))
    (λ kept behind. gives (At list) (with_list behind list (items_at heap list ++ kept)))
    else is_full heap (list_growth heap list total) 0)

-- a list takes the items of an iterable
abbrev pub extend : PlainHeap → ℕ → Val → Outcome Val
extend heap list v = iterating heap v (extended_by heap list v)

-- in place only a list differs under `+`, which it takes any iterable by
abbrev pub in_place_shown : PlainHeap → Operator → Val → Val → Shown → Outcome Val
in_place_shown heap Add (At n) b (Items items) = extend heap n b
in_place_shown heap op a b _ = binary heap op a b

-- an operator in place
abbrev pub in_place : PlainHeap → Operator → Val → Val → Outcome Val
in_place heap op a b = in_place_shown heap op a b (shown heap a)

-- one operand
-- ===========

-- the operators with one operand, but `not`
pub data UnaryOperator : Type 0 where
  Plus Minus Invert : UnaryOperator

-- the method that a fault names
abbrev pub unary_method : UnaryOperator → List ℕ
unary_method Plus = codes "__pos__"
unary_method Minus = codes "__neg__"
unary_method Invert = codes "__invert__"

-- what an operator gives of a number
abbrev pub unary_answer : UnaryOperator → ℤ → Result ℤ NumFault
unary_answer Plus z = Ok z
unary_answer Minus z = checked (neg_ℤ z)
unary_answer Invert z = checked (neg_ℤ z -ℤ pos 1)

-- what an operator gives of an operand, by what a program can see of it
abbrev pub unary_shown : PlainHeap → UnaryOperator → Val → Shown → Outcome Val
unary_shown heap op v (Number z) = gives_number heap (unary_answer op z)
unary_shown heap op v _ = raises (UnsupportedOne (unary_method op) (type_name heap v)) heap

-- an operator with one operand
abbrev pub unary : PlainHeap → UnaryOperator → Val → Outcome Val
unary heap op v = unary_shown heap op v (shown heap v)

-- `not`
abbrev pub unary_not : PlainHeap → Val → Outcome Val
unary_not heap v = gives (Truth (not (truth heap v))) heap

-- comparisons
-- ===========

-- `==`
abbrev pub op_eq : PlainHeap → Val → Val → Outcome Val
op_eq heap a b = after_walk heap (equal heap a b) (λ same. gives (Truth same) heap)

-- `!=`
abbrev pub op_ne : PlainHeap → Val → Val → Outcome Val
op_ne heap a b = after_walk heap (equal heap a b) (λ same. gives (Truth (not same)) heap)

-- whether the order has the sign, and a fault for two values that have none
abbrev pub gives_order : PlainHeap → Sign → Result Ordering Unordered → Outcome Val
gives_order heap sign (Ok o) = gives (Truth (has_sign sign o)) heap
gives_order heap sign (Err e) = unsupported heap (sign_method sign) e.left e.right

-- `<`, `>`, `<=` and `>=`
abbrev pub op_order : PlainHeap → Sign → Val → Val → Outcome Val
op_order heap sign a b = after_walk heap (order heap a b) (gives_order heap sign)

-- are two values one, by what a program can see of them? Strs of the same bytes are
abbrev pub is_one_shown : Val → Val → Shown → Shown → Bool
is_one_shown a b (Text s) (Text t) = bytes_eq s t
is_one_shown a b _ _ = is_same a b

-- `is`: numbers and bools of one type by value, strs by bytes, constant tuples with items item by item, and all else by
-- identity. Two empty tuples are one
abbrev mutual
  pub is_one : PlainHeap → Val → Val → Bool
  is_one heap (Truth true) (Truth b) = b
  is_one heap (Truth false) (Truth b) = not b
  is_one heap (Int y) (Int z) = int_eq y z
  is_one heap (Fixed xs) (Fixed ys) = are_one heap xs ys
  is_one heap Empty Empty = true
  is_one heap a b = is_one_shown a b (shown heap a) (shown heap b)

  pub are_one : PlainHeap → Vals → Vals → Bool
  are_one heap (Only v) (Only w) = is_one heap v w
  are_one heap (Then v vs) (Then w ws) = is_one heap v w && are_one heap vs ws
  are_one heap _ _ = false

-- `is`
abbrev pub op_is : PlainHeap → Val → Val → Outcome Val
op_is heap a b = gives (Truth (is_one heap a b)) heap

-- an item that equals the value, up to the first one
abbrev pub contains_equal : PlainHeap → Val → List Val → Walk Bool
contains_equal heap v [] = answers false
contains_equal heap v (item ∷ items) = and_then (equal heap item v) (elim [ true ↦ answers true | false ↦ contains_equal heap v items ])

-- does the one text stand in the other?
abbrev pub is_part : List ℕ → List ℕ → Bool
is_part part [] = starts_with nat_eq [] part
is_part part (byte ∷ bytes) = if starts_with nat_eq (byte ∷ bytes) part then true else is_part part bytes

-- is a number one of a range's?
abbrev pub is_in_range : ℤ → ℤ → ℤ → ℤ → Bool
is_in_range z start stop step = list_any (λ at. int_eq z (range_number start step at)) (range_with_len 0 (range_len start stop step))

-- what follows where the value may be a key
abbrev pub with_key_of : {A : Type 0} → PlainHeap → Val → Outcome A → Outcome A
with_key_of heap key next =
    if is_some (key_of heap key) then next else raises (UnsupportedOne (codes "__hash__") (type_name heap key)) heap

-- what `in` gives, by what a program can see of the operands
abbrev pub contains_shown : PlainHeap → Val → Val → Shown → Shown → Outcome Val
contains_shown heap v container it (Tuple items) = after_walk heap (contains_equal heap v items) (λ found. gives (Truth found) heap)
contains_shown heap v container it (Items items) = after_walk heap (contains_equal heap v items) (λ found. gives (Truth found) heap)
contains_shown heap v container it (Pairs pairs) = with_key_of heap v (gives (Truth (is_some (value_of_key heap pairs v))) heap)
contains_shown heap v container (Number z) (Range start stop step) = gives (Truth (is_in_range z start stop step)) heap
contains_shown heap v container it (Range start stop step) = gives (Truth false) heap
contains_shown heap v container (Text part) (Text bytes) = gives (Truth (is_part part bytes)) heap
contains_shown heap v container it _ = unsupported heap (codes "__contains__") container v

-- `v in container`
abbrev pub op_contains : PlainHeap → Val → Val → Outcome Val
op_contains heap v container = contains_shown heap v container (shown heap v) (shown heap container)

-- exceptions and types
-- ====================

-- a kind and those above it, that number at most. There are four at most
abbrev pub lineage : ℕ → Option Kind → List Kind
lineage (suc n) (Some kind) = kind ∷ lineage n (parent_of kind)
lineage _ _ = []

-- are the two kinds one?
abbrev pub is_kind : Kind → Kind → Bool
is_kind kind other = bytes_eq (kind_name kind) (kind_name other)

-- is a kind this one, or below it in the tree?
abbrev pub is_under : Kind → Kind → Bool
is_under kind other = list_any (is_kind other) (lineage 4 (Some kind))

-- the kind of an exception
abbrev pub raised_kind : Option (Object Val (List ℕ)) → Option Kind
raised_kind (Some (ExceptionObject kind args file line name)) = Some kind
raised_kind _ = None

-- the kind of an exception that was made
abbrev pub exception_kind : PlainHeap → Val → Option Kind
exception_kind heap (At n) = raised_kind (object heap.objects n)
exception_kind heap _ = None

-- the kind that a value is
abbrev pub named_kind : Val → Option Kind
named_kind (Built b) = kind_in b
named_kind _ = None

-- one value, or the items of a tuple
abbrev pub members : Val → Shown → List Val
members v (Tuple items) = items
members v _ = v ∷ []

-- all of them, where each is something
abbrev pub all_of : {A : Type 0} → (Val → Option A) → List Val → Option (List A)
all_of f [] = Some []
all_of f (v ∷ vs) = option_and_then (λ x. option_map (λ xs. x ∷ xs) (all_of f vs)) (f v)

-- is the kind one of these, or below one?
abbrev pub match_kinds : PlainHeap → Option Kind → Option (List Kind) → Outcome Val
match_kinds heap (Some kind) (Some kinds) = gives (Truth (list_any (is_under kind) kinds)) heap
match_kinds heap _ _ = raises UnsupportedMatch heap

-- does a handler of this kind, or of one of a tuple of kinds, take the exception?
abbrev pub op_match : PlainHeap → Val → Val → Outcome Val
op_match heap e kinds = match_kinds heap (exception_kind heap e) (all_of named_kind (members kinds (shown heap kinds)))

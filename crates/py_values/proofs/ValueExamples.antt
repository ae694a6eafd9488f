-- Values computed from their definitions.
use Rattle.std.proofs.Common.{◌≡◌, ℕ, List, [], ◌∷◌, codes, refl, true, false, Some, None, pos, negsuc}
use Rattle.mpy_base.specs.World.{ListObject, RangeObject, Object}
use Rattle.mpy_base.specs.Val.{Val, Nil, Truth, Int, Str, At}
use Rattle.py_values.specs.Shown.{PlainHeap, truth, range_len, is_same_range}
use Rattle.py_values.specs.Names.{type_name}
use Rattle.py_values.specs.Keys.{with_key, value_of_key}
use Rattle.py_values.specs.Equality.{equal}

abbrev one_object : Object Val (List ℕ) → PlainHeap
one_object o = record { objects = Some o ∷ []; bytes = 0; cell_size = 100; byte_size = 100 }

abbrev two_lists : List Val → List Val → PlainHeap
two_lists xs ys = record {
  objects = Some (ListObject xs 4) ∷ Some (ListObject ys 4) ∷ [];
  bytes = 0;
  cell_size = 100;
  byte_size = 100;
}

abbrev no_objects : PlainHeap
no_objects = record { objects = []; bytes = 0; cell_size = 0; byte_size = 0 }

-- range(0, 5, 2) and range(0, 6, 2) have 0, 2 and 4
three_numbers : range_len (pos 0) (pos 5) (pos 2) ≡ 3
three_numbers = refl

same_numbers : is_same_range (pos 0) (pos 5) (pos 2) (pos 0) (pos 6) (pos 2) ≡ true
same_numbers = refl

-- range(5, 0, -2) has 5, 3 and 1
downwards : range_len (pos 5) (pos 0) (negsuc 1) ≡ 3
downwards = refl

-- True == 1 is true, by one visit
truth_is_one : equal no_objects (Truth true) (Int (pos 1)) ≡ record { answer = Some true; visits = 1 }
unfolding equal
truth_is_one = refl

-- [1, 2] == [1, 3] is false, by three visits
differ_at_last : equal (two_lists (Int (pos 1) ∷ Int (pos 2) ∷ []) (Int (pos 1) ∷ Int (pos 3) ∷ [])) (At 0) (At 1) ≡ record { answer = Some false; visits = 3 }
unfolding equal
differ_at_last = refl

-- [1, 2] == [1] is false at once
differ_in_length : equal (two_lists (Int (pos 1) ∷ Int (pos 2) ∷ []) (Int (pos 1) ∷ [])) (At 0) (At 1) ≡ record { answer = Some false; visits = 1 }
unfolding equal
differ_in_length = refl

-- a list that holds itself can't be compared with itself: 32 visits, and no answer
holds_itself : equal (one_object (ListObject (At 0 ∷ []) 4)) (At 0) (At 0) ≡ record { answer = None; visits = 32 }
unfolding equal
holds_itself = refl

-- the first spelling of a key stays
first_spelling : with_key no_objects ((Truth true, Nil) ∷ []) (Int (pos 1)) (Str (codes "a")) ≡ (Truth true, Str (codes "a")) ∷ []
first_spelling = refl

-- "1" is another key
another_key : value_of_key no_objects ((Int (pos 1), Nil) ∷ []) (Str (codes "1")) ≡ None
another_key = refl

empty_range_is_false : truth (one_object (RangeObject (pos 3) (pos 3) (pos 1))) (At 0) ≡ false
empty_range_is_false = refl

range_name : type_name (one_object (RangeObject (pos 3) (pos 3) (pos 1))) (At 0) ≡ codes "range"
range_name = refl

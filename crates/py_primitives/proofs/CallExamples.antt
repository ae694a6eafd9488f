-- A table of calls, with what each gives: the repr of its value, or the kind and the text of its fault, then its visits and the
-- cells that it took.
use Rattle.std.proofs.Common.{◌≡◌, ℕ, ◌-◌, List, [], ◌∷◌, ◌++◌, codes, Option, refl, true, false, Some, None, Result, Ok, Err, pos, negsuc}
use Rattle.std.specs.Fmt.{digits}
use Rattle.py_values.specs.mpy_base.declared.builtin.Builtin.TheVariants as builtins
use Rattle.py_values.specs.mpy_base.declared.kind.Kind.TheVariants as kinds
use Rattle.py_values.specs.mpy_base.Kind.{kind_name}
use Rattle.py_values.specs.mpy_base.World.{ListObject, TupleObject, TextObject, DictObject, ExceptionObject, RangeObject}
use Rattle.py_values.specs.mpy_base.Weights.{used}
use Rattle.py_values.specs.mpy_base.Val.{Val, Nil, Truth, Int, Str, Fixed, Only, Then, Empty, Built, At}
use Rattle.py_values.specs.Small.{checked}
use Rattle.py_values.specs.Power.{power}
use Rattle.py_values.specs.Shown.{PlainHeap}
use Rattle.py_values.specs.Equality.{equal}
use Rattle.py_primitives.specs.Texts.{str_of, repr_of}
use Rattle.py_primitives.specs.Order.{Below, Above, NotAbove, NotBelow, order}
use Rattle.py_primitives.specs.Faults.{fault_kind, fault_text}
use Rattle.py_primitives.specs.Outcome.{Outcome, Stop, Raises, Full}
use Rattle.py_primitives.specs.Operators.{binary, in_place, unary, unary_not, Or, Xor, And, ShiftLeft, ShiftRight, Add, Subtract, Multiply, FloorDivide, Modulo, Power, Plus, Minus, Invert, op_eq, op_ne, op_order, op_is, op_match, op_contains}
use Rattle.py_primitives.specs.Uses.{get_item, set_item, delete_item, get_attr, set_attr}
use Rattle.py_primitives.specs.Calls.{call}
use Rattle.py_primitives.specs.Methods.{call_method}

-- [1, 2, 3], {1: 'a', 'k': None}, [], range(0, 10, 3), 'made', (1, 2), ValueError(1, 2), and a list that holds itself
abbrev heap : PlainHeap
heap = record {
  objects = Some (ListObject (Int (pos 1) ∷ Int (pos 2) ∷ Int (pos 3) ∷ []) 4)
      ∷ Some (DictObject ((Int (pos 1), Str (codes "a")) ∷ (Str (codes "k"), Nil) ∷ []) 4)
      ∷ Some (ListObject [] 4)
      ∷ Some (RangeObject (pos 0) (pos 10) (pos 3))
      ∷ Some (TextObject (codes "made"))
      ∷ Some (TupleObject (Int (pos 1) ∷ Int (pos 2) ∷ []))
      ∷ Some (ExceptionObject kinds.ValueError (At 5) [] 0 [])
      ∷ Some (ListObject (At 7 ∷ []) 4)
      ∷ [];
  bytes = 0;
  cell_size = 1000;
  byte_size = 1000;
}

abbrev text_or_deep : Option (List ℕ) → List ℕ
text_or_deep (Some text) = text
text_or_deep None = codes "<deep>"

abbrev answer_text : PlainHeap → Result Val Stop → List ℕ
answer_text behind (Ok v) = text_or_deep (repr_of behind v).answer
answer_text behind (Err (Raises fault)) = kind_name (fault_kind fault) ++ codes ": " ++ fault_text fault
answer_text behind (Err (Full e)) = codes "full"

abbrev told : Outcome Val → List ℕ × ℕ × ℕ
told outcome = (answer_text outcome.heap outcome.answer, outcome.visits, used outcome.heap - used heap)

numbers :
    told (binary heap FloorDivide (Int (negsuc 6)) (Int (pos 2)))
    ∷ told (binary heap Modulo (Int (pos 7)) (Int (negsuc 1)))
    ∷ told (binary heap Power (Int (pos 3)) (Int (pos 18)))
    ∷ told (binary heap Power (Int (pos 2)) (Int (negsuc 0)))
    ∷ told (binary heap ShiftLeft (Int (pos 1)) (Int (pos 30)))
    ∷ told (binary heap ShiftRight (Int (negsuc 4)) (Int (pos 1)))
    ∷ told (binary heap And (Int (negsuc 7)) (Int (pos 12)))
    ∷ told (binary heap Xor (Truth true) (Int (pos 3)))
    ∷ told (binary heap Subtract (Int (negsuc 1073741823)) (Int (pos 1)))
    ∷ told (binary heap Modulo (Int (pos 5)) (Truth false))
    ∷ told (binary heap ShiftLeft (Int (pos 1)) (Int (negsuc 0)))
    ∷ told (binary heap Or (Str (codes "a")) (Int (pos 1)))
    ∷ []
    ≡ (codes "-4", 0, 0)
    ∷ (codes "-1", 0, 0)
    ∷ (codes "387420489", 0, 0)
    ∷ (codes "ValueError: negative power with no float support", 0, 0)
    ∷ (codes "OverflowError: small int overflow", 0, 0)
    ∷ (codes "-3", 0, 0)
    ∷ (codes "8", 0, 0)
    ∷ (codes "2", 0, 0)
    ∷ (codes "OverflowError: small int overflow", 0, 0)
    ∷ (codes "ZeroDivisionError: divide by zero", 0, 0)
    ∷ (codes "ValueError: negative shift count", 0, 0)
    ∷ (codes "TypeError: unsupported types for __or__: 'str', 'int'", 0, 0)
    ∷ []
unfolding str_of repr_of equal order checked power digits
numbers = refl

sequences :
    told (binary heap Add (Str (codes "ab")) (At 4))
    ∷ told (binary heap Add (At 0) (At 0))
    ∷ told (binary heap Add (At 5) (Empty))
    ∷ told (binary heap Multiply (At 0) (Int (pos 2)))
    ∷ told (binary heap Multiply (Int (negsuc 0)) (At 0))
    ∷ told (binary heap Multiply (Str (codes "ab")) (Int (pos 3)))
    ∷ told (binary heap Multiply (Int (pos 0)) (At 5))
    ∷ told (binary heap Multiply (Truth true) (Str (codes "x")))
    ∷ told (binary heap Add (At 0) (At 5))
    ∷ told (binary heap Multiply (At 1) (Int (pos 2)))
    ∷ told (binary heap Multiply (Str []) (Int (pos 5)))
    ∷ told (binary heap Subtract (Str (codes "a")) (Str (codes "b")))
    ∷ []
    ≡ (codes "'abmade'", 0, 2)
    ∷ (codes "[1, 2, 3, 1, 2, 3]", 0, 11)
    ∷ (codes "(1, 2)", 0, 3)
    ∷ (codes "[1, 2, 3, 1, 2, 3]", 0, 11)
    ∷ (codes "[]", 0, 7)
    ∷ (codes "'ababab'", 0, 2)
    ∷ (codes "()", 0, 0)
    ∷ (codes "'x'", 0, 2)
    ∷ (codes "TypeError: unsupported types for __add__: 'list', 'tuple'", 0, 0)
    ∷ (codes "TypeError: unsupported types for __mul__: 'dict', 'int'", 0, 0)
    ∷ (codes "''", 0, 0)
    ∷ (codes "TypeError: unsupported types for __sub__: 'str', 'str'", 0, 0)
    ∷ []
unfolding str_of repr_of equal order checked power digits
sequences = refl

in_places :
    told (in_place heap Add (At 0) (Str (codes "ab")))
    ∷ told (in_place heap Add (At 0) (At 3))
    ∷ told (in_place heap Add (At 2) (At 1))
    ∷ told (in_place heap Add (At 0) (Int (pos 5)))
    ∷ told (in_place heap Add (Int (pos 5)) (At 0))
    ∷ told (in_place heap Multiply (At 2) (Int (pos 3)))
    ∷ told (in_place heap Add (At 7) (At 7))
    ∷ told (in_place heap Add (At 0) (Empty))
    ∷ []
    ≡ (codes "[1, 2, 3, 'a', 'b']", 2, 12)
    ∷ (codes "[1, 2, 3, 0, 3, 6, 9]", 4, 8)
    ∷ (codes "[1, 'k']", 2, 0)
    ∷ (codes "TypeError: 'int' object isn't iterable", 0, 0)
    ∷ (codes "TypeError: unsupported types for __add__: 'int', 'list'", 0, 0)
    ∷ (codes "[]", 0, 7)
    ∷ (codes "<deep>", 1, 0)
    ∷ (codes "[1, 2, 3]", 0, 0)
    ∷ []
unfolding str_of repr_of equal order checked power digits
in_places = refl

comparisons :
    told (op_eq heap (At 0) (At 0))
    ∷ told (op_ne heap (At 0) (At 2))
    ∷ told (op_eq heap (At 5) (Fixed (Then (Int (pos 1)) (Only (Int (pos 2))))))
    ∷ told (op_eq heap (At 1) (At 1))
    ∷ told (op_eq heap (At 7) (At 7))
    ∷ told (op_eq heap (At 6) (At 6))
    ∷ told (op_eq heap (Truth true) (Int (pos 1)))
    ∷ told (op_eq heap (Str (codes "made")) (At 4))
    ∷ told (op_eq heap (At 3) (At 3))
    ∷ told (op_order heap Below (At 0) (At 0))
    ∷ told (op_order heap NotAbove (At 5) (Fixed (Then (Int (pos 1)) (Then (Int (pos 2)) (Only (Int (pos 3)))))))
    ∷ told (op_order heap NotBelow (Fixed (Then (Int (pos 1)) (Only (Fixed (Then (Int (pos 2)) (Only (Str (codes "a")))))))) (Fixed (Then (Int (pos 1)) (Only (Fixed (Then (Int (pos 2)) (Only (Str (codes "b")))))))))
    ∷ told (op_order heap Below (At 7) (At 7))
    ∷ told (op_order heap Above (At 1) (At 1))
    ∷ told (op_order heap Below (Str (codes "ab")) (Str (codes "abc")))
    ∷ told (op_order heap Above (Int (pos 2)) (Truth true))
    ∷ told (op_order heap Below (Fixed (Then (Int (pos 1)) (Only (Str (codes "a"))))) (Fixed (Then (Int (pos 1)) (Only (Int (pos 2))))))
    ∷ told (op_order heap Below (Nil) (Nil))
    ∷ []
    ≡ (codes "True", 4, 0)
    ∷ (codes "True", 1, 0)
    ∷ (codes "True", 3, 0)
    ∷ (codes "True", 3, 0)
    ∷ (codes "RuntimeError: maximum recursion depth exceeded", 32, 0)
    ∷ (codes "True", 1, 0)
    ∷ (codes "True", 1, 0)
    ∷ (codes "True", 1, 0)
    ∷ (codes "True", 1, 0)
    ∷ (codes "False", 4, 0)
    ∷ (codes "True", 3, 0)
    ∷ (codes "False", 9, 0)
    ∷ (codes "RuntimeError: maximum recursion depth exceeded", 32, 0)
    ∷ (codes "TypeError: unsupported types for __gt__: 'dict', 'dict'", 1, 0)
    ∷ (codes "True", 1, 0)
    ∷ (codes "True", 1, 0)
    ∷ (codes "TypeError: unsupported types for __lt__: 'str', 'int'", 4, 0)
    ∷ (codes "TypeError: unsupported types for __lt__: 'NoneType', 'NoneType'", 1, 0)
    ∷ []
unfolding str_of repr_of equal order checked power digits
comparisons = refl

memberships :
    told (op_contains heap (Int (pos 2)) (At 0))
    ∷ told (op_contains heap (Int (pos 9)) (At 0))
    ∷ told (op_contains heap (Str (codes "k")) (At 1))
    ∷ told (op_contains heap (At 0) (At 1))
    ∷ told (op_contains heap (Int (pos 6)) (At 3))
    ∷ told (op_contains heap (Int (pos 7)) (At 3))
    ∷ told (op_contains heap (Str (codes "a")) (At 3))
    ∷ told (op_contains heap (Str (codes "ad")) (At 4))
    ∷ told (op_contains heap (Str []) (Str []))
    ∷ told (op_contains heap (Str (codes "a")) (Int (pos 5)))
    ∷ told (op_contains heap (At 7) (At 7))
    ∷ told (op_is heap (Fixed (Then (Int (pos 1)) (Only (Str (codes "a"))))) (Fixed (Then (Int (pos 1)) (Only (Str (codes "a"))))))
    ∷ told (op_is heap (At 5) (Fixed (Then (Int (pos 1)) (Only (Int (pos 2))))))
    ∷ told (op_is heap (Str (codes "made")) (At 4))
    ∷ told (op_is heap (Nil) (Nil))
    ∷ told (op_is heap (At 0) (At 0))
    ∷ told (op_is heap (Empty) (Empty))
    ∷ told (op_is heap (Built builtins.Int) (Built builtins.Int))
    ∷ told (op_is heap (Int (pos 1)) (Truth true))
    ∷ told (op_match heap (At 6) (Built (builtins.Kind kinds.ValueError)))
    ∷ told (op_match heap (At 6) (Fixed (Then (Built (builtins.Kind kinds.KeyError)) (Only (Built (builtins.Kind kinds.Exception))))))
    ∷ told (op_match heap (At 6) (Empty))
    ∷ told (op_match heap (At 6) (Fixed (Then (Built (builtins.Kind kinds.ValueError)) (Only (Int (pos 5))))))
    ∷ told (op_match heap (Int (pos 1)) (Built (builtins.Kind kinds.ValueError)))
    ∷ []
    ≡ (codes "True", 2, 0)
    ∷ (codes "False", 3, 0)
    ∷ (codes "True", 0, 0)
    ∷ (codes "TypeError: unsupported type for __hash__: 'list'", 0, 0)
    ∷ (codes "True", 0, 0)
    ∷ (codes "False", 0, 0)
    ∷ (codes "False", 0, 0)
    ∷ (codes "True", 0, 0)
    ∷ (codes "True", 0, 0)
    ∷ (codes "TypeError: unsupported types for __contains__: 'int', 'str'", 0, 0)
    ∷ (codes "RuntimeError: maximum recursion depth exceeded", 32, 0)
    ∷ (codes "True", 0, 0)
    ∷ (codes "False", 0, 0)
    ∷ (codes "True", 0, 0)
    ∷ (codes "True", 0, 0)
    ∷ (codes "True", 0, 0)
    ∷ (codes "True", 0, 0)
    ∷ (codes "True", 0, 0)
    ∷ (codes "False", 0, 0)
    ∷ (codes "True", 0, 0)
    ∷ (codes "True", 0, 0)
    ∷ (codes "False", 0, 0)
    ∷ (codes "TypeError: unsupported types for exception match", 0, 0)
    ∷ (codes "TypeError: unsupported types for exception match", 0, 0)
    ∷ []
unfolding str_of repr_of equal order checked power digits
memberships = refl

one_operand :
    told (unary heap Minus (Int (negsuc 1073741823)))
    ∷ told (unary heap Plus (Truth true))
    ∷ told (unary heap Invert (Int (pos 5)))
    ∷ told (unary heap Minus (Str (codes "a")))
    ∷ told (unary_not heap (At 2))
    ∷ told (unary_not heap (At 3))
    ∷ told (unary_not heap (Empty))
    ∷ told (unary_not heap (At 6))
    ∷ told (unary_not heap (Int (pos 0)))
    ∷ []
    ≡ (codes "OverflowError: small int overflow", 0, 0)
    ∷ (codes "1", 0, 0)
    ∷ (codes "-6", 0, 0)
    ∷ (codes "TypeError: unsupported type for __neg__: 'str'", 0, 0)
    ∷ (codes "True", 0, 0)
    ∷ (codes "False", 0, 0)
    ∷ (codes "True", 0, 0)
    ∷ (codes "False", 0, 0)
    ∷ (codes "True", 0, 0)
    ∷ []
unfolding str_of repr_of equal order checked power digits
one_operand = refl

indexes :
    told (get_item heap (At 0) (Int (negsuc 2)))
    ∷ told (get_item heap (At 0) (Int (pos 3)))
    ∷ told (get_item heap (At 0) (Str (codes "a")))
    ∷ told (get_item heap (At 4) (Int (pos 1)))
    ∷ told (get_item heap (At 3) (Int (negsuc 0)))
    ∷ told (get_item heap (At 1) (Truth true))
    ∷ told (get_item heap (At 1) (Int (pos 2)))
    ∷ told (get_item heap (At 1) (At 0))
    ∷ told (get_item heap (Int (pos 5)) (Int (pos 0)))
    ∷ told (get_item heap (At 5) (Truth true))
    ∷ told (delete_item heap (At 0) (Int (negsuc 0)))
    ∷ told (delete_item heap (At 1) (Str (codes "k")))
    ∷ told (delete_item heap (At 1) (Str (codes "x")))
    ∷ told (delete_item heap (Str (codes "a")) (Int (pos 0)))
    ∷ told (delete_item heap (At 0) (Int (pos 5)))
    ∷ told (set_item heap (At 0) (Int (pos 0)) (Nil))
    ∷ told (set_item heap (At 1) (Str (codes "new")) (Int (pos 1)))
    ∷ told (set_item heap (At 5) (Str (codes "x")) (Int (pos 1)))
    ∷ told (set_item heap (At 0) (Int (pos 3)) (Int (pos 1)))
    ∷ told (set_item heap (At 1) (At 0) (Int (pos 1)))
    ∷ []
    ≡ (codes "1", 0, 0)
    ∷ (codes "IndexError: list index out of range", 0, 0)
    ∷ (codes "TypeError: list indices must be integers, not str", 0, 0)
    ∷ (codes "'a'", 0, 2)
    ∷ (codes "9", 0, 0)
    ∷ (codes "'a'", 0, 0)
    ∷ (codes "KeyError: ", 0, 0)
    ∷ (codes "TypeError: unsupported type for __hash__: 'list'", 0, 0)
    ∷ (codes "TypeError: 'int' object isn't subscriptable", 0, 0)
    ∷ (codes "2", 0, 0)
    ∷ (codes "None", 0, 0)
    ∷ (codes "None", 0, 0)
    ∷ (codes "KeyError: ", 0, 0)
    ∷ (codes "TypeError: 'str' object doesn't support item deletion", 0, 0)
    ∷ (codes "IndexError: list index out of range", 0, 0)
    ∷ (codes "None", 0, 0)
    ∷ (codes "None", 0, 0)
    ∷ (codes "TypeError: 'tuple' object doesn't support item assignment", 0, 0)
    ∷ (codes "IndexError: list index out of range", 0, 0)
    ∷ (codes "TypeError: unsupported type for __hash__: 'list'", 0, 0)
    ∷ []
unfolding str_of repr_of equal order checked power digits
indexes = refl

attributes :
    told (get_attr heap (At 0) (codes "append"))
    ∷ told (get_attr heap (At 0) (codes "x"))
    ∷ told (get_attr heap (At 4) (codes "find"))
    ∷ told (get_attr heap (Str (codes "a")) (codes "split"))
    ∷ told (get_attr heap (At 1) (codes "pop"))
    ∷ told (get_attr heap (At 6) (codes "args"))
    ∷ told (get_attr heap (At 6) (codes "x"))
    ∷ told (get_attr heap (Built builtins.Int) (codes "x"))
    ∷ told (get_attr heap (Int (pos 5)) (codes "append"))
    ∷ told (set_attr heap (At 6) (codes "args") (Int (pos 1)))
    ∷ told (set_attr heap (At 0) (codes "x") (Int (pos 1)))
    ∷ []
    ≡ (codes "<bound_method>", 0, 3)
    ∷ (codes "AttributeError: 'list' object has no attribute 'x'", 0, 0)
    ∷ (codes "<bound_method>", 0, 3)
    ∷ (codes "<bound_method>", 0, 3)
    ∷ (codes "<bound_method>", 0, 3)
    ∷ (codes "(1, 2)", 0, 0)
    ∷ (codes "AttributeError: 'ValueError' object has no attribute 'x'", 0, 0)
    ∷ (codes "AttributeError: 'type' object has no attribute 'x'", 0, 0)
    ∷ (codes "AttributeError: 'int' object has no attribute 'append'", 0, 0)
    ∷ (codes "AttributeError: 'ValueError' object has no attribute 'args'", 0, 0)
    ∷ (codes "AttributeError: 'list' object has no attribute 'x'", 0, 0)
    ∷ []
unfolding str_of repr_of equal order checked power digits
attributes = refl

functions :
    told (call heap builtins.Len (At 3 ∷ []) [])
    ∷ told (call heap builtins.Len (At 1 ∷ []) [])
    ∷ told (call heap builtins.Len (Int (pos 5) ∷ []) [])
    ∷ told (call heap builtins.Len ([]) [])
    ∷ told (call heap builtins.Abs (Int (negsuc 2) ∷ []) [])
    ∷ told (call heap builtins.Abs (Int (negsuc 1073741823) ∷ []) [])
    ∷ told (call heap builtins.Abs (Str (codes "a") ∷ []) [])
    ∷ told (call heap builtins.Bool (At 2 ∷ []) [])
    ∷ told (call heap builtins.Range (Int (pos 3) ∷ []) [])
    ∷ told (call heap builtins.Range (Int (pos 1) ∷ Str (codes "a") ∷ []) [])
    ∷ told (call heap builtins.Range (Int (pos 1) ∷ Int (pos 2) ∷ Int (pos 0) ∷ []) [])
    ∷ told (call heap builtins.Range (Int (pos 1) ∷ Int (pos 2) ∷ Int (pos 3) ∷ Int (pos 4) ∷ []) [])
    ∷ told (call heap builtins.Range ([]) [])
    ∷ told (call heap builtins.Min (At 0 ∷ []) [])
    ∷ told (call heap builtins.Max (At 1 ∷ Int (pos 1) ∷ []) [])
    ∷ told (call heap builtins.Max (At 0 ∷ []) [])
    ∷ told (call heap builtins.Min (At 2 ∷ []) [])
    ∷ told (call heap builtins.Min (Int (pos 5) ∷ []) [])
    ∷ told (call heap builtins.Max (Str (codes "hello") ∷ []) [])
    ∷ told (call heap builtins.Max (At 3 ∷ []) [])
    ∷ told (call heap builtins.Min (Int (pos 2) ∷ Str (codes "a") ∷ []) [])
    ∷ told (call heap builtins.Min (At 7 ∷ At 7 ∷ []) [])
    ∷ told (call heap builtins.Str (At 0 ∷ []) [])
    ∷ told (call heap builtins.Str (At 4 ∷ []) [])
    ∷ told (call heap builtins.Repr (At 4 ∷ []) [])
    ∷ told (call heap builtins.Str (At 6 ∷ []) [])
    ∷ told (call heap builtins.Repr (At 6 ∷ []) [])
    ∷ told (call heap builtins.Str (At 7 ∷ []) [])
    ∷ told (call heap builtins.Str (Built builtins.Int ∷ []) [])
    ∷ told (call heap builtins.Str (Built builtins.Len ∷ []) [])
    ∷ told (call heap builtins.Repr (Str (codes "it's \\ \n") ∷ []) [])
    ∷ told (call heap builtins.Int (Str (codes " +12 ") ∷ []) [])
    ∷ told (call heap builtins.Int (Str (codes "0x1") ∷ []) [])
    ∷ told (call heap builtins.Int (Str [] ∷ []) [])
    ∷ told (call heap builtins.Int (Str (codes "- 1") ∷ []) [])
    ∷ told (call heap builtins.Int (Str (codes "9999999999") ∷ []) [])
    ∷ told (call heap builtins.Int (Truth true ∷ []) [])
    ∷ told (call heap builtins.Int (Nil ∷ []) [])
    ∷ []
    ≡ (codes "4", 0, 0)
    ∷ (codes "2", 0, 0)
    ∷ (codes "TypeError: object of type 'int' has no len()", 0, 0)
    ∷ (codes "TypeError: function takes 1 positional arguments but 0 were given", 0, 0)
    ∷ (codes "3", 0, 0)
    ∷ (codes "OverflowError: small int overflow", 0, 0)
    ∷ (codes "TypeError: can't convert str to int", 0, 0)
    ∷ (codes "False", 0, 0)
    ∷ (codes "range(0, 3)", 0, 4)
    ∷ (codes "TypeError: can't convert str to int", 0, 0)
    ∷ (codes "ValueError: zero step", 0, 0)
    ∷ (codes "TypeError: function expected at most 3 arguments, got 4", 0, 0)
    ∷ (codes "TypeError: function expected at least 1 arguments, got 0", 0, 0)
    ∷ (codes "1", 5, 0)
    ∷ (codes "TypeError: unsupported types for __gt__: 'int', 'dict'", 3, 0)
    ∷ (codes "3", 5, 0)
    ∷ (codes "ValueError: arg is an empty sequence", 0, 0)
    ∷ (codes "TypeError: 'int' object isn't iterable", 0, 0)
    ∷ (codes "'o'", 9, 2)
    ∷ (codes "9", 7, 0)
    ∷ (codes "TypeError: unsupported types for __lt__: 'str', 'int'", 3, 0)
    ∷ (codes "RuntimeError: maximum recursion depth exceeded", 34, 0)
    ∷ (codes "'[1, 2, 3]'", 4, 2)
    ∷ (codes "'made'", 1, 2)
    ∷ (codes "\"'made'\"", 1, 2)
    ∷ (codes "'(1, 2)'", 4, 2)
    ∷ (codes "'ValueError(1, 2)'", 3, 2)
    ∷ (codes "RuntimeError: maximum recursion depth exceeded", 32, 0)
    ∷ (codes "\"<class 'int'>\"", 1, 2)
    ∷ (codes "'<function>'", 1, 2)
    ∷ (codes "'\"it\\'s \\\\\\\\ \\\\n\"'", 1, 2)
    ∷ (codes "12", 0, 0)
    ∷ (codes "ValueError: invalid syntax for integer with base 10", 0, 0)
    ∷ (codes "ValueError: invalid syntax for integer with base 10", 0, 0)
    ∷ (codes "ValueError: invalid syntax for integer with base 10", 0, 0)
    ∷ (codes "OverflowError: small int overflow", 0, 0)
    ∷ (codes "1", 0, 0)
    ∷ (codes "TypeError: can't convert NoneType to int", 0, 0)
    ∷ []
unfolding str_of repr_of equal order checked power digits
functions = refl

values :
    told (call heap builtins.Ord (Str (codes "a") ∷ []) [])
    ∷ told (call heap builtins.Ord (At 4 ∷ []) [])
    ∷ told (call heap builtins.Ord (Int (pos 5) ∷ []) [])
    ∷ told (call heap builtins.Chr (Int (pos 97) ∷ []) [])
    ∷ told (call heap builtins.Chr (Int (pos 128) ∷ []) [])
    ∷ told (call heap builtins.Chr (Int (negsuc 0) ∷ []) [])
    ∷ told (call heap builtins.Chr (Str (codes "a") ∷ []) [])
    ∷ told (call heap builtins.List ([]) [])
    ∷ told (call heap builtins.List (At 4 ∷ []) [])
    ∷ told (call heap builtins.List (At 1 ∷ []) [])
    ∷ told (call heap builtins.List (Int (pos 5) ∷ []) [])
    ∷ told (call heap builtins.List (At 3 ∷ []) [])
    ∷ told (call heap builtins.Tuple (At 5 ∷ []) [])
    ∷ told (call heap builtins.Tuple (At 0 ∷ []) [])
    ∷ told (call heap builtins.Tuple (Str (codes "ab") ∷ []) [])
    ∷ told (call heap builtins.Tuple (At 2 ∷ []) [])
    ∷ told (call heap builtins.Tuple ([]) [])
    ∷ told (call heap builtins.Dict ([]) [])
    ∷ told (call heap builtins.Dict (Int (pos 1) ∷ []) [])
    ∷ told (call heap builtins.IsInstance (Truth true ∷ Built builtins.Int ∷ []) [])
    ∷ told (call heap builtins.IsInstance (At 6 ∷ Fixed (Then (Built builtins.Int) (Only (Built (builtins.Kind kinds.Exception)))) ∷ []) [])
    ∷ told (call heap builtins.IsInstance (Int (pos 1) ∷ Int (pos 5) ∷ []) [])
    ∷ told (call heap builtins.IsInstance (Int (pos 1) ∷ Fixed (Then (Built builtins.Int) (Only (Int (pos 5)))) ∷ []) [])
    ∷ told (call heap builtins.IsInstance (At 5 ∷ Built builtins.Tuple ∷ []) [])
    ∷ told (call heap builtins.IsInstance (Int (pos 1) ∷ []) [])
    ∷ told (call heap (builtins.Kind kinds.ValueError) (Int (pos 1) ∷ Str (codes "x") ∷ []) [])
    ∷ told (call heap (builtins.Kind kinds.KeyError) ([]) [])
    ∷ told (call heap builtins.Len (At 0 ∷ []) ((Str (codes "x"), Int (pos 1)) ∷ []))
    ∷ []
    ≡ (codes "97", 0, 0)
    ∷ (codes "TypeError: ord() expects a character", 0, 0)
    ∷ (codes "TypeError: ord() expects a character", 0, 0)
    ∷ (codes "'a'", 0, 2)
    ∷ (codes "ValueError: chr() arg not in range(128)", 0, 0)
    ∷ (codes "ValueError: chr() arg not in range(128)", 0, 0)
    ∷ (codes "TypeError: can't convert str to int", 0, 0)
    ∷ (codes "[]", 0, 7)
    ∷ (codes "['m', 'a', 'd', 'e']", 4, 15)
    ∷ (codes "[1, 'k']", 2, 7)
    ∷ (codes "TypeError: 'int' object isn't iterable", 0, 0)
    ∷ (codes "[0, 3, 6, 9]", 4, 7)
    ∷ (codes "(1, 2)", 0, 0)
    ∷ (codes "(1, 2, 3)", 3, 4)
    ∷ (codes "('a', 'b')", 2, 7)
    ∷ (codes "()", 0, 0)
    ∷ (codes "()", 0, 0)
    ∷ (codes "{}", 0, 15)
    ∷ (codes "TypeError: function takes 0 positional arguments but 1 were given", 0, 0)
    ∷ (codes "True", 0, 0)
    ∷ (codes "True", 0, 0)
    ∷ (codes "TypeError: isinstance() arg 2 must be a type or a tuple of types", 0, 0)
    ∷ (codes "TypeError: isinstance() arg 2 must be a type or a tuple of types", 0, 0)
    ∷ (codes "True", 0, 0)
    ∷ (codes "TypeError: function takes 2 positional arguments but 1 were given", 0, 0)
    ∷ (codes "ValueError(1, 'x')", 0, 9)
    ∷ (codes "KeyError()", 0, 6)
    ∷ (codes "TypeError: function doesn't take keyword arguments", 0, 0)
    ∷ []
unfolding str_of repr_of equal order checked power digits
values = refl

list_methods :
    told (call_method heap builtins.ListAppend (At 0) (Int (pos 4) ∷ []) [])
    ∷ told (call_method heap builtins.ListPop (At 0) ([]) [])
    ∷ told (call_method heap builtins.ListPop (At 0) (Int (pos 0) ∷ []) [])
    ∷ told (call_method heap builtins.ListPop (At 2) (Int (pos 3) ∷ []) [])
    ∷ told (call_method heap builtins.ListPop (At 0) (Int (pos 3) ∷ []) [])
    ∷ told (call_method heap builtins.ListPop (At 0) (Str (codes "a") ∷ []) [])
    ∷ told (call_method heap builtins.ListInsert (At 0) (Int (negsuc 8) ∷ Int (pos 0) ∷ []) [])
    ∷ told (call_method heap builtins.ListInsert (At 0) (Int (pos 1) ∷ Int (pos 0) ∷ []) [])
    ∷ told (call_method heap builtins.ListInsert (At 0) (Nil ∷ Int (pos 0) ∷ []) [])
    ∷ told (call_method heap builtins.ListExtend (At 0) (Str (codes "abc") ∷ []) [])
    ∷ told (call_method heap builtins.ListExtend (At 0) (Int (pos 5) ∷ []) [])
    ∷ told (call_method heap builtins.ListAppend (At 0) ([]) [])
    ∷ []
    ≡ (codes "None", 0, 0)
    ∷ (codes "3", 0, 0)
    ∷ (codes "1", 0, 0)
    ∷ (codes "IndexError: pop from empty list", 0, 0)
    ∷ (codes "IndexError: list index out of range", 0, 0)
    ∷ (codes "TypeError: can't convert str to int", 0, 0)
    ∷ (codes "None", 0, 0)
    ∷ (codes "None", 0, 0)
    ∷ (codes "TypeError: can't convert NoneType to int", 0, 0)
    ∷ (codes "None", 3, 14)
    ∷ (codes "TypeError: 'int' object isn't iterable", 0, 0)
    ∷ (codes "TypeError: function takes 1 positional arguments but 0 were given", 0, 0)
    ∷ []
unfolding str_of repr_of equal order checked power digits
list_methods = refl

dict_methods :
    told (call_method heap builtins.DictGet (At 1) (Truth true ∷ []) [])
    ∷ told (call_method heap builtins.DictGet (At 1) (Int (pos 2) ∷ []) [])
    ∷ told (call_method heap builtins.DictGet (At 1) (Int (pos 2) ∷ Int (pos 7) ∷ []) [])
    ∷ told (call_method heap builtins.DictGet (At 1) (At 0 ∷ []) [])
    ∷ told (call_method heap builtins.DictGet (At 1) ([]) [])
    ∷ told (call_method heap builtins.DictPop (At 1) (Int (pos 1) ∷ []) [])
    ∷ told (call_method heap builtins.DictPop (At 1) (Int (pos 2) ∷ Int (pos 3) ∷ []) [])
    ∷ told (call_method heap builtins.DictPop (At 1) (Int (pos 2) ∷ []) [])
    ∷ told (call_method heap builtins.DictKeys (At 1) ([]) [])
    ∷ told (call_method heap builtins.DictValues (At 1) ([]) [])
    ∷ told (call_method heap builtins.DictItems (At 1) ([]) [])
    ∷ told (call_method heap builtins.DictItems (At 1) (Int (pos 1) ∷ []) [])
    ∷ []
    ≡ (codes "'a'", 0, 0)
    ∷ (codes "None", 0, 0)
    ∷ (codes "7", 0, 0)
    ∷ (codes "TypeError: unsupported type for __hash__: 'list'", 0, 0)
    ∷ (codes "TypeError: function expected at least 1 arguments, got 0", 0, 0)
    ∷ (codes "'a'", 0, 0)
    ∷ (codes "3", 0, 0)
    ∷ (codes "KeyError: ", 0, 0)
    ∷ (codes "[1, 'k']", 2, 7)
    ∷ (codes "['a', None]", 2, 7)
    ∷ (codes "[(1, 'a'), ('k', None)]", 2, 13)
    ∷ (codes "TypeError: function takes 0 positional arguments but 1 were given", 0, 0)
    ∷ []
unfolding str_of repr_of equal order checked power digits
dict_methods = refl

str_methods :
    told (call_method heap builtins.StrJoin (Str (codes ", ")) (Fixed (Then (Str (codes "a")) (Then (At 4) (Only (Str [])))) ∷ []) [])
    ∷ told (call_method heap builtins.StrJoin (Str (codes ",")) (Fixed (Then (Str (codes "a")) (Then (Int (pos 1)) (Only (Str (codes "b"))))) ∷ []) [])
    ∷ told (call_method heap builtins.StrJoin (At 4) (Str [] ∷ []) [])
    ∷ told (call_method heap builtins.StrJoin (Str (codes "-")) (At 0 ∷ []) [])
    ∷ told (call_method heap builtins.StrJoin (Str (codes "-")) (Int (pos 5) ∷ []) [])
    ∷ told (call_method heap builtins.StrFind (At 4) (Str (codes "de") ∷ []) [])
    ∷ told (call_method heap builtins.StrFind (At 4) (Str (codes "x") ∷ []) [])
    ∷ told (call_method heap builtins.StrFind (At 4) (Str [] ∷ []) [])
    ∷ told (call_method heap builtins.StrFind (At 4) (Int (pos 1) ∷ []) [])
    ∷ told (call_method heap builtins.StrStartsWith (At 4) (Str (codes "ma") ∷ []) [])
    ∷ told (call_method heap builtins.StrStartsWith (At 4) (Str (codes "made!") ∷ []) [])
    ∷ told (call_method heap builtins.StrStartsWith (At 4) (Empty ∷ []) [])
    ∷ told (call_method heap builtins.StrSplit (Str (codes " a\t b ")) ([]) [])
    ∷ told (call_method heap builtins.StrSplit (Str (codes "a,b,")) (Str (codes ",") ∷ []) [])
    ∷ told (call_method heap builtins.StrSplit (Str (codes "aaa")) (Str (codes "aa") ∷ []) [])
    ∷ told (call_method heap builtins.StrSplit (At 4) (Str [] ∷ []) [])
    ∷ told (call_method heap builtins.StrSplit (Str []) ([]) [])
    ∷ told (call_method heap builtins.StrSplit (Str []) (Str (codes ",") ∷ []) [])
    ∷ told (call_method heap builtins.StrSplit (At 4) (Nil ∷ []) [])
    ∷ told (call_method heap builtins.StrSplit (At 4) (Int (pos 1) ∷ Int (pos 2) ∷ []) [])
    ∷ []
    ≡ (codes "'a, made, '", 3, 2)
    ∷ (codes "TypeError: join expects a list of str", 2, 0)
    ∷ (codes "''", 0, 0)
    ∷ (codes "TypeError: join expects a list of str", 1, 0)
    ∷ (codes "TypeError: 'int' object isn't iterable", 0, 0)
    ∷ (codes "2", 0, 0)
    ∷ (codes "-1", 0, 0)
    ∷ (codes "0", 0, 0)
    ∷ (codes "TypeError: unsupported types for __contains__: 'str', 'int'", 0, 0)
    ∷ (codes "True", 0, 0)
    ∷ (codes "False", 0, 0)
    ∷ (codes "TypeError: unsupported types for __contains__: 'str', 'tuple'", 0, 0)
    ∷ (codes "['a', 'b']", 0, 11)
    ∷ (codes "['a', 'b', '']", 0, 11)
    ∷ (codes "['', 'a']", 0, 9)
    ∷ (codes "ValueError: empty separator", 0, 0)
    ∷ (codes "[]", 0, 7)
    ∷ (codes "['']", 0, 7)
    ∷ (codes "TypeError: unsupported types for __contains__: 'str', 'NoneType'", 0, 0)
    ∷ (codes "TypeError: function expected at most 1 arguments, got 2", 0, 0)
    ∷ []
unfolding str_of repr_of equal order checked power digits
str_methods = refl

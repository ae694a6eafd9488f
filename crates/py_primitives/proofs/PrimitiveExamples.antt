-- Primitives computed from their definitions.
use Rattle.std.proofs.Common.{Less, ◌≡◌, ℕ, Option, List, [], ◌∷◌, codes, refl, true, false, Some, None, Ok, Err, pos, negsuc}
use Rattle.std.specs.Fmt.{digits}
use Rattle.py_values.specs.mpy_base.declared.builtin.Builtin.TheVariants as builtins
use Rattle.py_values.specs.mpy_base.declared.kind.Kind.TheVariants as kinds
use Rattle.py_values.specs.mpy_base.World.{Object, ListObject, TupleObject, TextObject, DictObject, ExceptionObject, RangeObject}
use Rattle.py_values.specs.mpy_base.Val.{Val, Nil, Truth, Int, Str, Fixed, Only, Then, Empty, Built, At}
use Rattle.py_values.specs.declared.small_int.NumFault.TheVariants.{Overflow, ZeroDivide}
use Rattle.py_values.specs.Small.{checked}
use Rattle.py_values.specs.Shown.{PlainHeap}
use Rattle.py_values.specs.Equality.{equal}
use Rattle.py_primitives.specs.Texts.{quoted, str_of, repr_of}
use Rattle.py_primitives.specs.Order.{order, Below}
use Rattle.py_primitives.specs.Faults.{fault_kind, fault_text, NoModule, RelativeImport, IncompatibleFile, BadDefaults, WrongCount, NoKeywords, Unsupported, Arithmetic, OutOfRange, NotAnIndex, NoCode, NoKey}
use Rattle.py_primitives.specs.Outcome.{Raises, Full, gives, raises, making_fault}
use Rattle.py_primitives.specs.Operators.{binary, in_place, op_contains, op_is, op_match, op_order, Add, FloorDivide, Multiply}
use Rattle.py_primitives.specs.Uses.{get_item}
use Rattle.py_primitives.specs.Calls.{call}
use Rattle.py_primitives.specs.Methods.{call_method, pieces_between, words_of}
use Rattle.py_primitives.specs.Output.{printed, call_port_get, call_port}

abbrev heap_of : List (Option (Object Val (List ℕ))) → PlainHeap
heap_of objects = record { objects = objects; bytes = 0; cell_size = 40; byte_size = 8 }

abbrev no_objects : PlainHeap
no_objects = heap_of []

-- two objects, at the numbers 0 and 1
abbrev two : Object Val (List ℕ) → Object Val (List ℕ) → PlainHeap
two a b = heap_of (Some a ∷ Some b ∷ [])

abbrev list_of_one : ℕ → Object Val (List ℕ)
list_of_one n = ListObject (Int (pos n) ∷ []) 4

-- texts
-- =====

-- it's is between quotation marks
apostrophe : quoted (codes "it's") ≡ codes "\"it's\""
apostrophe = refl

-- both marks, a backslash, a line feed and a zero byte
both_marks : quoted (39 ∷ 34 ∷ 92 ∷ 10 ∷ 0 ∷ []) ≡ codes "'\\'\"\\\\\\n\\x00'"
both_marks = refl

-- a tuple of one has a comma, and two visits
tuple_of_one : str_of no_objects (Fixed (Only (Str (codes "a")))) ≡ record { answer = Some (codes "('a',)"); visits = 2 }
unfolding str_of
tuple_of_one = refl

pairs_text : str_of (two (DictObject ((Int (pos 1), Nil) ∷ (Str (codes "b"), At 1) ∷ []) 4) (ListObject (Int (negsuc 1) ∷ Truth true ∷ []) 4)) (At 0)
    ≡ record { answer = Some (codes "{1: None, 'b': [-2, True]}"); visits = 7 }
unfolding str_of digits
pairs_text = refl

-- the str of an exception is that of its only argument, and the tuple of two is a visit of its own
text_of_error : str_of (two (ExceptionObject kinds.KeyError (At 1) [] 0 []) (TupleObject (Str (codes "k") ∷ []))) (At 0)
    ≡ record { answer = Some (codes "k"); visits = 2 }
unfolding str_of
text_of_error = refl

text_of_two : str_of (two (ExceptionObject kinds.ValueError (At 1) [] 0 []) (TupleObject (Int (pos 1) ∷ Int (pos 2) ∷ []))) (At 0)
    ≡ record { answer = Some (codes "(1, 2)"); visits = 4 }
unfolding str_of digits
text_of_two = refl

repr_of_two : repr_of (two (ExceptionObject kinds.ValueError (At 1) [] 0 []) (TupleObject (Int (pos 1) ∷ Int (pos 2) ∷ []))) (At 0)
    ≡ record { answer = Some (codes "ValueError(1, 2)"); visits = 3 }
unfolding repr_of digits
repr_of_two = refl

range_text_of : str_of (heap_of (Some (RangeObject (pos 0) (pos 3) (pos 2)) ∷ [])) (At 0)
    ≡ record { answer = Some (codes "range(0, 3, 2)"); visits = 1 }
unfolding str_of digits
range_text_of = refl

-- a list that holds itself: 32 visits, and no text
holds_itself : str_of (heap_of (Some (ListObject (At 0 ∷ []) 4) ∷ [])) (At 0) ≡ record { answer = None; visits = 32 }
unfolding str_of
holds_itself = refl

-- order
-- =====

-- [1] < [2] has three visits: the lists, 1 and 2 by equality, and 1 and 2 once more
three_visits : order (two (list_of_one 1) (list_of_one 2)) (At 0) (At 1) ≡ record { answer = Some (Ok Less); visits = 3 }
unfolding order
three_visits = refl

-- [1, 2] < [1, 2, 3] is decided by the lengths
by_length : order no_objects (Fixed (Then (Int (pos 1)) (Only (Int (pos 2))))) (Fixed (Then (Int (pos 1)) (Then (Int (pos 2)) (Only (Int (pos 3))))))
    ≡ record { answer = Some (Ok Less); visits = 3 }
unfolding order
by_length = refl

-- [[1]] < [[2]] has six
nested : order no_objects (Fixed (Only (Fixed (Only (Int (pos 1)))))) (Fixed (Only (Fixed (Only (Int (pos 2)))))) ≡ record { answer = Some (Ok Less); visits = 6 }
unfolding order
nested = refl

-- operators
-- =========

overflow : binary no_objects Add (Int (pos 1073741823)) (Truth true) ≡ raises (Arithmetic Overflow) no_objects
unfolding checked
overflow = refl

rounded : binary no_objects FloorDivide (Int (negsuc 6)) (Int (pos 2)) ≡ gives (Int (negsuc 3)) no_objects
unfolding checked
rounded = refl

by_zero : binary no_objects FloorDivide (Int (pos 1)) (Truth false) ≡ raises (Arithmetic ZeroDivide) no_objects
by_zero = refl

text_and_number : fault_text (Unsupported (codes "__add__") (codes "int") (codes "str")) ≡ codes "unsupported types for __add__: 'int', 'str'"
text_and_number = refl

number_plus_text : binary no_objects Add (Int (pos 1)) (Str (codes "a")) ≡ raises (Unsupported (codes "__add__") (codes "int") (codes "str")) no_objects
number_plus_text = refl

-- the empty text makes nothing
nothing_made : binary no_objects Multiply (Str (codes "ab")) (Int (negsuc 0)) ≡ gives (Str []) no_objects
nothing_made = refl

-- () + (1,) makes a tuple of two cells
joined_tuples : (binary no_objects Add Empty (Fixed (Only (Int (pos 1))))).heap.objects ≡ Some (TupleObject (Int (pos 1) ∷ [])) ∷ None ∷ []
joined_tuples = refl

-- nine bytes don't fit eight
full_of_bytes : (binary no_objects Multiply (Int (pos 3)) (Str (codes "abc"))).answer ≡ Err (Full (record { asked = 9; used = 0; size = 8; bytes = true }))
full_of_bytes = refl

-- x += [2, 3] has two visits, and x stays itself
extended_list : in_place (two (list_of_one 1) (list_of_one 2)) Add (At 0) (At 1) ≡ record { answer = Ok (At 0); heap = two (ListObject (Int (pos 1) ∷ Int (pos 2) ∷ []) 4) (list_of_one 2); visits = 1 }
extended_list = refl

-- a pair without an order is named
no_order : op_order (heap_of []) Below (Fixed (Only (Int (pos 2)))) (Fixed (Only (Str (codes "a")))) ≡ record { answer = Err (Raises (Unsupported (codes "__lt__") (codes "int") (codes "str"))); heap = no_objects; visits = 3 }
unfolding order
no_order = refl

-- 2 in (1, 2, 3) has two visits
second_found : op_contains no_objects (Int (pos 2)) (Fixed (Then (Int (pos 1)) (Then (Int (pos 2)) (Only (Int (pos 3)))))) ≡ record { answer = Ok (Truth true); heap = no_objects; visits = 2 }
unfolding equal
second_found = refl

part_found : op_contains no_objects (Str (codes "bc")) (Str (codes "abcd")) ≡ gives (Truth true) no_objects
part_found = refl

-- the container comes first in the fault
number_in_text : op_contains no_objects (Int (pos 1)) (Str (codes "abc")) ≡ raises (Unsupported (codes "__contains__") (codes "str") (codes "int")) no_objects
number_in_text = refl

one_is_no_truth : op_is no_objects (Int (pos 1)) (Truth true) ≡ gives (Truth false) no_objects
one_is_no_truth = refl

kind_below : op_match (heap_of (Some (ExceptionObject kinds.KeyError Empty [] 0 []) ∷ [])) (At 0) (Built (builtins.Kind kinds.LookupError)) ≡ gives (Truth true) (heap_of (Some (ExceptionObject kinds.KeyError Empty [] 0 []) ∷ []))
kind_below = refl

-- faults of imports and functions
-- ===============================

no_module : fault_text (NoModule (codes "a.b")) ≡ codes "no module named 'a.b'"
no_module = refl

no_module_kind : fault_kind (NoModule (codes "a.b")) ≡ kinds.ImportError
no_module_kind = refl

relative_import : fault_text RelativeImport ≡ codes "relative import"
relative_import = refl

relative_import_kind : fault_kind RelativeImport ≡ kinds.ImportError
relative_import_kind = refl

incompatible_file : fault_text IncompatibleFile ≡ codes "incompatible .mpy file"
incompatible_file = refl

incompatible_file_kind : fault_kind IncompatibleFile ≡ kinds.ValueError
incompatible_file_kind = refl

bad_defaults : fault_text BadDefaults ≡ codes "bad defaults"
bad_defaults = refl

bad_defaults_kind : fault_kind BadDefaults ≡ kinds.TypeError
bad_defaults_kind = refl

-- indexes
-- =======

last_item : get_item no_objects (Fixed (Then (Int (pos 5)) (Only (Int (pos 6))))) (Int (negsuc 0)) ≡ gives (Int (pos 6)) no_objects
last_item = refl

past_the_end : get_item no_objects (Str (codes "ab")) (Int (pos 2)) ≡ raises (OutOfRange (codes "str")) no_objects
past_the_end = refl

no_index : fault_text (NotAnIndex (codes "list") (codes "str")) ≡ codes "list indices must be integers, not str"
no_index = refl

-- built-ins and methods
-- =====================

-- min(3, 1, 2) has five visits
least_of_three : call no_objects builtins.Min (Int (pos 3) ∷ Int (pos 1) ∷ Int (pos 2) ∷ []) [] ≡ record { answer = Ok (Int (pos 1)); heap = no_objects; visits = 5 }
unfolding order
least_of_three = refl

-- the least letter of a str is made, and no other
least_letter : (call no_objects builtins.Min (Str (codes "cab") ∷ []) []).heap.objects ≡ Some (TextObject (codes "a")) ∷ None ∷ []
unfolding order
least_letter = refl

leading_zeros : call no_objects builtins.Int (Str (codes " -007 ") ∷ []) [] ≡ gives (Int (negsuc 6)) no_objects
unfolding checked
leading_zeros = refl

-- "ab" gives a list of 7 cells and then two texts
letters : (call no_objects builtins.List (Str (codes "ab") ∷ []) []).heap.objects
    ≡ Some (ListObject (At 7 ∷ At 9 ∷ []) 4) ∷ None ∷ None ∷ None ∷ None ∷ None ∷ None ∷ Some (TextObject (codes "a")) ∷ None ∷ Some (TextObject (codes "b")) ∷ None ∷ []
letters = refl

empty_pieces : pieces_between 0 (codes "--") (codes "a----b--") ≡ codes "a" ∷ [] ∷ codes "b" ∷ [] ∷ []
empty_pieces = refl

words : words_of (codes "  a b\n") ≡ codes "a" ∷ codes "b" ∷ []
words = refl

joined_letters : (call_method no_objects builtins.StrJoin (Str (codes "-")) (Str (codes "abc") ∷ []) []).heap.objects ≡ Some (TextObject (codes "a-b-c")) ∷ None ∷ []
joined_letters = refl

-- the exception of a fault is made behind its text and a tuple
fault_made : (making_fault no_objects NoCode).answer ≡ Err (Full (record { asked = 27; used = 0; size = 8; bytes = true }))
fault_made = refl

-- that of a key has no text
key_made : (making_fault no_objects (NoKey (Int (pos 7)))).heap.objects
    ≡ Some (TupleObject (Int (pos 7) ∷ [])) ∷ None ∷ Some (ExceptionObject kinds.KeyError (At 0) [] 0 []) ∷ None ∷ None ∷ None ∷ None ∷ None ∷ []
key_made = refl

-- output and ports
-- ================

with_sep : printed no_objects (Int (pos 1) ∷ Str (codes "a") ∷ []) ((Str (codes "sep"), Str (codes ", ")) ∷ []) ≡ record { answer = Ok (codes "1, a\n"); heap = no_objects; visits = 2 }
unfolding str_of digits
with_sep = refl

-- an answer of more than 31 bits is taken
too_great : call_port_get no_objects (record { pending = pos 1073741824 ∷ pos 7 ∷ []; written = []; calls = 0; failing = [] } ∷ []) (Int (pos 0))
    ≡ record { answer = Err (Raises (Arithmetic Overflow)); ports = record { pending = pos 7 ∷ []; written = []; calls = 1; failing = [] } ∷ [] }
too_great = refl

-- a call of a port: how many there are, a count that isn't taken, and a keyword argument
ports_counted : (call_port no_objects [] builtins.PortCount [] []).answer ≡ Ok (Int (pos 0))
ports_counted = refl

count_takes_none : (call_port no_objects [] builtins.PortCount (Nil ∷ []) []).answer ≡ Err (Raises (WrongCount 0 1))
count_takes_none = refl

get_takes_no_keywords : (call_port no_objects [] builtins.PortGet [] ((Nil, Nil) ∷ [])).answer ≡ Err (Raises NoKeywords)
get_takes_no_keywords = refl

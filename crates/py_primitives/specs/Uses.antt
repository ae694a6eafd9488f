-- Uses of values: indexes and attributes.
use Rattle.std.specs.Prelude.{ℕ, List, length, Option, Some, None, nat_lt, slice_set, bytes_eq, codes, if◌then◌else◌}
use Rattle.std.specs.List.{remove}
use Rattle.std.specs.Option.{option_map}
use Rattle.py_values.specs.mpy_base.declared.builtin.Builtin.{Builtin}
use Rattle.py_values.specs.mpy_base.declared.builtin.Builtin.TheVariants as builtins
use Rattle.py_values.specs.mpy_base.World.{Object, ListObject, DictObject, TextObject, ExceptionObject, MethodObject}
use Rattle.py_values.specs.mpy_base.World.{ModuleObject, object, pairs_at, with_list, with_dict}
use Rattle.py_values.specs.mpy_base.Weights.{does_fit, dict_growth, with_pairs}
use Rattle.py_values.specs.mpy_base.Val.{Val, Nil, Str, Built, At}
use Rattle.py_values.specs.Shown.{PlainHeap, Shown, Number, Text, Tuple, Items, Pairs, Range, shown}
use Rattle.py_values.specs.Keys.{value_of_key, with_key, without_key}
use Rattle.py_values.specs.Names.{type_name}
use Rattle.py_primitives.specs.Builtins.{named, list_methods, dict_methods, str_methods, port_calls}
use Rattle.py_primitives.specs.Faults.{NotAnIndex, OutOfRange, NoKey, NotSubscriptable, NotAssignable, NotDeletable, NoAttribute, UnpacksMore, UnpacksFewer}
use Rattle.py_primitives.specs.Outcome.{Outcome, gives, raises, is_full, making}
use Rattle.py_primitives.specs.Iterables.{iterating, kept_items, length_of, item_of, place_at}
use Rattle.py_primitives.specs.Operators.{with_key_of}

-- indexes
-- =======

-- what follows at a place that is there
abbrev pub at_found : {A : Type 0} → PlainHeap → Val → Option ℕ → (ℕ → Outcome A) → Outcome A
at_found heap v (Some at) next = next at
at_found heap v None next = raises (OutOfRange (type_name heap v)) heap

-- what follows at the place that an index names, by what a program can see of it
abbrev pub at_shown : {A : Type 0} → PlainHeap → Val → Val → Shown → (ℕ → Outcome A) → Outcome A
at_shown heap v index (Number z) next = at_found heap v (place_at (length_of heap v) z) next
at_shown heap v index _ next = raises (NotAnIndex (type_name heap v) (type_name heap index)) heap

-- what follows at the place that an index names
abbrev pub at_place : {A : Type 0} → PlainHeap → Val → Val → (ℕ → Outcome A) → Outcome A
at_place heap v index next = at_shown heap v index (shown heap index) next

-- what follows on a value that was found at a key
abbrev pub at_key : {A : Type 0} → PlainHeap → Val → Option Val → (Val → Outcome A) → Outcome A
at_key heap key (Some v) next = next v
at_key heap key None next = raises (NoKey key) heap

-- what follows on the value that a dict has at a key
abbrev pub of_key : {A : Type 0} → PlainHeap → List (Val × Val) → Val → (Val → Outcome A) → Outcome A
of_key heap pairs key next = with_key_of heap key (at_key heap key (value_of_key heap pairs key) next)

-- the item at an index, by what a program can see of the object
abbrev pub shown_at : PlainHeap → Val → Val → Shown → Outcome Val
shown_at heap v index (Pairs pairs) = of_key heap pairs index (λ found. gives found heap)
shown_at heap v index (Text bytes) = at_place heap v index (item_of heap v)
shown_at heap v index (Tuple items) = at_place heap v index (item_of heap v)
shown_at heap v index (Items items) = at_place heap v index (item_of heap v)
shown_at heap v index (Range start stop step) = at_place heap v index (item_of heap v)
shown_at heap v index _ = raises (NotSubscriptable (type_name heap v)) heap

-- the item of a value at an index
abbrev pub get_item : PlainHeap → Val → Val → Outcome Val
get_item heap v index = shown_at heap v index (shown heap v)

-- a dict that has the value at the key. A new key may ask for the next room
abbrev pub put_pair : PlainHeap → ℕ → Val → Val → Outcome Val
put_pair heap dict key v =
    let pairs = with_key heap (pairs_at heap dict) key v in
    if does_fit heap (dict_growth heap dict (length pairs)) 0
    then gives Nil (with_pairs heap dict pairs)
    else is_full heap (dict_growth heap dict (length pairs)) 0

-- the item at an index is set, by what a program can see of the object
abbrev pub set_shown : PlainHeap → Val → Val → Val → Shown → Outcome Val
set_shown heap (At n) index v (Pairs pairs) = with_key_of heap index (put_pair heap n index v)
set_shown heap (At n) index v (Items items) = at_place heap (At n) index (λ at. gives Nil (with_list heap n (slice_set items at v)))
set_shown heap o index v _ = raises (NotAssignable (type_name heap o)) heap

-- the item of a value at an index is set
abbrev pub set_item : PlainHeap → Val → Val → Val → Outcome Val
set_item heap o index v = set_shown heap o index v (shown heap o)

-- the item at an index is deleted, by what a program can see of the object
abbrev pub delete_shown : PlainHeap → Val → Val → Shown → Outcome Val
delete_shown heap (At n) index (Pairs pairs) = of_key heap pairs index (λ found. gives Nil (with_dict heap n (without_key heap pairs index)))
delete_shown heap (At n) index (Items items) = at_place heap (At n) index (λ at. gives Nil (with_list heap n (remove items at)))
delete_shown heap o index _ = raises (NotDeletable (type_name heap o)) heap

-- the item of a value at an index is deleted
abbrev pub delete_item : PlainHeap → Val → Val → Outcome Val
delete_item heap o index = delete_shown heap o index (shown heap o)

-- attributes
-- ==========

-- what an attribute is: a value, or a method of the object
pub data Attribute : Type 0 where
  Found : Val → Attribute
  Method : Builtin → Attribute
  Absent : Attribute

-- an attribute that is a value, if it is there
abbrev pub found_value : Option Val → Attribute
found_value (Some v) = Found v
found_value None = Absent

-- an attribute that is a method, if it is there
abbrev pub found_method : Option Builtin → Attribute
found_method (Some method) = Method method
found_method None = Absent

-- the attribute of an object
abbrev pub object_attribute : PlainHeap → List ℕ → Option (Object Val (List ℕ)) → Attribute
object_attribute heap name (Some (ListObject items room)) = found_method (named list_methods name)
object_attribute heap name (Some (DictObject pairs room)) = found_method (named dict_methods name)
object_attribute heap name (Some (TextObject bytes)) = found_method (named str_methods name)
object_attribute heap name (Some (ExceptionObject kind args file line own_name)) = if bytes_eq name (codes "args") then Found args else Absent
object_attribute heap name (Some (ModuleObject own_name (Some names))) = found_value (value_of_key heap (pairs_at heap names) (Str name))
object_attribute heap name _ = Absent

-- the attribute of a value
abbrev pub attribute : PlainHeap → Val → List ℕ → Attribute
attribute heap (Str bytes) name = found_method (named str_methods name)
attribute heap (Built builtins.Port) name = found_value (option_map Built (named port_calls name))
attribute heap (At n) name = object_attribute heap name (object heap.objects n)
attribute heap _ name = Absent

-- the fault that a value has no such attribute
abbrev pub no_attribute : {A : Type 0} → PlainHeap → Val → List ℕ → Outcome A
no_attribute heap v name = raises (NoAttribute (type_name heap v) name) heap

-- the value of an attribute
abbrev pub gives_attribute : PlainHeap → Val → List ℕ → Attribute → Outcome Val
gives_attribute heap v name (Found found) = gives found heap
gives_attribute heap v name (Method method) = making heap (MethodObject v method)
gives_attribute heap v name Absent = no_attribute heap v name

-- a method is bound to its object
abbrev pub get_attr : PlainHeap → Val → List ℕ → Outcome Val
get_attr heap v name = gives_attribute heap v name (attribute heap v name)

-- the attribute of an object is set
abbrev pub set_in : PlainHeap → Val → List ℕ → Val → Option (Object Val (List ℕ)) → Outcome Val
set_in heap o name v (Some (ModuleObject own_name (Some names))) = put_pair heap names (Str name) v
set_in heap o name v _ = no_attribute heap o name

-- only modules take attributes
abbrev pub set_attr : PlainHeap → Val → List ℕ → Val → Outcome Val
set_attr heap (At n) name v = set_in heap (At n) name v (object heap.objects n)
set_attr heap o name v = no_attribute heap o name

-- unpacking
-- =========

-- the items of an iterable, where there are `want` of them
abbrev pub unpack_items : PlainHeap → ℕ → Val → List Val → Outcome (List Val)
unpack_items heap want v items =
    if nat_lt (length items) want then raises (UnpacksMore (length items)) heap
    else (if nat_lt want (length items) then raises (UnpacksFewer want) heap else kept_items heap items (shown heap v))

-- the `want` items of an iterable, which has no others
abbrev pub unpack : PlainHeap → ℕ → Val → Outcome (List Val)
unpack heap want v = iterating heap v (unpack_items heap want v)

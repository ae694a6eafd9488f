-- What iterables give, and what a list takes of them.
use Rattle.std.specs.Prelude.{ℕ, ℤ, pos, ◌+◌, ◌*◌, ◌<◌, ◌+ℤ◌, ◌*ℤ◌, ◌⊎◌, List, [], ◌∷◌, ◌++◌, length, map, take, fold, Option, Some, None}
use Rattle.std.specs.List.{range_with_len}
use Rattle.py_values.specs.mpy_base.declared.room.NoRoom.{NoRoom}
use Rattle.arena_heap.specs.declared.value.Value.{Value}
use Rattle.arena_heap.specs.declared.value.Value.TheVariants as values
use Rattle.arena_heap.specs.declared.value.StrNo.{StrNo}
use Rattle.arena_heap.specs.declared.value.ConstNo.{ConstNo}
use Rattle.py_values.specs.mpy_base.World.{ListObject, TupleObject, TextObject, DictObject, RangeObject, Heap, object, items_at, with_list}
use Rattle.py_values.specs.mpy_base.Weights.{used, Fits, Refused, with_made, list_growth, with_list_room}
use Rattle.arena_heap.specs.Values.{ArenaObject}
use Rattle.arena_objects.specs.Keys.{bytes_of}
use Rattle.py_values.specs.Shown.{range_len}

-- the numbers of a range
abbrev pub range_numbers : ℤ → ℤ → ℤ → List Value
range_numbers start stop step = map (λ k. values.Int (start +ℤ pos k *ℤ step)) (range_with_len 0 (range_len start stop step))

-- what an object that was made gives: items, keys or numbers
abbrev pub given : Option ArenaObject → List Value
given (Some (ListObject items room)) = items
given (Some (TupleObject items)) = items
given (Some (DictObject pairs room)) = map (λ pair. pair.0) pairs
given (Some (RangeObject start stop step)) = range_numbers start stop step
given _ = []

-- the list, or an empty one where there is none
abbrev pub or_nothing : {A : Type 0} → Option (List A) → List A
or_nothing (Some xs) = xs
or_nothing None = []

-- the items that an iterable has. A str has bytes, and no items yet
abbrev pub items_in : (ConstNo → Option (List Value)) → Heap Value ℕ → Value → List Value
items_in tuples heap (values.Fixed c) = or_nothing (tuples c)
items_in tuples heap (values.List l) = given (object heap.objects l.cell)
items_in tuples heap (values.Tuple t) = given (object heap.objects t.cell)
items_in tuples heap (values.Dict d) = given (object heap.objects d.cell)
items_in tuples heap (values.Range r) = given (object heap.objects r.cell)
items_in tuples heap _ = []

-- the bytes of a str. Other values have none
abbrev pub spelled : (StrNo → Option (List ℕ)) → Heap Value ℕ → Value → List ℕ
spelled texts heap v = or_nothing (bytes_of texts heap v)

-- a text more for each byte, that of the first byte first
abbrev pub with_texts : Heap Value ℕ → List ℕ → Heap Value ℕ
with_texts heap bytes = fold (λ h byte. with_made h (TextObject (byte ∷ []))) heap bytes

-- `count` texts that take two cells each, the first of them at `first`
abbrev pub texts_from : ℕ → ℕ → List Value
texts_from first count = map (λ k. values.Text (record { cell = first + 2 * k })) (range_with_len 0 count)

-- how many items and texts follow those of a list
abbrev pub extended_length : (StrNo → Option (List ℕ)) → (ConstNo → Option (List Value)) → Heap Value ℕ → ℕ → Value → ℕ
extended_length texts tuples heap l from =
    length (items_at heap l) + length (items_in tuples heap from) + length (spelled texts heap from)

-- the list has room for all, the texts are made, and then the list has its items and those
abbrev pub extended : (StrNo → Option (List ℕ)) → (ConstNo → Option (List Value)) → Heap Value ℕ → ℕ → Value → Heap Value ℕ
extended texts tuples heap l from =
    let roomy = with_list_room heap l (extended_length texts tuples heap l from) in
    let bytes = spelled texts heap from in
    with_list (with_texts roomy bytes) l (items_at heap l ++ (items_in tuples heap from ++ texts_from (used roomy) (length bytes)))

-- the texts of some first bytes fitted, and that of the next doesn't
pub record TextRefused (old new : Heap Value ℕ) (e : NoRoom) (bytes : List ℕ) : Type 0 where
  pub made : ℕ
  pub behind : made < length bytes
  pub fitted : Fits old (2 * made) made
  pub refused : Refused (with_texts old (take made bytes)) new e 2 1

-- the list's room doesn't fit, or it does and a text doesn't
abbrev pub NotExtended : (StrNo → Option (List ℕ)) → (ConstNo → Option (List Value)) → (old new : Heap Value ℕ) → NoRoom → ℕ → Value → Type 0
NotExtended texts tuples old new e l from =
    let items = extended_length texts tuples old l from in
    Refused old new e (list_growth old l items) 0
    ⊎ (Fits old (list_growth old l items) 0 × TextRefused (with_list_room old l items) new e (spelled texts old from))

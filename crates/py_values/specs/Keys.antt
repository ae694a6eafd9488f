-- The keys of dicts: None, bools, numbers and strs. True and 1 are one key, and a str is its bytes.
use Rattle.std.specs.Prelude.{ℕ, ℤ, List, [], ◌∷◌, Bool, true, false, Option, Some, None, bytes_eq, if◌then◌else◌}
use Rattle.std.specs.Ordering.{int_eq}
use Rattle.mpy_base.specs.Val.{Val}
use Rattle.py_values.specs.Shown.{PlainHeap, Shown, Nothing, Number, Text, shown}

-- what a dict knows of a key
pub data PlainKey : Type 0 where
  NoneKey : PlainKey
  NumberKey : ℤ → PlainKey
  TextKey : List ℕ → PlainKey

-- the key that a program can see of a value, if it may be one
abbrev pub shown_key : Shown → Option PlainKey
shown_key Nothing = Some NoneKey
shown_key (Number z) = Some (NumberKey z)
shown_key (Text bytes) = Some (TextKey bytes)
shown_key _ = None

-- None where the value is no key
abbrev pub key_of : PlainHeap → Val → Option PlainKey
key_of heap v = shown_key (shown heap v)

-- are the two keys, and one?
abbrev pub is_same_key : Option PlainKey → Option PlainKey → Bool
is_same_key (Some NoneKey) (Some NoneKey) = true
is_same_key (Some (NumberKey y)) (Some (NumberKey z)) = int_eq y z
is_same_key (Some (TextKey s)) (Some (TextKey t)) = bytes_eq s t
is_same_key _ _ = false

-- has the pair this key?
abbrev pub has_key : PlainHeap → Val → Val × Val → Bool
has_key heap key pair = is_same_key (key_of heap (pair.0)) (key_of heap key)

-- the value of a key, and None where no pair has it
abbrev pub value_of_key : PlainHeap → List (Val × Val) → Val → Option Val
value_of_key heap [] key = None
value_of_key heap (pair ∷ pairs) key = if has_key heap key pair then Some (pair.1) else value_of_key heap pairs key

-- the pairs with another value of a key, whose first spelling stays. A new key stands behind the others.
abbrev pub with_key : PlainHeap → List (Val × Val) → Val → Val → List (Val × Val)
with_key heap [] key v = (key, v) ∷ []
with_key heap (pair ∷ pairs) key v =
    if has_key heap key pair then (pair.0, v) ∷ pairs else pair ∷ with_key heap pairs key v

-- the pairs without that of a key. Those behind it close up.
abbrev pub without_key : PlainHeap → List (Val × Val) → Val → List (Val × Val)
without_key heap [] key = []
without_key heap (pair ∷ pairs) key = if has_key heap key pair then pairs else pair ∷ without_key heap pairs key

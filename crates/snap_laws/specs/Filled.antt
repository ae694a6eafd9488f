-- What a heap keeps of its texts and tuples.
use Rattle.std.specs.Prelude.{ℕ, ◌+◌, ◌≤◌, List, [], ◌∷◌, Option, Some, None}
use Rattle.bc_machine.specs.mpy_base.World.{Object, TupleObject, TextObject, object}
use Rattle.bc_machine.specs.mpy_base.Weights.{bytes_of}
use Rattle.bc_machine.specs.mpy_base.Val.{Val}
use Rattle.bc_machine.specs.py_values.Shown.{PlainHeap}

-- no tuple or text without items or bytes: empty ones are values, and take no object
abbrev pub IsFilled : Option (Object Val (List ℕ)) → Type 0
IsFilled (Some (TupleObject [])) = ⊥
IsFilled (Some (TextObject [])) = ⊥
IsFilled _ = Unit {0}

-- none of the heap's tuples and texts is empty
pub record AreFilled (heap : PlainHeap) : Type 0 where
  pub filled : (n : ℕ) → IsFilled (object heap.objects n)

-- the bytes of a text, and none of anything else
abbrev pub bytes_in : Option (Object Val (List ℕ)) → ℕ
bytes_in (Some o) = bytes_of o
bytes_in None = 0

-- the bytes of all texts
abbrev pub text_bytes : List (Option (Object Val (List ℕ))) → ℕ
text_bytes [] = 0
text_bytes (o ∷ objects) = bytes_in o + text_bytes objects

-- the heap's texts have together no more bytes than are used
pub record HoldsBytes (heap : PlainHeap) : Type 0 where
  pub held : text_bytes heap.objects ≤ heap.bytes

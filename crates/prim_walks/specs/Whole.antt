-- Whole texts.
use Rattle.std.specs.Prelude.{◌≡◌, ℕ, List, Bool, true, false, Option, Some}
use Rattle.py_primitives.specs.mpy_base.Val.{Val}
use Rattle.py_primitives.specs.py_values.Shown.{PlainHeap}
use Rattle.py_primitives.specs.py_values.Equality.{Walk}
use Rattle.py_primitives.specs.Texts.{str_of, repr_of}
use Rattle.prim_walks.specs.Pens.{Wrote}

-- the str of a value, where its text is to be raw, and else its repr
abbrev pub text_of : PlainHeap → Bool → Val → Walk (List ℕ)
text_of heap true v = str_of heap v
text_of heap false v = repr_of heap v

-- there is a text, and a pen wrote it
pub record WroteText {P : Type 0} (Takes : P → List ℕ → P → Type 0) (answer : Option (List ℕ)) (old new : P) : Type 0 where
  pub text : List ℕ
  pub is : answer ≡ Some text
  pub wrote : Wrote Takes old text new

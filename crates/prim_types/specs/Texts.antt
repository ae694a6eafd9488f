-- The texts of values, and texts that are written part by part.
use Rattle.std.specs.Prelude.{◌≡◌, ℕ, ◌+◌, List, ◌++◌, length, take, drop, Bool, true, false, Option}
use Rattle.mpy_base.specs.declared.builtin.Builtin.{Builtin}
use Rattle.mpy_base.specs.declared.builtin.Builtin.TheVariants as builtins
use Rattle.mpy_base.specs.World.{Heap, with_text}
use Rattle.prim_builtins.specs.arena_heap.declared.value.Value.{Value}
use Rattle.prim_builtins.specs.arena_heap.declared.value.StrNo.{StrNo}
use Rattle.prim_builtins.specs.arena_heap.declared.value.ConstNo.{ConstNo}
use Rattle.prim_builtins.specs.arena_objects.Iterables.{or_nothing}
use Rattle.prim_builtins.specs.prim_walks.Plain.{plain, plain_heap}
use Rattle.prim_builtins.specs.prim_walks.Whole.{text_of}

-- the built-in that shows a value, raw or not
abbrev pub shown_by : Bool → Builtin
shown_by true = builtins.Str
shown_by false = builtins.Repr

-- bytes that stand in the place of those from a place on
abbrev pub written_over : ℕ → List ℕ → List ℕ → List ℕ
written_over from piece bytes = take from bytes ++ (piece ++ drop (from + length piece) bytes)

module _ (texts : StrNo → Option (List ℕ)) (tuples : ConstNo → Option (List Value)) (heap : Heap Value ℕ) (raw : Bool) (v : Value) where
  -- the text of a value, which may go too deep
  abbrev pub found_text : Option (List ℕ)
  found_text = (text_of (plain_heap texts tuples heap) raw (plain texts tuples v)).answer

  -- the text of a value that goes deep enough for one, and nothing of another
  abbrev pub text_in : List ℕ
  text_in = or_nothing found_text

  -- the text of the value stays, whatever bytes this text of the arena has
  abbrev pub IsApart : ℕ → Type 0
  IsApart t = (bytes : List ℕ)
      → text_of (plain_heap texts tuples (with_text heap t bytes)) raw (plain texts tuples v)
      ≡ text_of (plain_heap texts tuples heap) raw (plain texts tuples v)

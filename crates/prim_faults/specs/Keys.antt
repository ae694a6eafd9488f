-- Keys, whatever the constants are.
use Rattle.std.specs.Prelude.{◌≡◌, ℕ, Bool, List, Option, is_some}
use Rattle.prim_walks.specs.mpy_base.World.{Heap}
use Rattle.prim_walks.specs.arena_heap.declared.value.Value.{Value}
use Rattle.prim_walks.specs.arena_heap.declared.value.StrNo.{StrNo}
use Rattle.prim_walks.specs.arena_heap.declared.value.ConstNo.{ConstNo}
use Rattle.prim_walks.specs.py_values.Keys.{key_of}
use Rattle.prim_walks.specs.Plain.{plain, plain_heap}

-- may a value be a key?
abbrev pub DecidesKey : Heap Value ℕ → Value → Bool → Type 0
DecidesKey heap v answer =
    (texts : StrNo → Option (List ℕ)) (tuples : ConstNo → Option (List Value)) → answer ≡ is_some (key_of (plain_heap texts tuples heap) (plain texts tuples v))

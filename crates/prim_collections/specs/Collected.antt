-- Iterables of an arena, and what is kept of their items.
use Rattle.std.specs.Prelude.{◌≡◌, ℕ, ◌+◌, ◌*◌, ◌<◌, List, [], ◌∷◌, length, Bool, true, false, Option, Some, None, if◌then◌else◌}
use Rattle.prim_builtins.specs.mpy_base.World.{Heap, Objects, AText, IsA}
use Rattle.prim_builtins.specs.arena_heap.declared.value.Value.{Value}
use Rattle.prim_builtins.specs.arena_heap.declared.value.Value.TheVariants as values
use Rattle.prim_builtins.specs.arena_heap.declared.value.StrNo.{StrNo}
use Rattle.prim_builtins.specs.arena_heap.declared.value.ConstNo.{ConstNo}
use Rattle.prim_builtins.specs.arena_objects.Iterables.{items_in, spelled, texts_from}

-- strs, tuples, lists, dicts and ranges
abbrev pub is_iterable : Value → Bool
is_iterable (values.Str s) = true
is_iterable (values.Text t) = true
is_iterable (values.Fixed c) = true
is_iterable values.Empty = true
is_iterable (values.List l) = true
is_iterable (values.Tuple t) = true
is_iterable (values.Dict d) = true
is_iterable (values.Range r) = true
is_iterable _ = false

-- is it a str?
abbrev pub is_str : Value → Bool
is_str (values.Str s) = true
is_str (values.Text t) = true
is_str _ = false

-- is it a tuple?
abbrev pub is_tuple : Value → Bool
is_tuple (values.Fixed c) = true
is_tuple values.Empty = true
is_tuple (values.Tuple t) = true
is_tuple _ = false

-- how many items an iterable has, and how many bytes of a str
abbrev pub kept_length : (StrNo → Option (List ℕ)) → (ConstNo → Option (List Value)) → Heap Value ℕ → Value → ℕ
kept_length texts tuples heap v = length (items_in tuples heap v) + length (spelled texts heap v)

-- arguments of which there is one at most
abbrev pub AreOptional : List Value → Option Value → Type 0
AreOptional args (Some v) = args ≡ v ∷ []
AreOptional args None = args ≡ []

-- what is kept of an iterable's items: of a str `count` texts, which take two cells each, the first of them at `first`
abbrev pub kept_values : (ConstNo → Option (List Value)) → Heap Value ℕ → (first count : ℕ) → Value → List Value
kept_values tuples heap first count v = if is_str v then texts_from first count else items_in tuples heap v

-- the texts of a str are there
abbrev pub AreLetters : Objects Value ℕ → (first count : ℕ) → Value → Type 0
AreLetters objects first count v = is_str v ≡ true → (k : ℕ) → k < count → IsA objects AText (first + 2 * k)

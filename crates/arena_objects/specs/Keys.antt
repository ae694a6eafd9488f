-- The keys of dicts, and where a dict has the pair of a key.
use Rattle.std.specs.Prelude.{◌≡◌, ℕ, pos, ◌<◌, List, length, true, false, Option, Some, None, slice_index_or, slice_get, All}
use Rattle.std.specs.Option.{option_map}
use Rattle.arena_heap.specs.declared.value.Value.{Value}
use Rattle.arena_heap.specs.declared.value.Value.TheVariants as values
use Rattle.arena_heap.specs.declared.value.StrNo.{StrNo}
use Rattle.arena_heap.specs.declared.value.ConstNo.{ConstNo}
use Rattle.py_values.specs.Keys.{PlainKey, NoneKey, NumberKey, TextKey}
use Rattle.py_values.specs.mpy_base.World.{Heap, Objects, object, pairs_at, text_at}
use Rattle.arena_heap.specs.Values.{held}
use Rattle.arena_heap.specs.Constants.{IsTold}

-- the bytes of a str. Those of one that lies outside the arena are told
abbrev pub bytes_of : (StrNo → Option (List ℕ)) → Heap Value ℕ → Value → Option (List ℕ)
bytes_of texts heap (values.Str s) = texts s
bytes_of texts heap (values.Text t) = Some (text_at heap t.cell)
bytes_of texts heap _ = None

-- the value as a key, if a dict may have it as one
abbrev pub key_of : (StrNo → Option (List ℕ)) → Heap Value ℕ → Value → Option PlainKey
key_of texts heap values.None = Some NoneKey
key_of texts heap (values.Bool true) = Some (NumberKey (pos 1))
key_of texts heap (values.Bool false) = Some (NumberKey (pos 0))
key_of texts heap (values.Int z) = Some (NumberKey z)
key_of texts heap v = option_map TextKey (bytes_of texts heap v)

-- the key of the pair at a place
abbrev pub key_in : List (Value × Value) → ℕ → Value
key_in pairs at = let pair = slice_index_or pairs at (values.None, values.None) in pair.0

-- the first pair whose key is equal stands at this place
pub record StandsAt (texts : StrNo → Option (List ℕ)) (heap : Heap Value ℕ) (d : ℕ) (key : Value) (at : ℕ) : Type 0 where
  pub within : at < length (pairs_at heap d)
  pub equal : key_of texts heap (key_in (pairs_at heap d) at) ≡ key_of texts heap key
  pub first : (k : ℕ) → k < at → key_of texts heap (key_in (pairs_at heap d) k) ≡ key_of texts heap key → ⊥

-- no pair has an equal key
pub record Lacks (texts : StrNo → Option (List ℕ)) (heap : Heap Value ℕ) (d : ℕ) (key : Value) : Type 0 where
  pub differs : (k : ℕ) → k < length (pairs_at heap d) → key_of texts heap (key_in (pairs_at heap d) k) ≡ key_of texts heap key → ⊥

-- the value of that first pair
pub record IsValueOf (texts : StrNo → Option (List ℕ)) (heap : Heap Value ℕ) (d : ℕ) (key v : Value) : Type 0 where
  pub at : ℕ
  pub stands : StandsAt texts heap d key at
  pub value : option_map (λ pair. pair.1) (slice_get (pairs_at heap d) at) ≡ Some v

-- keys that differ from this one have the values that they had
pub record KeepsOthers (texts : StrNo → Option (List ℕ)) (old new : Heap Value ℕ) (d : ℕ) (key : Value) : Type 0 where
  pub values : (other v : Value) → (key_of texts old other ≡ key_of texts old key → ⊥) → IsValueOf texts old d other v → IsValueOf texts new d other v
  pub lacking : (other : Value) → (key_of texts old other ≡ key_of texts old key → ⊥) → Lacks texts old d other → Lacks texts new d other

-- no two pairs have equal keys
pub record IsDistinct (texts : StrNo → Option (List ℕ)) (heap : Heap Value ℕ) (d : ℕ) : Type 0 where
  pub once : (i j : ℕ) → i < j → j < length (pairs_at heap d)
      → key_of texts heap (key_in (pairs_at heap d) i) ≡ key_of texts heap (key_in (pairs_at heap d) j) → ⊥

-- the texts and tuples are told that the objects hold
pub record AllTold (texts : StrNo → Option (List ℕ)) (tuples : ConstNo → Option (List Value)) (objects : Objects Value ℕ) : Type 0 where
  pub told : (n : ℕ) → All (IsTold texts tuples) (held (object objects n))

-- The first place of a dict's pairs where something holds.
use Rattle.std.specs.Prelude.{◌≡◌, ℕ, ◌<◌, ◌≤◌, min, List, Option, Some, None}
use Rattle.py_values.specs.mpy_base.World.{Heap, pairs_at, room_at, text_at}
use Rattle.arena_heap.specs.declared.value.Value.{Value}
use Rattle.arena_heap.specs.declared.value.Value.TheVariants as values
use Rattle.arena_heap.specs.declared.value.StrNo.{StrNo}
use Rattle.arena_heap.specs.declared.value.StrNo.TheVariants as strs
use Rattle.arena_heap.specs.Links.{buckets_at, bucket_of}
use Rattle.py_values.specs.Keys.{PlainKey}
use Rattle.arena_objects.specs.Keys.{key_of, key_in}

-- the first place from `from` on and below `len` where it holds, or that there is none
abbrev pub FirstFrom : (Holds : ℕ → Type 0) → (len from : ℕ) → Option ℕ → Type 0
FirstFrom Holds len from None = (k : ℕ) → from ≤ k → k < len → Holds k → ⊥
FirstFrom Holds len from (Some at) = (from ≤ at) × (at < len) × Holds at × ((k : ℕ) → from ≤ k → k < at → Holds k → ⊥)

-- the lesser of two places, of which each may be missing
abbrev pub least : Option ℕ → Option ℕ → Option ℕ
least None second = second
least (Some at) None = Some at
least (Some at) (Some other) = Some (min at other)

-- the pair at a place has this key
abbrev pub HasKey : (StrNo → Option (List ℕ)) → Heap Value ℕ → ℕ → PlainKey → ℕ → Type 0
HasKey texts heap d key at = key_of texts heap (key_in (pairs_at heap d) at) ≡ Some key

-- the pair at the place has the key, and stands in this bucket
abbrev pub HasKeyIn : (StrNo → Option (List ℕ)) → Heap Value ℕ → ℕ → PlainKey → ℕ → ℕ → Type 0
HasKeyIn texts heap d key bucket at = HasKey texts heap d key at × (buckets_at heap d at ≡ bucket)

-- the pair at the place has the key, and stands in the bucket of a number's text, where there is such a number
abbrev pub HasKeyNamed : (StrNo → Option (List ℕ)) → Heap Value ℕ → ℕ → PlainKey → Option ℕ → ℕ → Type 0
HasKeyNamed texts heap d key None at = ⊥
HasKeyNamed texts heap d key (Some number) at =
    HasKeyIn texts heap d key (bucket_of (text_at heap) (room_at heap d) (values.Str (strs.Pool number))) at

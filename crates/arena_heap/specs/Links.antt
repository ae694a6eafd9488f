-- The buckets of a dict's pairs, and the links that lead through them.
use Rattle.std.specs.Prelude.{ℕ, suc, max, Option, Some, None, nat_le, if◌then◌else◌, ◌+◌, ◌*◌, ◌/◌, ◌%◌, ◌^◌, ◌<◌, ◌≤◌, ◌≡◌}
use Rattle.std.specs.Prelude.{List, [], ◌∷◌, true, false, unsigned_abs, slice_index_or}
use Rattle.arena_heap.specs.declared.value.Value.{Value}
use Rattle.arena_heap.specs.declared.value.Value.TheVariants as values
use Rattle.arena_heap.specs.declared.value.StrNo.TheVariants as strs
use Rattle.qstr_pool.specs.mpy_base.World.{Heap, pairs_at, room_at, text_at}

-- numbers that follow one another are spread
unfoldable pub spread : ℕ → ℕ
spread n = n * 2654435769 / 65536

-- the code of a text's bytes, from the code of those in front of them
unfoldable pub code_after : ℕ → ℕ → ℕ
code_after code byte = (code * 31 + byte) % 2 ^ 32

-- the code of a text behind those bytes whose code is given
abbrev pub bytes_code : ℕ → List ℕ → ℕ
bytes_code code [] = code
bytes_code code (byte ∷ bytes) = bytes_code (code_after code byte) bytes

-- the number that puts a text which was made into a bucket
abbrev pub text_code : List ℕ → ℕ
text_code bytes = bytes_code 0 bytes

-- the number that puts a key into a bucket, where texts that were made have these bytes. Numbers that are equal have one,
-- as True and 1. The constant strs that aren't of the pool have 0
abbrev pub code_of : (ℕ → List ℕ) → Value → ℕ
code_of texts (values.Bool true) = spread 1
code_of texts (values.Bool false) = spread 0
code_of texts (values.Int z) = spread (unsigned_abs z)
code_of texts (values.Str (strs.Pool n)) = spread n
code_of texts (values.Text t) = text_code (texts t.cell)
code_of texts _ = 0

-- the bucket of a key in a dict of this room
abbrev pub bucket_of : (ℕ → List ℕ) → ℕ → Value → ℕ
bucket_of texts room key = code_of texts key % room

-- the buckets of a dict's pairs
abbrev pub buckets_at : Heap Value ℕ → ℕ → ℕ → ℕ
buckets_at heap d at =
    let pair = slice_index_or (pairs_at heap d) at (values.None, values.None) in bucket_of (text_at heap) (room_at heap d) pair.0

-- one more than the last place of a bucket below the limit, or 0 where there is none
pub record IsLast (buckets : ℕ → ℕ) (bucket limit found : ℕ) : Type 0 where
  pub within : found ≤ limit
  pub there : (at : ℕ) → found ≡ suc at → buckets at ≡ bucket
  pub none_behind : (at : ℕ) → found ≤ at → at < limit → buckets at ≡ bucket → ⊥

-- the first link of each bucket leads to its last pair, and the next link of each pair to the pair in front of it in its bucket
pub record AreChained (buckets firsts nexts : ℕ → ℕ) (room len : ℕ) : Type 0 where
  pub firsts_lead : (bucket : ℕ) → bucket < room → IsLast buckets bucket len (firsts bucket)
  pub nexts_lead : (at : ℕ) → at < len → IsLast buckets (buckets at) at (nexts at)

-- one more than the cell of a text that was made
abbrev pub text_end : Value → ℕ
text_end (values.Text t) = t.cell + 1
text_end _ = 0

-- the cell that the texts among the keys lie below, where `key` is a key more
abbrev pub with_key : Option ℕ → Value → Option ℕ
with_key None key = None
with_key (Some below) key = Some (max below (text_end key))

-- the cell that the texts among the keys lie below, once the text at the cell `at` was written; None where that may be a key
abbrev pub without_text : Option ℕ → ℕ → Option ℕ
without_text None at = None
without_text (Some below) at = if nat_le below at then Some below else None

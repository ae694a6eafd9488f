-- From the first place that has a key to where the key stands in a dict.
use Rattle.std.proofs.Common.{ℕ, ◌≡◌, List, length, Option, Some, None, sym, ◌∙◌, arith}
use Rattle.std.specs.Option.{IfSome, IfNone}
use Rattle.arena_heap.specs.declared.value.Value.{Value}
use Rattle.arena_heap.specs.declared.value.StrNo.{StrNo}
use Rattle.py_values.specs.mpy_base.World.{Heap, pairs_at, room_at, text_at}
use Rattle.arena_heap.specs.Links.{bucket_of}
use Rattle.py_values.specs.Keys.{PlainKey}
use Rattle.arena_objects.specs.Keys.{key_of, key_in, StandsAt, Lacks}
use Rattle.arena_objects.specs.Found.{FirstFrom, HasKey, HasKeyIn}
use Rattle.arena_objects.proofs.Following.{first_same}
use Rattle.arena_objects.proofs.KeyCodes.{IsText, same_bucket}

module _ (texts : StrNo → Option (List ℕ)) (heap : Heap Value ℕ) (d : ℕ) (key : Value) (p : PlainKey) (e : key_of texts heap key ≡ Some p) where
  pub first_stands : (found : Option ℕ) → FirstFrom (HasKey texts heap d p) (length (pairs_at heap d)) 0 found → IfSome found (StandsAt texts heap d key)
  first_stands None first = tt
  first_stands (Some at) first = record { within = first.1; equal = first.2 ∙ sym e; first = λ k lt q. first.3 k (omega arith) lt (q ∙ e) }

  pub first_lacks : (found : Option ℕ) → FirstFrom (HasKey texts heap d p) (length (pairs_at heap d)) 0 found → IfNone found (Lacks texts heap d key)
  first_lacks None first = record { differs = λ k lt q. first k (omega arith) lt (q ∙ e) }
  first_lacks (Some at) first = tt

  -- a key that is no str stands in its bucket alone
  pub number_first : (IsText p → ⊥) → (found : Option ℕ) → FirstFrom (HasKeyIn texts heap d p (bucket_of (text_at heap) (room_at heap d) key)) (length (pairs_at heap d)) 0 found
      → FirstFrom (HasKey texts heap d p) (length (pairs_at heap d)) 0 found
  number_first no_text found first =
      first_same (HasKeyIn texts heap d p (bucket_of (text_at heap) (room_at heap d) key)) (HasKey texts heap d p) (length (pairs_at heap d)) found (λ k has. has.0)
      (λ k has. (has, same_bucket texts heap (room_at heap d) (key_in (pairs_at heap d) k) key p has e no_text)) first

  -- and the same of what a walk by the links told
  pub number_found : (IsText p → ⊥) → (result : Option (Option ℕ)) → IfSome result (FirstFrom (HasKeyIn texts heap d p (bucket_of (text_at heap) (room_at heap d) key)) (length (pairs_at heap d)) 0)
      → IfSome result (FirstFrom (HasKey texts heap d p) (length (pairs_at heap d)) 0)
  number_found no_text None first = tt
  number_found no_text (Some found) first = number_first no_text found first

-- Keys that are equal have one code, unless they are strs; and where strs stand that are equal to a text of the constants.
use Rattle.std.proofs.Common.{ℕ, ◌≡◌, ◌%◌, List, length, true, false, Option, Some, None, pos, inl, inr, refl, sym, ◌∙◌, ap, subst}
use Rattle.std.specs.Prelude.{unsigned_abs, ◌⊎◌}
use Rattle.std.specs.Option.{option_map}
use Rattle.arena_heap.specs.declared.value.Value.{Value}
use Rattle.arena_heap.specs.declared.value.Value.TheVariants as values
use Rattle.arena_heap.specs.declared.value.StrNo.{StrNo}
use Rattle.arena_heap.specs.declared.value.StrNo.TheVariants as strs
use Rattle.py_values.specs.mpy_base.World.{Heap, pairs_at, room_at, text_at}
use Rattle.arena_heap.specs.Links.{spread, text_code, code_of, bucket_of}
use Rattle.arena_objects.specs.Keys.{key_of, key_in}
use Rattle.arena_objects.specs.Found.{FirstFrom, HasKey, HasKeyIn, HasKeyNamed, least}
use Rattle.arena_objects.proofs.Following.{first_least}
use Rattle.py_values.specs.Keys.{PlainKey, NoneKey, NumberKey, TextKey}

abbrev plain_code : PlainKey → ℕ
plain_code NoneKey = 0
plain_code (NumberKey z) = spread (unsigned_abs z)
plain_code (TextKey bytes) = 0

abbrev pub IsText : PlainKey → Type 0
IsText NoneKey = ⊥
IsText (NumberKey z) = ⊥
IsText (TextKey bytes) = Unit {0}

text_key : (bytes : Option (List ℕ)) (p : PlainKey) → option_map TextKey bytes ≡ Some p → IsText p
text_key None p q = absurd cc
text_key (Some bytes) NoneKey q = cc
text_key (Some bytes) (NumberKey z) q = cc
text_key (Some bytes) (TextKey other) q = tt

-- what a text has as its key
pub text_is : (found : Option (List ℕ)) (bytes : List ℕ) → option_map TextKey found ≡ Some (TextKey bytes) → found ≡ Some bytes
text_is None bytes q = absurd cc
text_is (Some other) bytes q = let e : other ≡ bytes = cc in ap (λ (xs : List ℕ). Some xs) e

module _ (texts : StrNo → Option (List ℕ)) (heap : Heap Value ℕ) where
  code_is : (x : Value) (p : PlainKey) → key_of texts heap x ≡ Some p → (IsText p → ⊥) → code_of (text_at heap) x ≡ plain_code p
  code_is values.None p q no_text = let e : NoneKey ≡ p = cc in ap plain_code e
  code_is (values.Bool true) p q no_text = let e : NumberKey (pos 1) ≡ p = cc in ap plain_code e
  code_is (values.Bool false) p q no_text = let e : NumberKey (pos 0) ≡ p = cc in ap plain_code e
  code_is (values.Int z) p q no_text = let e : NumberKey z ≡ p = cc in ap plain_code e
  code_is (values.Str s) p q no_text = absurd (no_text (text_key (texts s) p q))
  code_is (values.Text t) p q no_text = absurd (no_text (text_key (Some _) p q))
  code_is values.Empty p q no_text = absurd cc
  code_is (values.Fixed c) p q no_text = absurd cc
  code_is (values.List l) p q no_text = absurd cc
  code_is (values.Dict d) p q no_text = absurd cc
  code_is (values.Tuple t) p q no_text = absurd cc
  code_is (values.Fun f) p q no_text = absurd cc
  code_is (values.Exc e) p q no_text = absurd cc
  code_is (values.Method m) p q no_text = absurd cc
  code_is (values.Range r) p q no_text = absurd cc
  code_is (values.Module m) p q no_text = absurd cc
  code_is (values.Built b) p q no_text = absurd cc

  -- what has the key of another has its bucket, unless it is a str
  pub same_bucket : (room : ℕ) (x key : Value) (p : PlainKey) → key_of texts heap x ≡ Some p → key_of texts heap key ≡ Some p → (IsText p → ⊥) → bucket_of (text_at heap) room x ≡ bucket_of (text_at heap) room key
  same_bucket room x key p is was no_text = ap (λ code. code % room) (code_is x p is no_text ∙ sym (code_is key p was no_text))

  -- a str stands with the texts that were made, with the constant strs that have no number, or with its number
  str_code : (number : Option ℕ) (bytes : List ℕ) → ((n : ℕ) → texts (strs.Pool n) ≡ Some bytes → number ≡ Some n) → (x : Value) → key_of texts heap x ≡ Some (TextKey bytes)
      → (code_of (text_at heap) x ≡ text_code bytes) ⊎ ((code_of (text_at heap) x ≡ 0) ⊎ ((n : ℕ) × (number ≡ Some n) × (code_of (text_at heap) x ≡ spread n)))
  str_code number bytes one (values.Text t) q = let e : text_at heap t.cell ≡ bytes = cc in inl (ap text_code e)
  str_code number bytes one (values.Str (strs.Pool m)) q = inr (inr (m, one m (text_is (texts (strs.Pool m)) bytes q), refl))
  str_code number bytes one (values.Str (strs.Object c)) q = inr (inl refl)
  str_code number bytes one values.None q = absurd cc
  str_code number bytes one (values.Bool true) q = absurd cc
  str_code number bytes one (values.Bool false) q = absurd cc
  str_code number bytes one (values.Int z) q = absurd cc
  str_code number bytes one values.Empty q = absurd cc
  str_code number bytes one (values.Fixed c) q = absurd cc
  str_code number bytes one (values.List l) q = absurd cc
  str_code number bytes one (values.Dict d) q = absurd cc
  str_code number bytes one (values.Tuple t) q = absurd cc
  str_code number bytes one (values.Fun f) q = absurd cc
  str_code number bytes one (values.Exc x) q = absurd cc
  str_code number bytes one (values.Method m) q = absurd cc
  str_code number bytes one (values.Range r) q = absurd cc
  str_code number bytes one (values.Module m) q = absurd cc
  str_code number bytes one (values.Built b) q = absurd cc

  -- the pairs that stand so
  module _ (d : ℕ) (number : Option ℕ) (p : PlainKey) where
    abbrev pub InMade : List ℕ → ℕ → Type 0
    InMade bytes at = HasKeyIn texts heap d p (text_code bytes % room_at heap d) at

    abbrev pub InOthers : ℕ → Type 0
    InOthers at = HasKeyIn texts heap d p (bucket_of (text_at heap) (room_at heap d) values.None) at

    str_place : (bytes : List ℕ) → p ≡ TextKey bytes → ((n : ℕ) → texts (strs.Pool n) ≡ Some bytes → number ≡ Some n)
        → (at : ℕ) → HasKey texts heap d p at → (InMade bytes at ⊎ InOthers at) ⊎ HasKeyNamed texts heap d p number at
    str_place bytes e one at has =
        let room : ℕ = room_at heap d in
        let key : Value = key_in (pairs_at heap d) at in
        elim (str_code number bytes one key (has ∙ ap (λ (q : PlainKey). Some q) e)) [
          | inl made ↦ inl (inl (has, ap (λ code. code % room) made))
          | inr other ↦ elim other [
            | inl constant ↦ inl (inr (has, ap (λ code. code % room) constant))
            | inr named ↦ inr (subst (λ (k : Option ℕ). HasKeyNamed texts heap d p k at) (sym (named.1)) (has, ap (λ code. code % room) (named.2)))
          ]
        ]

    named_has : (k : Option ℕ) (at : ℕ) → HasKeyNamed texts heap d p k at → HasKey texts heap d p at
    named_has None at has = absurd has
    named_has (Some n) at has = has.0

    -- the first of three walks
    pub str_first : (bytes : List ℕ) → p ≡ TextKey bytes → ((n : ℕ) → texts (strs.Pool n) ≡ Some bytes → number ≡ Some n) → (made others named : Option ℕ)
        → FirstFrom (InMade bytes) (length (pairs_at heap d)) 0 made → FirstFrom InOthers (length (pairs_at heap d)) 0 others
        → FirstFrom (HasKeyNamed texts heap d p number) (length (pairs_at heap d)) 0 named
        → FirstFrom (HasKey texts heap d p) (length (pairs_at heap d)) 0 (least (least made others) named)
    str_first bytes e one made others named first_made first_others first_named =
        let len : ℕ = length (pairs_at heap d) in
        let Either : ℕ → Type 0 = λ at. InMade bytes at ⊎ InOthers at in
        first_least Either (HasKeyNamed texts heap d p number) (HasKey texts heap d p) len (least made others) named (str_place bytes e one)
        (λ at either. elim either [
          | inl has ↦ has.0
          | inr has ↦ has.0
        ])
        (named_has number)
        (first_least (InMade bytes) InOthers Either len made others (λ at either. either) (λ at has. inl has) (λ at has. inr has) first_made first_others)
        first_named

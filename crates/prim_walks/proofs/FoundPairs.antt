-- The values of keys in the dicts of an arena.
use Rattle.std.proofs.Common.{◌≡◌, ℕ, ◌<◌, List, map, true, false, Option, Some, None, length, get_or, refl, sym, ap, ◌∙◌, subst, arith, length-append}
use Rattle.std.specs.Prelude.{IsSome, All, slice_get, slice_index_or}
use Rattle.std.specs.Option.{option_map}
use Rattle.std.proofs.lemmas.List.{length-map, get_or-map, get_or_append_left}
use Rattle.std.proofs.lemmas.Option.{slice_get_within, get_or_from_slice_get, slice_get-get_or}
use Rattle.arena_objects.specs.arena_heap.declared.value.Value.{Value}
use Rattle.arena_objects.specs.arena_heap.declared.value.Value.TheVariants as values
use Rattle.arena_objects.specs.arena_heap.declared.value.StrNo.{StrNo}
use Rattle.arena_objects.specs.arena_heap.declared.value.ConstNo.{ConstNo}
use Rattle.py_primitives.specs.mpy_base.World.{Heap, DictObject, ADict, IsA, object, kind_of, pairs_of, pairs_at}
use Rattle.py_primitives.specs.mpy_base.Val.{Val}
use Rattle.arena_objects.specs.arena_heap.Values.{ArenaObject, Leads, Sound, IsKey, IsFormed, held}
use Rattle.arena_objects.specs.arena_heap.Constants.{IsTold}
use Rattle.arena_objects.specs.Keys.{AllTold, Lacks, IsValueOf, key_of, key_in}
use Rattle.arena_objects.proofs.Places.{no_pair, read_pair}
use Rattle.arena_objects.proofs.Tolds.{told_pairs}
use Rattle.py_primitives.specs.py_values.Keys.{TextKey, value_of_key}
use Rattle.prim_walks.specs.Plain.{plain, plain_pair, plain_heap}
use Rattle.prim_walks.proofs.FoundKeys.{AllSame, key_same, kept_at, kept_nowhere}

abbrev keys_of : List (Value × Value) → List Value
keys_of pairs = map (λ p. p.0) pairs

key_read : (pairs : List (Value × Value)) (k : ℕ) (p : Value × Value) → slice_get pairs k ≡ Some p → (d : Value) → get_or (keys_of pairs) k d ≡ p.0
key_read pairs k p e d =
    get_or-map (λ (q : Value × Value). q.0) pairs k p d (slice_get_within pairs k p e) ∙ ap (λ (q : Value × Value). q.0) (get_or_from_slice_get pairs k p p e)

key_within : (pairs : List (Value × Value)) (k : ℕ) (p : Value × Value) → slice_get pairs k ≡ Some p → k < length (keys_of pairs)
key_within pairs k p e = let lt = slice_get_within pairs k p e in let m = length-map pairs (λ (q : Value × Value). q.0) in omega (arith, lt, m)

-- the key of a pair is one of the values that are held
held_key : (P : Value → Type 0) (o : Option ArenaObject) → kind_of o ≡ Some ADict → All P (held o) → (k : ℕ) (p : Value × Value) → slice_get (pairs_of o) k ≡ Some p → P (p.0)
held_key P (Some (DictObject pairs room)) is all k p e =
    let ks = keys_of pairs in
    let vs : List Value = map (λ (q : Value × Value). q.1) pairs in
    let lt = key_within pairs k p e in
    let m = length-append ks vs in
    subst P (get_or_append_left ks vs (p.0) k lt ∙ key_read pairs k p e (p.0)) (all k (p.0) (omega (arith, lt, m)))
held_key P _ is all k p e = absurd cc

formed_key : (o : Option ArenaObject) → kind_of o ≡ Some ADict → IsFormed o → (k : ℕ) (p : Value × Value) → slice_get (pairs_of o) k ≡ Some p → IsKey (p.0)
formed_key (Some (DictObject pairs room)) is formed k p e = subst IsKey (key_read pairs k p e (p.0)) (formed k (p.0) (key_within pairs k p e))
formed_key _ is formed k p e = absurd cc

module _ (texts : StrNo → Option (List ℕ)) (tuples : ConstNo → Option (List Value)) (heap : Heap Value ℕ) (sound : Sound heap.objects) (told : AllTold texts tuples heap.objects) where
  module _ (d : ℕ) (is : IsA heap.objects ADict d) where
    keys_same : AllSame texts tuples heap (pairs_at heap d)
    keys_same k p e =
        key_same texts tuples heap (p.0) (formed_key (object heap.objects d) is (sound.formed d) k p e)
        (held_key (Leads heap.objects) (object heap.objects d) is (sound.leads d) k p e) (held_key (IsTold texts tuples) (object heap.objects d) is (told.told d) k p e)

    key_some : (v : Value) → IsKey v → IsTold texts tuples v → IsSome (key_of texts heap v)
    key_some values.None k t = refl
    key_some (values.Bool true) k t = refl
    key_some (values.Bool false) k t = refl
    key_some (values.Int z) k t = refl
    key_some (values.Str s) k t = of_text (texts s) t
      where
        of_text : (o : Option (List ℕ)) → IsSome o → IsSome (option_map TextKey o)
        of_text (Some bytes) h = refl
        of_text None h = h
    key_some (values.Text n) k t = refl
    key_some _ k t = absurd k

    pub some_key : (k : ℕ) (p : Value × Value) → slice_get (pairs_at heap d) k ≡ Some p → IsSome (key_of texts heap (p.0))
    some_key k p e = key_some (p.0) (formed_key (object heap.objects d) is (sound.formed d) k p e) (held_key (IsTold texts tuples) (object heap.objects d) is (told.told d) k p e)

  module _ (d e : ℕ) (is_d : IsA heap.objects ADict d) (is_e : IsA heap.objects ADict e) (at : ℕ) (p : Value × Value) (read : slice_get (pairs_at heap d) at ≡ Some p) where
    abbrev sought : Option Val
    sought = value_of_key (plain_heap texts tuples heap) (map (plain_pair texts tuples) (pairs_at heap e)) (plain texts tuples (p.0))

    read_key : (k : ℕ) (q : Value × Value) → slice_get (pairs_at heap e) k ≡ Some q → key_in (pairs_at heap e) k ≡ q.0
    read_key k q f = ap (λ (r : Value × Value). r.0) (get_or_from_slice_get (pairs_at heap e) k q no_pair f)

    -- the other dict's value of the key
    pub found : (v : Value) → IsValueOf texts heap e (p.0) v → sought ≡ Some (plain texts tuples v)
    found v is =
        let pairs = pairs_at heap e in
        let q : Value × Value = slice_index_or pairs is.at no_pair in
        let stands = slice_get-get_or pairs is.at no_pair is.stands.within in
        let same : Some (q.1) ≡ Some v = sym (ap (option_map (λ (r : Value × Value). r.1)) stands) ∙ is.value in
        let is_v : q.1 ≡ v = cc in
        kept_at texts tuples heap (p.0) (keys_same d is_d at p read) (some_key d is_d at p read) pairs is.at q (keys_same e is_e) stands is.stands.equal
        (λ k r lt f same. is.stands.first k lt (ap (key_of texts heap) (read_key k r f) ∙ same))
        ∙ ap (λ (w : Value). Some (plain texts tuples w)) is_v

    -- or it has none
    pub lacking : Lacks texts heap e (p.0) → sought ≡ None
    lacking lacks =
        kept_nowhere texts tuples heap (p.0) (keys_same d is_d at p read) (some_key d is_d at p read) (pairs_at heap e) (keys_same e is_e)
        (λ k r f same. lacks.differs k (slice_get_within (pairs_at heap e) k r f) (ap (key_of texts heap) (read_key k r f) ∙ same))

-- the key and the value of a pair are told
pub told_pair : (texts : StrNo → Option (List ℕ)) (tuples : ConstNo → Option (List Value)) (heap : Heap Value ℕ) (n : ℕ) → IsA heap.objects ADict n → AllTold texts tuples heap.objects
    → (at : ℕ) (p : Value × Value) → slice_get (pairs_at heap n) at ≡ Some p → IsTold texts tuples (p.0) × IsTold texts tuples (p.1)
told_pair texts tuples heap n is all at p e =
    let read = read_pair (pairs_at heap n) at p (sym e) in
    subst (λ (q : Value × Value). IsTold texts tuples q.0 × IsTold texts tuples q.1) (sym (read.1 no_pair)) (told_pairs texts tuples heap n is all at no_pair read.0)

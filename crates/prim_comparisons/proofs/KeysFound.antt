-- Keys that a dict of an arena has.
use Rattle.std.proofs.Common.{◌≡◌, ℕ, ◌<◌, List, map, length, get_or, Bool, true, false, cond, Option, Some, None, refl, sym, ap, ◌∙◌, subst, arith, length-append}
use Rattle.std.proofs.lemmas.List.{length-map, get_or-map, get_or_append_left}
use Rattle.std.specs.Prelude.{IsSome, All, IfSome, IfNone, slice_get, slice_index_or, is_some, codes}
use Rattle.std.specs.Option.{option_map}
use Rattle.std.proofs.lemmas.Option.{slice_get_within, get_or_from_slice_get, slice_get-get_or}
use Rattle.prim_faults.specs.arena_heap.declared.value.Value.{Value}
use Rattle.prim_faults.specs.arena_heap.declared.value.Value.TheVariants as values
use Rattle.prim_faults.specs.arena_heap.declared.value.StrNo.{StrNo}
use Rattle.prim_faults.specs.arena_heap.declared.value.ConstNo.{ConstNo}
use Rattle.prim_faults.specs.mpy_base.World.{Heap, DictObject, ADict, IsA, object, kind_of, pairs_of, pairs_at}
use Rattle.prim_faults.specs.mpy_base.Val.{Val}
use Rattle.prim_faults.specs.arena_heap.Values.{ArenaObject, Leads, Sound, IsKey, IsFormed, held}
use Rattle.prim_faults.specs.arena_heap.Constants.{IsTold}
use Rattle.prim_faults.specs.arena_objects.Keys.{AllTold, Lacks, IsValueOf, key_of, key_in}
use Rattle.prim_faults.proofs.arena_objects_lemmas.Places.{no_pair}
use Rattle.prim_faults.specs.py_values.Shown.{PlainHeap}
use Rattle.prim_faults.specs.py_values.Names.{type_name}
use Rattle.prim_faults.specs.py_values.Keys as plain_keys
use Rattle.prim_faults.specs.py_values.Keys.{TextKey, value_of_key}
use Rattle.prim_faults.specs.py_primitives.Faults.{UnsupportedOne}
use Rattle.prim_faults.specs.py_primitives.Outcome.{Outcome, raises}
use Rattle.prim_faults.specs.py_primitives.Operators.{with_key_of}
use Rattle.prim_faults.specs.prim_walks.Plain.{plain, plain_pair, plain_heap}
use Rattle.prim_faults.proofs.prim_walks_lemmas.FoundKeys.{AllSame, key_same, kept_at, kept_nowhere}

abbrev keys_of : List (Value × Value) → List Value
keys_of pairs = map (λ p. p.0) pairs

key_read : (pairs : List (Value × Value)) (k : ℕ) (p : Value × Value) → slice_get pairs k ≡ Some p → (d : Value) → get_or (keys_of pairs) k d ≡ p.0
key_read pairs k p e d =
    get_or-map (λ (q : Value × Value). q.0) pairs k p d (slice_get_within pairs k p e) ∙ ap (λ (q : Value × Value). q.0) (get_or_from_slice_get pairs k p p e)

key_within : (pairs : List (Value × Value)) (k : ℕ) (p : Value × Value) → slice_get pairs k ≡ Some p → k < length (keys_of pairs)
key_within pairs k p e = let lt = slice_get_within pairs k p e in let m = length-map pairs (λ (q : Value × Value). q.0) in omega (arith, lt, m)

-- the key of a pair is one of the values that are held
held_key : (P : Value → Type 0) (o : Option ArenaObject) → kind_of o ≡ Some ADict → All P (held o) → (k : ℕ) (p : Value × Value) → slice_get (pairs_of o) k ≡ Some p → P (p.0)
held_key P (Some (DictObject pairs room)) is all k p e =
    let ks = keys_of pairs in
    let vs : List Value = map (λ (q : Value × Value). q.1) pairs in
    let lt = key_within pairs k p e in
    let m = length-append ks vs in
    subst P (get_or_append_left ks vs (p.0) k lt ∙ key_read pairs k p e (p.0)) (all k (p.0) (omega (arith, lt, m)))
held_key P _ is all k p e = absurd cc

formed_key : (o : Option ArenaObject) → kind_of o ≡ Some ADict → IsFormed o → (k : ℕ) (p : Value × Value) → slice_get (pairs_of o) k ≡ Some p → IsKey (p.0)
formed_key (Some (DictObject pairs room)) is formed k p e = subst IsKey (key_read pairs k p e (p.0)) (formed k (p.0) (key_within pairs k p e))
formed_key _ is formed k p e = absurd cc

module _ (texts : StrNo → Option (List ℕ)) (tuples : ConstNo → Option (List Value)) (heap : Heap Value ℕ) (sound : Sound heap.objects) (told : AllTold texts tuples heap.objects) where
  module _ (d : ℕ) (is : IsA heap.objects ADict d) where
    keys_same : AllSame texts tuples heap (pairs_at heap d)
    keys_same k p e =
        key_same texts tuples heap (p.0) (formed_key (object heap.objects d) is (sound.formed d) k p e)
        (held_key (Leads heap.objects) (object heap.objects d) is (sound.leads d) k p e) (held_key (IsTold texts tuples) (object heap.objects d) is (told.told d) k p e)

    key_some : (v : Value) → IsKey v → IsTold texts tuples v → IsSome (key_of texts heap v)
    key_some values.None k t = refl
    key_some (values.Bool true) k t = refl
    key_some (values.Bool false) k t = refl
    key_some (values.Int z) k t = refl
    key_some (values.Str s) k t = of_text (texts s) t
      where
        of_text : (o : Option (List ℕ)) → IsSome o → IsSome (option_map TextKey o)
        of_text (Some bytes) h = refl
        of_text None h = h
    key_some (values.Text n) k t = refl
    key_some _ k t = absurd k

module _ (texts : StrNo → Option (List ℕ)) (tuples : ConstNo → Option (List Value)) (heap : Heap Value ℕ) (sound : Sound heap.objects) (all : AllTold texts tuples heap.objects)
    (d : ℕ) (is_d : IsA heap.objects ADict d) (key : Value) (k : IsKey key) (leads : Leads heap.objects key) (told : IsTold texts tuples key) where
  abbrev sought : Option Val
  sought = value_of_key (plain_heap texts tuples heap) (map (plain_pair texts tuples) (pairs_at heap d)) (plain texts tuples key)

  read_key : (at : ℕ) (q : Value × Value) → slice_get (pairs_at heap d) at ≡ Some q → key_in (pairs_at heap d) at ≡ q.0
  read_key at q f = ap (λ (r : Value × Value). r.0) (get_or_from_slice_get (pairs_at heap d) at q no_pair f)

  found : (v : Value) → IsValueOf texts heap d key v → sought ≡ Some (plain texts tuples v)
  found v is =
      let pairs = pairs_at heap d in
      let q : Value × Value = slice_index_or pairs is.at no_pair in
      let stands = slice_get-get_or pairs is.at no_pair is.stands.within in
      let same : Some (q.1) ≡ Some v = sym (ap (option_map (λ (r : Value × Value). r.1)) stands) ∙ is.value in
      let is_v : q.1 ≡ v = cc in
      kept_at texts tuples heap key (key_same texts tuples heap key k leads told) (key_some texts tuples heap sound all d is_d key k told) pairs is.at q (keys_same texts tuples heap sound all d is_d) stands is.stands.equal
      (λ at r lt f same. is.stands.first at lt (ap (key_of texts heap) (read_key at r f) ∙ same))
      ∙ ap (λ (w : Value). Some (plain texts tuples w)) is_v

  lacking : Lacks texts heap d key → sought ≡ None
  lacking lacks =
      kept_nowhere texts tuples heap key (key_same texts tuples heap key k leads told) (key_some texts tuples heap sound all d is_d key k told) (pairs_at heap d) (keys_same texts tuples heap sound all d is_d)
      (λ at r f same. lacks.differs at (slice_get_within (pairs_at heap d) at r f) (ap (key_of texts heap) (read_key at r f) ∙ same))

  -- whether it has the key
  pub key_there : (r : Option Value) → IfSome r (IsValueOf texts heap d key) → IfNone r (Lacks texts heap d key) → is_some r ≡ is_some sought
  key_there (Some v) some none = ap is_some (sym (found v some))
  key_there None some none = ap is_some (sym (lacking none))

module _ {A : Type 0} (heap : PlainHeap) (key : Val) (next : Outcome A) where
  tested : (b : Bool) → b ≡ is_some (plain_keys.key_of heap key) → with_key_of heap key next ≡ cond b next (raises (UnsupportedOne (codes "__hash__") (type_name heap key)) heap)
  tested b e = ap (λ (t : Bool). cond t next (raises (UnsupportedOne (codes "__hash__") (type_name heap key)) heap)) (sym e)

  pub keyed : true ≡ is_some (plain_keys.key_of heap key) → with_key_of heap key next ≡ next
  keyed e = tested true e

  pub unhashable : false ≡ is_some (plain_keys.key_of heap key) → with_key_of heap key next ≡ raises (UnsupportedOne (codes "__hash__") (type_name heap key)) heap
  unhashable e = tested false e

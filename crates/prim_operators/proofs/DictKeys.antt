-- The keys and pairs of an arena's dicts, as the meaning has them.
use Rattle.std.proofs.Common.{◌≡◌, ℕ, zero, suc, ◌<◌, List, [], ◌∷◌, ◌++◌, length, map, get_or, Bool, true, false, Option, Some, None, refl, ap, subst, ◌∙◌, arith, length-append}
use Rattle.std.specs.Prelude.{ℤ, IsSome}
use Rattle.std.specs.Option.{option_map}
use Rattle.std.specs.List.{remove, All}
use Rattle.std.proofs.lemmas.List.{length-map, get_or-map, get_or_append_left}
use Rattle.std.proofs.lemmas.Cmp.{int_eq_equiv}
use Rattle.std.proofs.lemmas.Bool.Decides.{Decides-int_eq}
use Rattle.std.proofs.lemmas.Slice.Eq.{bytes_eq-Decides}
use Rattle.prim_faults.specs.arena_heap.declared.value.Value.{Value}
use Rattle.prim_faults.specs.arena_heap.declared.value.Value.TheVariants as values
use Rattle.prim_faults.specs.arena_heap.declared.value.StrNo.{StrNo}
use Rattle.prim_faults.specs.arena_heap.declared.value.ConstNo.{ConstNo}
use Rattle.prim_faults.specs.mpy_base.World.{TextObject, DictObject, AText, ADict, IsA, Heap, object, kind_of, text_of, pairs_of, pairs_at}
use Rattle.prim_faults.specs.mpy_base.Val.{Val}
use Rattle.prim_faults.specs.arena_heap.Values.{ArenaObject, Leads, IsKey, IsFormed, Sound, held}
use Rattle.prim_faults.specs.arena_heap.Constants.{IsTold}
use Rattle.prim_faults.specs.arena_heap.Dicts.{with_value}
use Rattle.prim_faults.specs.arena_objects.Keys as arena
use Rattle.prim_faults.specs.arena_objects.Keys.{key_in, AllTold}
use Rattle.prim_faults.specs.arena_objects.Iterables.{or_nothing}
use Rattle.prim_faults.proofs.arena_objects_lemmas.Places.{no_pair}
use Rattle.prim_faults.specs.py_values.Shown.{shown_object}
use Rattle.prim_faults.specs.py_values.Keys.{PlainKey, NoneKey, NumberKey, TextKey, shown_key, key_of, is_same_key, has_key, value_of_key, with_key, without_key}
use Rattle.prim_faults.specs.prim_walks.Plain.{plain, plain_pair, plain_object, plain_heap}
use Rattle.prim_faults.proofs.prim_walks_lemmas.PlainValues.{object_plain}

same_self : (k : Option PlainKey) → IsSome k → is_same_key k k ≡ true
same_self (Some NoneKey) h = refl
same_self (Some (NumberKey z)) h = int_eq_equiv.refl z
same_self (Some (TextKey s)) h = (bytes_eq-Decides s s).1 refl
same_self None h = cc

same_is : (j k : Option PlainKey) → is_same_key j k ≡ true → j ≡ k
same_is (Some NoneKey) (Some NoneKey) h = refl
same_is (Some (NumberKey y)) (Some (NumberKey z)) h = ap (λ (n : ℤ). Some (NumberKey n)) ((Decides-int_eq y z).0 h)
same_is (Some (TextKey s)) (Some (TextKey t)) h = ap (λ (text : List ℕ). Some (TextKey text)) ((bytes_eq-Decides s t).0 h)
same_is j k h = cc

differ_by : (j k : Option PlainKey) (b : Bool) → is_same_key j k ≡ b → (j ≡ k → ⊥) → b ≡ false
differ_by j k true e unequal = absurd (unequal (same_is j k e))
differ_by j k false e unequal = refl

told_text : (o : Option (List ℕ)) → IsSome o → Some (TextKey (or_nothing o)) ≡ option_map TextKey o
told_text (Some bytes) s = refl
told_text None s = absurd cc

module _ (texts : StrNo → Option (List ℕ)) (tuples : ConstNo → Option (List Value)) (h : Heap Value ℕ) where
  -- a value that may be a key, leads to an object and is told
  pub record IsKnownKey (v : Value) : Type 0 where
    pub key : IsKey v
    pub leads : Leads h.objects v
    pub told : IsTold texts tuples v

  made_text : (o : Option ArenaObject) → kind_of o ≡ Some AText → shown_key (shown_object (plain_object texts tuples o)) ≡ Some (TextKey (text_of o))
  made_text (Some (TextObject bytes)) q = refl
  made_text _ q = absurd cc

  pub key_plain : (v : Value) → IsKnownKey v → key_of (plain_heap texts tuples h) (plain texts tuples v) ≡ arena.key_of texts h v
  key_plain values.None k = refl
  key_plain (values.Bool true) k = refl
  key_plain (values.Bool false) k = refl
  key_plain (values.Int z) k = refl
  key_plain (values.Str s) k = told_text (texts s) k.told
  key_plain (values.Text t) k = ap (λ o. shown_key (shown_object o)) (object_plain texts tuples h.objects t.cell) ∙ made_text (object h.objects t.cell) k.leads.meets
  key_plain _ k = absurd k.key

  some_option : (o : Option (List ℕ)) → IsSome o → IsSome (option_map TextKey o)
  some_option (Some bytes) s = refl
  some_option None s = absurd cc

  key_some : (v : Value) → IsKnownKey v → IsSome (arena.key_of texts h v)
  key_some values.None k = refl
  key_some (values.Bool true) k = refl
  key_some (values.Bool false) k = refl
  key_some (values.Int z) k = refl
  key_some (values.Str s) k = some_option (texts s) k.told
  key_some (values.Text t) k = refl
  key_some _ k = absurd k.key

  module _ (key : Value) (known : IsKnownKey key) where
    same_key : (pair : Value × Value) → IsKnownKey pair.0 → arena.key_of texts h pair.0 ≡ arena.key_of texts h key
        → has_key (plain_heap texts tuples h) (plain texts tuples key) (plain_pair texts tuples pair) ≡ true
    same_key pair k e =
        rw (key_plain pair.0 k ∙ e, key_plain key known) (same_self (arena.key_of texts h key) (key_some key known))

    other_key : (pair : Value × Value) → IsKnownKey pair.0 → (arena.key_of texts h pair.0 ≡ arena.key_of texts h key → ⊥)
        → has_key (plain_heap texts tuples h) (plain texts tuples key) (plain_pair texts tuples pair) ≡ false
    other_key pair k unequal =
        rw (key_plain pair.0 k, key_plain key known) (differ_by (arena.key_of texts h pair.0) (arena.key_of texts h key) _ refl unequal)

    -- each key is known
    abbrev pub Each : List (Value × Value) → Type 0
    Each pairs = (k : ℕ) → k < length pairs → IsKnownKey (key_in pairs k)

    -- the first pair whose key is equal stands here
    pub record Stands (pairs : List (Value × Value)) (at : ℕ) : Type 0 where
      pub within : at < length pairs
      pub equal : arena.key_of texts h (key_in pairs at) ≡ arena.key_of texts h key
      pub first : (k : ℕ) → k < at → arena.key_of texts h (key_in pairs k) ≡ arena.key_of texts h key → ⊥

    behind : (pair : Value × Value) (pairs : List (Value × Value)) (at : ℕ) → Stands (pair ∷ pairs) (suc at) → Stands pairs at
    behind pair pairs at s = record { within = let w = s.within in omega arith; equal = s.equal; first = λ k lt. s.first (suc k) (omega arith) }

    rest : (pair : Value × Value) (pairs : List (Value × Value)) → Each (pair ∷ pairs) → Each pairs
    rest pair pairs each = λ k lt. each (suc k) (omega arith)

    pub found_at : (pairs : List (Value × Value)) (at : ℕ) → Each pairs → Stands pairs at
        → value_of_key (plain_heap texts tuples h) (map (plain_pair texts tuples) pairs) (plain texts tuples key) ≡ Some (plain texts tuples (get_or pairs at no_pair).1)
    found_at [] at each s = absurd (let w = s.within in omega arith)
    found_at (pair ∷ pairs) zero each s = rw (same_key pair (each zero (omega arith)) s.equal) refl
    found_at (pair ∷ pairs) (suc at) each s =
        rw (other_key pair (each zero (omega arith)) (s.first zero (omega arith))) (found_at pairs at (rest pair pairs each) (behind pair pairs at s))

    pub without_at : (pairs : List (Value × Value)) (at : ℕ) → Each pairs → Stands pairs at
        → without_key (plain_heap texts tuples h) (map (plain_pair texts tuples) pairs) (plain texts tuples key) ≡ map (plain_pair texts tuples) (remove pairs at)
    without_at [] at each s = absurd (let w = s.within in omega arith)
    without_at (pair ∷ pairs) zero each s = rw (same_key pair (each zero (omega arith)) s.equal) refl
    without_at (pair ∷ pairs) (suc at) each s =
        rw (other_key pair (each zero (omega arith)) (s.first zero (omega arith)))
        (ap (λ (ps : List (Val × Val)). plain_pair texts tuples pair ∷ ps) (without_at pairs at (rest pair pairs each) (behind pair pairs at s)))

    pub with_at : (pairs : List (Value × Value)) (at : ℕ) (v : Value) → Each pairs → Stands pairs at
        → with_key (plain_heap texts tuples h) (map (plain_pair texts tuples) pairs) (plain texts tuples key) (plain texts tuples v) ≡ map (plain_pair texts tuples) (with_value pairs at v)
    with_at [] at v each s = absurd (let w = s.within in omega arith)
    with_at (pair ∷ pairs) zero v each s = rw (same_key pair (each zero (omega arith)) s.equal) refl
    with_at (pair ∷ pairs) (suc at) v each s =
        rw (other_key pair (each zero (omega arith)) (s.first zero (omega arith)))
        (ap (λ (ps : List (Val × Val)). plain_pair texts tuples pair ∷ ps) (with_at pairs at v (rest pair pairs each) (behind pair pairs at s)))

    -- no pair has an equal key
    abbrev pub Misses : List (Value × Value) → Type 0
    Misses pairs = (k : ℕ) → k < length pairs → arena.key_of texts h (key_in pairs k) ≡ arena.key_of texts h key → ⊥

    pub missing : (pairs : List (Value × Value)) → Each pairs → Misses pairs
        → value_of_key (plain_heap texts tuples h) (map (plain_pair texts tuples) pairs) (plain texts tuples key) ≡ None
    missing [] each unequal = refl
    missing (pair ∷ pairs) each unequal =
        rw (other_key pair (each zero (omega arith)) (unequal zero (omega arith))) (missing pairs (rest pair pairs each) (λ k lt. unequal (suc k) (omega arith)))

    pub with_new : (pairs : List (Value × Value)) (v : Value) → Each pairs → Misses pairs
        → with_key (plain_heap texts tuples h) (map (plain_pair texts tuples) pairs) (plain texts tuples key) (plain texts tuples v) ≡ map (plain_pair texts tuples) (pairs ++ (key, v) ∷ [])
    with_new [] v each unequal = refl
    with_new (pair ∷ pairs) v each unequal =
        rw (other_key pair (each zero (omega arith)) (unequal zero (omega arith)))
        (ap (λ (ps : List (Val × Val)). plain_pair texts tuples pair ∷ ps) (with_new pairs v (rest pair pairs each) (λ k lt. unequal (suc k) (omega arith))))

-- what is known of the keys of a dict
module _ (texts : StrNo → Option (List ℕ)) (tuples : ConstNo → Option (List Value)) (h : Heap Value ℕ) where
  known_keys : (o : Option ArenaObject) → kind_of o ≡ Some ADict → All (Leads h.objects) (held o) → IsFormed o → All (IsTold texts tuples) (held o)
      → (k : ℕ) → k < length (pairs_of o) → IsKnownKey texts tuples h (key_in (pairs_of o) k)
  known_keys (Some (DictObject pairs room)) is leads formed told k lt =
      let first : Value × Value → Value = λ pair. pair.0 in
      let keys = map first pairs in
      let count : length keys ≡ length pairs = length-map pairs first in
      let within : k < length keys = omega arith in
      let same : get_or keys k values.None ≡ key_in pairs k = get_or-map first pairs k no_pair values.None lt in
      let front : get_or (keys ++ map (λ (pair : Value × Value). pair.1) pairs) k values.None ≡ get_or keys k values.None =
      get_or_append_left keys (map (λ (pair : Value × Value). pair.1) pairs) values.None k within in
      let more : k < length (keys ++ map (λ (pair : Value × Value). pair.1) pairs) = omega (arith, length-append keys (map (λ (pair : Value × Value). pair.1) pairs)) in
      record {
        key = subst IsKey same (formed k values.None within);
        leads = subst (Leads h.objects) (front ∙ same) (leads k values.None more);
        told = subst (IsTold texts tuples) (front ∙ same) (told k values.None more);
      }
  known_keys _ is leads formed told k lt = absurd cc

  pub each_key : (d : ℕ) → IsA h.objects ADict d → Sound h.objects → AllTold texts tuples h.objects → (key : Value) (known : IsKnownKey texts tuples h key) → Each texts tuples h key known (pairs_at h d)
  each_key d is sound all key known = known_keys (object h.objects d) is (sound.leads d) (sound.formed d) (all.told d)

-- The keys of an arena's dicts are those of the meaning's.
use Rattle.std.proofs.Common.{◌≡◌, ℕ, zero, suc, ◌<◌, ℤ, List, [], ◌∷◌, Bool, true, false, cond, Option, Some, None, map, refl, ap, ◌∙◌, arith}
use Rattle.std.specs.Prelude.{IsSome, slice_get}
use Rattle.std.specs.Option.{option_map}
use Rattle.std.proofs.lemmas.Cmp.{int_eq_equiv}
use Rattle.std.proofs.lemmas.Bool.{false≢true}
use Rattle.std.proofs.lemmas.Bool.Decides.{Decides-int_eq}
use Rattle.std.proofs.lemmas.Slice.Eq.{bytes_eq-Decides}
use Rattle.arena_objects.specs.arena_heap.declared.value.Value.{Value}
use Rattle.arena_objects.specs.arena_heap.declared.value.Value.TheVariants as values
use Rattle.arena_objects.specs.arena_heap.declared.value.StrNo.{StrNo}
use Rattle.arena_objects.specs.arena_heap.declared.value.ConstNo.{ConstNo}
use Rattle.py_primitives.specs.mpy_base.World.{Heap}
use Rattle.py_primitives.specs.mpy_base.Val.{Val}
use Rattle.arena_objects.specs.arena_heap.Values.{Leads, IsKey}
use Rattle.arena_objects.specs.arena_heap.Constants.{IsTold}
use Rattle.arena_objects.specs.Keys.{key_of}
use Rattle.arena_objects.specs.Iterables.{or_nothing}
use Rattle.py_primitives.specs.py_values.Keys as plain_keys
use Rattle.py_primitives.specs.py_values.Keys.{PlainKey, NoneKey, NumberKey, TextKey, is_same_key, shown_key, value_of_key}
use Rattle.prim_walks.specs.Plain.{plain, plain_pair, plain_heap}
use Rattle.prim_walks.proofs.PlainValues.{text_shown}

same_self : (k : Option PlainKey) → IsSome k → is_same_key k k ≡ true
same_self (Some NoneKey) h = refl
same_self (Some (NumberKey z)) h = int_eq_equiv.refl z
same_self (Some (TextKey s)) h = (bytes_eq-Decides s s).1 refl
same_self None h = cc

same_is : (j k : Option PlainKey) → is_same_key j k ≡ true → j ≡ k
same_is (Some NoneKey) (Some NoneKey) h = refl
same_is (Some (NumberKey y)) (Some (NumberKey z)) h = ap (λ (n : ℤ). Some (NumberKey n)) ((Decides-int_eq y z).0 h)
same_is (Some (TextKey s)) (Some (TextKey t)) h = ap (λ (text : List ℕ). Some (TextKey text)) ((bytes_eq-Decides s t).0 h)
same_is j k h = absurd cc

-- keys that differ
differ : (j k : Option PlainKey) → (j ≡ k → ⊥) → is_same_key j k ≡ false
differ j k ne = by_test (is_same_key j k) refl
  where
    by_test : (b : Bool) → is_same_key j k ≡ b → b ≡ false
    by_test true e = absurd (ne (same_is j k e))
    by_test false e = refl

module _ (texts : StrNo → Option (List ℕ)) (tuples : ConstNo → Option (List Value)) (heap : Heap Value ℕ) where
  told_text : (o : Option (List ℕ)) → IsSome o → Some (TextKey (or_nothing o)) ≡ option_map TextKey o
  told_text (Some bytes) h = refl
  told_text None h = absurd (false≢true h)

  -- what a key is
  pub key_same : (v : Value) → IsKey v → Leads heap.objects v → IsTold texts tuples v → plain_keys.key_of (plain_heap texts tuples heap) (plain texts tuples v) ≡ key_of texts heap v
  key_same values.None k leads told = refl
  key_same (values.Bool true) k leads told = refl
  key_same (values.Bool false) k leads told = refl
  key_same (values.Int z) k leads told = refl
  key_same (values.Str s) k leads told = told_text (texts s) told
  key_same (values.Text t) k leads told = ap shown_key (text_shown texts tuples heap t.cell leads.meets)
  key_same _ k leads told = absurd k

  -- the keys of all pairs are what they are
  abbrev pub AllSame : List (Value × Value) → Type 0
  AllSame pairs = (k : ℕ) (p : Value × Value) → slice_get pairs k ≡ Some p → plain_keys.key_of (plain_heap texts tuples heap) (plain texts tuples (p.0)) ≡ key_of texts heap (p.0)

  module _ (key : Value) (is : plain_keys.key_of (plain_heap texts tuples heap) (plain texts tuples key) ≡ key_of texts heap key) (some : IsSome (key_of texts heap key)) where
    abbrev kept : List (Value × Value) → Option Val
    kept pairs = value_of_key (plain_heap texts tuples heap) (map (plain_pair texts tuples) pairs) (plain texts tuples key)

    found_by : (b : Bool) (p : Value × Value) (pairs : List (Value × Value)) → is_same_key (plain_keys.key_of (plain_heap texts tuples heap) (plain texts tuples (p.0))) (plain_keys.key_of (plain_heap texts tuples heap) (plain texts tuples key)) ≡ b
        → kept (p ∷ pairs) ≡ cond b (Some (plain texts tuples (p.1))) (kept pairs)
    found_by b p pairs e = ap (λ (t : Bool). cond t (Some (plain texts tuples (p.1))) (kept pairs)) e

    -- a pair with the key, and one with another
    pub kept_here : (p : Value × Value) (pairs : List (Value × Value)) → AllSame (p ∷ pairs) → key_of texts heap (p.0) ≡ key_of texts heap key → kept (p ∷ pairs) ≡ Some (plain texts tuples (p.1))
    kept_here p pairs all e =
        let own = all zero p refl in
        found_by true p pairs (ap (λ (k : Option PlainKey). is_same_key k (plain_keys.key_of (plain_heap texts tuples heap) (plain texts tuples key))) (own ∙ e)
        ∙ (ap (λ (k : Option PlainKey). is_same_key (key_of texts heap key) k) is ∙ same_self (key_of texts heap key) some))

    pub kept_behind : (p : Value × Value) (pairs : List (Value × Value)) → AllSame (p ∷ pairs) → (key_of texts heap (p.0) ≡ key_of texts heap key → ⊥) → kept (p ∷ pairs) ≡ kept pairs
    kept_behind p pairs all ne =
        let own = all zero p refl in
        found_by false p pairs (ap (λ (k : Option PlainKey). is_same_key k (plain_keys.key_of (plain_heap texts tuples heap) (plain texts tuples key))) own
        ∙ (ap (λ (k : Option PlainKey). is_same_key (key_of texts heap (p.0)) k) is ∙ differ (key_of texts heap (p.0)) (key_of texts heap key) ne))

    pub kept_at : (pairs : List (Value × Value)) (at : ℕ) (p : Value × Value) → AllSame pairs → slice_get pairs at ≡ Some p → key_of texts heap (p.0) ≡ key_of texts heap key
        → ((k : ℕ) (q : Value × Value) → k < at → slice_get pairs k ≡ Some q → key_of texts heap (q.0) ≡ key_of texts heap key → ⊥) → kept pairs ≡ Some (plain texts tuples (p.1))
    kept_at [] at p all e same first = absurd cc
    kept_at (q ∷ pairs) zero p all e same first =
        let is_p : q ≡ p = cc in
        kept_here q pairs all (ap (λ (r : Value × Value). key_of texts heap (r.0)) is_p ∙ same) ∙ ap (λ (r : Value × Value). Some (plain texts tuples (r.1))) is_p
    kept_at (q ∷ pairs) (suc at) p all e same first =
        kept_behind q pairs all (first zero q (omega arith) refl)
        ∙ kept_at pairs at p (λ k r f. all (suc k) r f) e same (λ k r lt f. first (suc k) r (omega arith) f)

    pub kept_nowhere : (pairs : List (Value × Value)) → AllSame pairs → ((k : ℕ) (q : Value × Value) → slice_get pairs k ≡ Some q → key_of texts heap (q.0) ≡ key_of texts heap key → ⊥) → kept pairs ≡ None
    kept_nowhere [] all none = refl
    kept_nowhere (q ∷ pairs) all none = kept_behind q pairs all (none zero q refl) ∙ kept_nowhere pairs (λ k r f. all (suc k) r f) (λ k r f. none (suc k) r f)

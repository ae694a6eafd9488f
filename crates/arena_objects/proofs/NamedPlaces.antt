-- From the number of a text to where the text stands in a dict.
use Rattle.std.proofs.Common.{ℕ, ◌≡◌, List, Option, Some, None, refl, sym, ◌∙◌, ap, subst}
use Rattle.std.specs.Prelude.{IsSome, slice_get}
use Rattle.std.specs.Option.{option_map, IfSome, IfNone}
use Rattle.arena_heap.specs.declared.value.Value.{Value}
use Rattle.arena_heap.specs.declared.value.Value.TheVariants as values
use Rattle.arena_heap.specs.declared.value.StrNo.{StrNo}
use Rattle.arena_heap.specs.declared.value.StrNo.TheVariants as strs
use Rattle.arena_heap.specs.declared.value.ConstNo.{ConstNo}
use Rattle.arena_heap.specs.Constants.{IsTold}
use Rattle.arena_heap.specs.Named.{IsNamed, IsNamedAt}
use Rattle.py_values.specs.mpy_base.World.{Heap, pairs_at}
use Rattle.py_values.specs.Keys.{TextKey}
use Rattle.arena_objects.specs.Keys.{key_of, key_in, StandsAt, Lacks}
use Rattle.arena_objects.proofs.Numbered.{numbers_same}
use Rattle.arena_objects.proofs.Places.{no_pair, read_pair}

first_of : (pair : Option (Value × Value)) (key : Value) → option_map (λ (p : Value × Value). p.0) pair ≡ Some key → (v : Value) × (pair ≡ Some (key, v))
first_of None key e = absurd cc
first_of (Some p) key e = let q : p.0 ≡ key = cc in (p.1, ap (λ (k : Value). Some (k, p.1)) q)

key_named : (pairs : List (Value × Value)) (at number : ℕ) → IsNamed pairs at number → key_in pairs at ≡ values.Str (strs.Pool number)
key_named pairs at number named =
    let key : Value = values.Str (strs.Pool number) in
    let read = first_of (slice_get pairs at) key named in
    ap (λ (pair : Value × Value). pair.0) (sym ((read_pair pairs at (key, read.0) (sym (read.1))).1 no_pair))

some_text : (text : Option (List ℕ)) → IsSome text → (bytes : List ℕ) × (text ≡ Some bytes)
some_text None told = absurd cc
some_text (Some bytes) told = (bytes, refl)

module _ (texts : StrNo → Option (List ℕ)) (tuples : ConstNo → Option (List Value)) (one_number : (text : List ℕ) (m n : ℕ) → texts (strs.Pool m) ≡ Some text → texts (strs.Pool n) ≡ Some text → m ≡ n) (heap : Heap Value ℕ) (d number : ℕ) (key : Value) (is : key ≡ values.Str (strs.Pool number)) (told : IsTold texts tuples key) where
  -- a text with another number is another key
  other_key : (at other : ℕ) → IsNamed (pairs_at heap d) at other → key_of texts heap (key_in (pairs_at heap d) at) ≡ key_of texts heap key → other ≡ number
  other_key at other named same =
      let text = some_text (texts (strs.Pool number)) (subst (IsTold texts tuples) is told) in
      let sought : option_map TextKey (texts (strs.Pool number)) ≡ Some (TextKey (text.0)) = ap (λ (t : Option (List ℕ)). option_map TextKey t) (text.1) in
      numbers_same texts one_number (TextKey (text.0)) other number sought
      (sym (ap (key_of texts heap) (key_named (pairs_at heap d) at other named)) ∙ (same ∙ (ap (key_of texts heap) is ∙ sought)))

  pub named_stands : (result : Option (Option ℕ)) → IfSome result (IsNamedAt (pairs_at heap d) number) → IfSome result (λ found. IfSome found (StandsAt texts heap d key))
  named_stands None named = tt
  named_stands (Some None) named = tt
  named_stands (Some (Some at)) named = record {
    within = named.0;
    equal = ap (key_of texts heap) (key_named (pairs_at heap d) at number (named.1) ∙ sym is);
    first = λ k lt same. let other = named.2 k lt in other.2 (other_key k (other.0) (other.1) same);
  }

  pub named_lacks : (result : Option (Option ℕ)) → IfSome result (IsNamedAt (pairs_at heap d) number) → IfSome result (λ found. IfNone found (Lacks texts heap d key))
  named_lacks None named = tt
  named_lacks (Some None) named = record { differs = λ k lt same. let other = named k lt in other.2 (other_key k (other.0) (other.1) same) }
  named_lacks (Some (Some at)) named = tt

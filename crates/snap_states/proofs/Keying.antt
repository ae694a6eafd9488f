-- Sets of keys.
use Rattle.std.proofs.Common.{◌≡◌, ℕ, ℤ, ◌||◌, not, inl, inr, ◌⊎◌, Bool, true, false, List, [], ◌∷◌, ◌++◌, refl, sym, ap, ◌∙◌, if◌then◌else◌}
use Rattle.std.specs.List.{list_any}
use Rattle.std.specs.Ordering.{int_eq}
use Rattle.std.specs.Str.{bytes_eq}
use Rattle.std.proofs.lemmas.Bool.{or_cases, or_left, or_right, false≢true}
use Rattle.std.proofs.lemmas.Bool.Decides.{Decides-int_eq}
use Rattle.std.proofs.lemmas.List.Folds.{list_any-append}
use Rattle.indexmap.specs.IndexSet.{insert_key}
use Rattle.prim_walks.specs.py_values.Keys.{PlainKey, NoneKey, NumberKey, TextKey}
use Rattle.snap_states.specs.Held.{Held, IsAdded, has_key, with_key}
use Rattle.snap_states.proofs.Gathering.{bytes_same, same_bytes}

-- one key is put
-- ==============

set_again : (held : Held) (b : Bool) → held.nothing ≡ b → record held { nothing = true } ≡ (if not b then record held { nothing = true } else held)
set_again held true is = ap (λ z. record held { nothing = z }) (sym is)
set_again held false is = refl

pub nothing_added : (held : Held) (was_new : Bool) → was_new ≡ not held.nothing → IsAdded held NoneKey (record held { nothing = true }) was_new
nothing_added held was_new is = record {
  tells = is;
  keys = set_again held held.nothing refl ∙ ap (λ b. if b then record held { nothing = true } else held) (sym is);
}

put_number : (held : Held) (z : ℤ) (found : Bool) → record held { numbers = (if found then held.numbers else held.numbers ++ z ∷ []) } ≡ (if not found then with_key held (NumberKey z) else held)
put_number held z true = refl
put_number held z false = refl

pub number_added : (held : Held) (numbers : List ℤ) (z : ℤ) (was_new : Bool) → was_new ≡ not (list_any (int_eq z) held.numbers) → numbers ≡ insert_key int_eq held.numbers z
    → IsAdded held (NumberKey z) (record held { numbers = numbers }) was_new
number_added held numbers z was_new tells is = record {
  tells = tells;
  keys =
      ap (λ ns. record held { numbers = ns }) is
      ∙ (put_number held z (list_any (int_eq z) held.numbers) ∙ ap (λ b. if b then with_key held (NumberKey z) else held) (sym tells));
}

put_text : (held : Held) (text : List ℕ) (was_new : Bool) → record held { texts = (if was_new then held.texts ++ text ∷ [] else held.texts) } ≡ (if was_new then with_key held (TextKey text) else held)
put_text held text true = refl
put_text held text false = refl

pub text_put : (held : Held) (texts : List (List ℕ)) (text : List ℕ) (was_new : Bool) → was_new ≡ not (list_any (bytes_eq text) held.texts) → texts ≡ (if was_new then held.texts ++ text ∷ [] else held.texts)
    → IsAdded held (TextKey text) (record held { texts = texts }) was_new
text_put held texts text was_new tells is = record { tells = tells; keys = ap (λ ts. record held { texts = ts }) is ∙ put_text held text was_new }

-- what is held then
-- =================

pub same_int : (y z : ℤ) → int_eq y z ≡ true → y ≡ z
same_int y z e = (Decides-int_eq y z).0 e

pub int_same : (y z : ℤ) → y ≡ z → int_eq y z ≡ true
int_same y z e = (Decides-int_eq y z).1 e

last_one : {A : Type 0} (p : A → Bool) (x : A) (b : Bool) → p x ≡ b → (p x || false) ≡ true → p x ≡ true
last_one p x true is e = is
last_one p x false is e = absurd (false≢true (sym (ap (λ b. b || false) is) ∙ e))

-- a key that is held now was, or is the new one
pub held_back : (held : Held) (key x : PlainKey) → has_key (with_key held key) x ≡ true → (has_key held x ≡ true) ⊎ (x ≡ key)
held_back held NoneKey NoneKey e = inr refl
held_back held NoneKey (NumberKey y) e = inl e
held_back held NoneKey (TextKey t) e = inl e
held_back held (NumberKey z) NoneKey e = inl e
held_back held (NumberKey z) (NumberKey y) e =
    elim (or_cases (list_any (int_eq y) held.numbers) (int_eq y z || false) (sym (list_any-append (int_eq y) held.numbers (z ∷ [])) ∙ e)) [
      | inl was ↦ inl was
      | inr now ↦ inr (ap NumberKey (same_int y z (last_one (int_eq y) z (int_eq y z) refl now)))
    ]
held_back held (NumberKey z) (TextKey t) e = inl e
held_back held (TextKey s) NoneKey e = inl e
held_back held (TextKey s) (NumberKey y) e = inl e
held_back held (TextKey s) (TextKey t) e =
    elim (or_cases (list_any (bytes_eq t) held.texts) (bytes_eq t s || false) (sym (list_any-append (bytes_eq t) held.texts (s ∷ [])) ∙ e)) [
      | inl was ↦ inl was
      | inr now ↦ inr (ap TextKey (same_bytes t s (last_one (bytes_eq t) s (bytes_eq t s) refl now)))
    ]

-- what was held is
pub held_on : (held : Held) (key x : PlainKey) → has_key held x ≡ true → has_key (with_key held key) x ≡ true
held_on held NoneKey NoneKey e = refl
held_on held NoneKey (NumberKey y) e = e
held_on held NoneKey (TextKey t) e = e
held_on held (NumberKey z) NoneKey e = e
held_on held (NumberKey z) (NumberKey y) e = list_any-append (int_eq y) held.numbers (z ∷ []) ∙ or_left (list_any (int_eq y) held.numbers) (int_eq y z || false) e
held_on held (NumberKey z) (TextKey t) e = e
held_on held (TextKey s) NoneKey e = e
held_on held (TextKey s) (NumberKey y) e = e
held_on held (TextKey s) (TextKey t) e = list_any-append (bytes_eq t) held.texts (s ∷ []) ∙ or_left (list_any (bytes_eq t) held.texts) (bytes_eq t s || false) e

-- the new one is
pub held_new : (held : Held) (key : PlainKey) → has_key (with_key held key) key ≡ true
held_new held NoneKey = refl
held_new held (NumberKey z) =
    list_any-append (int_eq z) held.numbers (z ∷ []) ∙ or_right (list_any (int_eq z) held.numbers) (int_eq z z || false) (or_left (int_eq z z) false (int_same z z refl))
held_new held (TextKey s) =
    list_any-append (bytes_eq s) held.texts (s ∷ []) ∙ or_right (list_any (bytes_eq s) held.texts) (bytes_eq s s || false) (or_left (bytes_eq s s) false (bytes_same s s refl))

pub none_held : (x : PlainKey) → has_key (record { nothing = false; numbers = []; texts = [] }) x ≡ false
none_held NoneKey = refl
none_held (NumberKey z) = refl
none_held (TextKey t) = refl

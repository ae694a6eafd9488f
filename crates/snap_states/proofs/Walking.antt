-- Walks over the keys of a dict, and over registered modules.
use Rattle.std.proofs.Common.{◌≡◌, ℕ, ◌+◌, ◌<◌, ◌≤◌, ◌||◌, not, inl, inr, Bool, true, false, List, [], ◌∷◌, ◌++◌, length, get_or, Option, Some, None, refl, sym, ap, subst, ◌∙◌, arith, if◌then◌else◌}
use Rattle.std.specs.Prelude.{IsSome, slice_get, option_and_then}
use Rattle.std.specs.Str.{bytes_eq}
use Rattle.std.proofs.lemmas.Bool.{or_cases, or_left, or_right, false≢true, not-true, not-false}
use Rattle.std.proofs.lemmas.List.Folds.{list_any-append}
use Rattle.std.proofs.lemmas.Option.{slice_get-get_or, slice_get_read, slice_get_within}
use Rattle.prim_walks.specs.py_values.Keys.{PlainKey}
use Rattle.snap_grammar.specs.declared.parts.PairPart.{PairPart}
use Rattle.snap_grammar.specs.declared.parts.Snapshot.{Snapshot}
use Rattle.snap_states.specs.Held.{Held, IsAdded, has_key, with_key}
use Rattle.snap_states.specs.Knowing.{AreOnce, HaveOnce, holds, registered_at}
use Rattle.snap_states.specs.States.{key_in_part, key_of_part, registered_name}
use Rattle.snap_states.proofs.Gathering.{bytes_same, same_bytes}
use Rattle.snap_states.proofs.Keying.{held_back, held_new, held_on, none_held}
use Rattle.snap_states.proofs.Seeing.{Seen, none_seen, one_seen, comes_twice}

-- keys of a dict
-- ==============

module _ (s : Snapshot) (pairs : List PairPart) where
  pub no_keys : Seen (key_in_part s pairs) 0 (has_key (record { nothing = false; numbers = []; texts = [] }))
  no_keys = none_seen (key_in_part s pairs) (has_key (record { nothing = false; numbers = []; texts = [] })) none_held

  pub key_here : (i : ℕ) (p : PairPart) → i < length pairs → p ≡ get_or pairs i p → key_in_part s pairs i ≡ key_of_part s p.key
  key_here i p lt is = ap (option_and_then (λ (q : PairPart). key_of_part s q.key)) (slice_get_read pairs (length pairs) i p refl lt is)

  -- a key that was new
  pub key_seen : (i : ℕ) (old new : Held) (key : PlainKey) → Seen (key_in_part s pairs) i (has_key old) → key_in_part s pairs i ≡ Some key → (b : Bool) → b ≡ true → IsAdded old key new b
      → Seen (key_in_part s pairs) (i + 1) (has_key new)
  key_seen i old new key seen here b is added =
      let never : has_key old key ≡ false = not-true (has_key old key) (sym added.tells ∙ is) in
      let keys : new ≡ with_key old key = added.keys ∙ ap (λ z. if z then with_key old key else old) is in
      subst (λ z. Seen (key_in_part s pairs) (i + 1) (has_key z)) (sym keys)
      (one_seen (key_in_part s pairs) i (has_key old) (has_key (with_key old key)) key seen here never (λ x e. held_back old key x e) (λ x e. held_on old key x e) (held_new old key))

  -- a key that wasn't
  pub key_twice : (i : ℕ) (old new : Held) (key : PlainKey) → Seen (key_in_part s pairs) i (has_key old) → key_in_part s pairs i ≡ Some key → (b : Bool) → b ≡ false → IsAdded old key new b
      → i < length pairs → AreOnce s pairs (length pairs) → ⊥
  key_twice i old new key seen here b is added lt once =
      comes_twice (key_in_part s pairs) i (length pairs) (has_key old) key seen here (not-false (has_key old key) (sym added.tells ∙ is)) lt once

  pub keys_once : (i : ℕ) (held : Held) → length pairs ≤ i → Seen (key_in_part s pairs) i (has_key held) → AreOnce s pairs (length pairs)
  keys_once i held le seen a b lt below e = seen.once a b lt (omega (arith, below, le)) e

-- a key is there
pub key_there : {A : Type 0} (o : Option A) → IsSome o → (x : A) × (o ≡ Some x)
key_there None h = absurd (false≢true h)
key_there (Some x) h = (x, refl)

-- registered modules
-- ==================

module _ (s : Snapshot) (numbers : List ℕ) where
  pub no_names : Seen (registered_at s numbers) 0 (holds [])
  no_names = none_seen (registered_at s numbers) (holds []) (λ k. refl)

  pub name_here : (i d : ℕ) → i < length numbers → registered_at s numbers i ≡ registered_name s (get_or numbers i d)
  name_here i d lt = ap (option_and_then (registered_name s)) (slice_get-get_or numbers i d lt)

  last_one : (a b : List ℕ) (c : Bool) → bytes_eq a b ≡ c → (bytes_eq a b || false) ≡ true → bytes_eq a b ≡ true
  last_one a b true is e = is
  last_one a b false is e = absurd (false≢true (sym (ap (λ z. z || false) is) ∙ e))

  pub name_seen : (i : ℕ) (old new : List (List ℕ)) (name : List ℕ) → Seen (registered_at s numbers) i (holds old) → registered_at s numbers i ≡ Some name → (b : Bool) → b ≡ true
      → b ≡ not (holds old name) → new ≡ (if b then old ++ name ∷ [] else old) → Seen (registered_at s numbers) (i + 1) (holds new)
  name_seen i old new name seen here b is tells keys =
      let never : holds old name ≡ false = not-true (holds old name) (sym tells ∙ is) in
      let more : new ≡ old ++ name ∷ [] = keys ∙ ap (λ z. if z then old ++ name ∷ [] else old) is in
      subst (λ z. Seen (registered_at s numbers) (i + 1) (holds z)) (sym more)
      (one_seen (registered_at s numbers) i (holds old) (holds (old ++ name ∷ [])) name seen here never
      (λ x e. elim (or_cases (holds old x) (bytes_eq x name || false) (sym (list_any-append (bytes_eq x) old (name ∷ [])) ∙ e)) [
        | inl was ↦ inl was
        | inr now ↦ inr (same_bytes x name (last_one x name (bytes_eq x name) refl now))
      ])
      (λ x e. list_any-append (bytes_eq x) old (name ∷ []) ∙ or_left (holds old x) (bytes_eq x name || false) e)
      (list_any-append (bytes_eq name) old (name ∷ []) ∙ or_right (holds old name) (bytes_eq name name || false) (or_left (bytes_eq name name) false (bytes_same name name refl))))

  at_index : (i : ℕ) (o : Option ℕ) → slice_get numbers i ≡ o → (name : List ℕ) → registered_at s numbers i ≡ Some name → (m : ℕ) × (slice_get numbers i ≡ Some m) × (registered_name s m ≡ Some name)
  at_index i None is name e = let none : registered_at s numbers i ≡ None = ap (option_and_then (registered_name s)) is in absurd cc
  at_index i (Some m) is name e = (m, is, sym (ap (option_and_then (registered_name s)) is) ∙ e)

  pub name_twice : (i : ℕ) (old : List (List ℕ)) (name : List ℕ) → Seen (registered_at s numbers) i (holds old) → registered_at s numbers i ≡ Some name → (b : Bool) → b ≡ false
      → b ≡ not (holds old name) → HaveOnce s numbers → ⊥
  name_twice i old name seen here b is tells once =
      let f = seen.held name (not-false (holds old name) (sym tells ∙ is)) in
      let one = at_index f.0 (slice_get numbers f.0) refl name f.2 in
      let two = at_index i (slice_get numbers i) refl name here in
      once f.0 i one.0 two.0 f.1 one.1 two.1 (one.2 ∙ sym two.2)

  pub names_once : (i : ℕ) (set : List (List ℕ)) → length numbers ≤ i → Seen (registered_at s numbers) i (holds set) → HaveOnce s numbers
  names_once i set le seen a b m n lt at_a at_b e =
      seen.once a b lt (let below = slice_get_within numbers b n at_b in omega (arith, below, le))
      (ap (option_and_then (registered_name s)) at_a ∙ (e ∙ sym (ap (option_and_then (registered_name s)) at_b)))

-- Registered modules of a program: fewer of them, one more, and how many there are.
use Rattle.std.proofs.Common.{◌≡◌, ◌<◌, ℕ, List, [], ◌∷◌, ◌++◌, length, filter, Bool, true, false, not, cond, Option, Some, None, All, refl, sym, ap, ◌∙◌, subst, arith}
use Rattle.std.specs.Prelude.{Contains, bytes_eq, ◌||◌}
use Rattle.std.specs.Cmp.{IsEquivalence}
use Rattle.std.specs.List.{IsDistinct, AllByRecursion, list_any}
use Rattle.std.specs.Map.{keys_of}
use Rattle.std.proofs.lemmas.Slice.Eq.{bytes_eq-Decides}
use Rattle.std.proofs.lemmas.List.Elements.{All-nil, All-cons, All-head, All-tail, All-filter, All-contains}
use Rattle.std.proofs.lemmas.Map.Entries.{length-keys_of}
use Rattle.std.proofs.lemmas.Map.Keys.{IsDistinct-cons, IsDistinct-push}
use Rattle.std.proofs.lemmas.Map.Made.{length-le_from_is_member, is_member-Decides, IsDistinct-keys_filter}
use Rattle.bc_progress.specs.py_effects.Modules.{registered_as}
use Rattle.vm_states.specs.bc_machine.Library.{Name}
use Rattle.state_exits.specs.Own.{AreOwn}

-- texts
-- =====

same_bytes : (a b : Name) → bytes_eq a b ≡ true → a ≡ b
same_bytes a b h = (bytes_eq-Decides a b).0 h

bytes_same : (a b : Name) → a ≡ b → bytes_eq a b ≡ true
bytes_same a b h = (bytes_eq-Decides a b).1 h

flips_by : (a b : Name) (r s : Bool) → bytes_eq a b ≡ r → bytes_eq b a ≡ s → r ≡ s
flips_by a b true true x y = refl
flips_by a b false false x y = refl
flips_by a b true false x y = let h : false ≡ true = sym y ∙ bytes_same b a (sym (same_bytes a b x)) in absurd cc
flips_by a b false true x y = let h : false ≡ true = sym x ∙ bytes_same a b (sym (same_bytes b a y)) in absurd cc

flips : (a b : Name) → bytes_eq a b ≡ bytes_eq b a
flips a b = flips_by a b (bytes_eq a b) (bytes_eq b a) refl refl

texts_laws : IsEquivalence bytes_eq
texts_laws = record {
  refl = λ a. bytes_same a a refl;
  symm = flips;
  congr = λ a b c h. ap (λ (z : Name). bytes_eq z c) (same_bytes a b h);
}

-- a name that is none of the registered ones
-- ==========================================

absent_by : (b : Bool) (n : ℕ) (o : Option ℕ) → cond b (Some n) o ≡ None → (b ≡ false) × (o ≡ None)
absent_by true n o h = absurd cc
absent_by false n o h = (refl, h)

absent : (ms : List (Name × ℕ)) (name : Name) → registered_as ms name ≡ None → AllByRecursion (λ other. bytes_eq name other ≡ false) (keys_of ms)
absent [] name h = tt
absent (m ∷ ms) name h = let x = absent_by (bytes_eq (m.0) name) (m.1) (registered_as ms name) h in (flips name (m.0) ∙ x.0, absent ms name x.1)

keys_all : (P : Name → Type 0) (ms : List (Name × ℕ)) → All (λ (m : Name × ℕ). P (m.0)) ms → All P (keys_of ms)
keys_all P [] h = All-nil P
keys_all P (m ∷ ms) h = let Q : Name × ℕ → Type 0 = λ x. P (x.0) in All-cons P (m.0) (keys_of ms) (All-head Q m ms h) (keys_all P ms (All-tail Q m ms h))

module _ (names : List Name) where
  -- fewer
  pub own_fewer : (name : Name) (ms : List (Name × ℕ)) → AreOwn names ms → AreOwn names (filter (λ (m : Name × ℕ). not (bytes_eq (m.0) name)) ms)
  own_fewer name ms own = record {
    named = All-filter (λ (m : Name × ℕ). not (bytes_eq (m.0) name)) (λ (m : Name × ℕ). Contains names (m.0)) ms own.named;
    once = IsDistinct-keys_filter bytes_eq (λ (m : Name × ℕ). not (bytes_eq (m.0) name)) ms own.once;
  }

  -- at most as many as the program's modules and the main one, and fewer where a name is none of theirs
  pub few : (ms : List (Name × ℕ)) (name : Name) → AreOwn names ms → Contains names name → registered_as ms name ≡ None → length ms < length names
  few ms name own has none =
      let xs : List Name = name ∷ keys_of ms in
      let ys : List Name = names in
      let all : All (Contains ys) xs = All-cons (Contains ys) name (keys_of ms) has (keys_all (Contains ys) ms own.named) in
      let distinct : IsDistinct bytes_eq xs = IsDistinct-cons bytes_eq name (keys_of ms) (absent ms name none) own.once in
      let le = length-le_from_is_member texts_laws xs ys distinct (λ q h. (is_member-Decides bytes_eq-Decides ys q).1 (All-contains (Contains ys) xs q all ((is_member-Decides bytes_eq-Decides xs q).0 h))) in
      let keys = length-keys_of ms in
      omega (arith, le, keys)

  one_by : (P : Name × ℕ → Type 0) (ms : List (Name × ℕ)) (m : Name × ℕ) → All P ms → P m → All P (ms ++ m ∷ [])
  one_by P [] m h k = All-cons P m [] k (All-nil P)
  one_by P (x ∷ ms) m h k = All-cons P x (ms ++ m ∷ []) (All-head P x ms h) (one_by P ms m (All-tail P x ms h) k)

  keys_more : (ms : List (Name × ℕ)) (m : Name × ℕ) → keys_of (ms ++ m ∷ []) ≡ keys_of ms ++ (m.0) ∷ []
  keys_more [] m = refl
  keys_more (x ∷ ms) m = ap (λ (z : List Name). x.0 ∷ z) (keys_more ms m)

  none_of : (name : Name) (keys : List Name) → AllByRecursion (λ other. bytes_eq name other ≡ false) keys → list_any (bytes_eq name) keys ≡ false
  none_of name [] h = refl
  none_of name (k ∷ keys) h = ap (λ (b : Bool). b || list_any (bytes_eq name) keys) h.0 ∙ none_of name keys h.1

  -- one more, whose name is one of these and isn't there
  pub own_more : (ms : List (Name × ℕ)) (name : Name) (number : ℕ) → AreOwn names ms → Contains names name → registered_as ms name ≡ None → AreOwn names (ms ++ (name, number) ∷ [])
  own_more ms name number own has none = record {
    named = one_by (λ (m : Name × ℕ). Contains names (m.0)) ms (name, number) own.named has;
    once = subst (IsDistinct bytes_eq) (sym (keys_more ms (name, number)))
        (IsDistinct-push texts_laws (keys_of ms) name own.once (none_of name (keys_of ms) (absent ms name none)));
  }

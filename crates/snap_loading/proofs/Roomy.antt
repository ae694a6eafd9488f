-- There is room for the registered modules of a snapshot: their names differ, and each is one of the library's or `__main__`.
use Rattle.std.proofs.Common.{◌≡◌, ℕ, zero, suc, ◌+◌, ◌<◌, ◌≤◌, List, [], ◌∷◌, length, map, Bool, true, false, Some, refl, sym, ap, ◌∙◌, subst, arith, All}
use Rattle.std.specs.Prelude.{Contains, bytes_eq, codes}
use Rattle.std.specs.Cmp.{IsEquivalence}
use Rattle.std.specs.List.{IsDistinct}
use Rattle.std.specs.Map.{keys_of}
use Rattle.std.proofs.lemmas.List.{length-map}
use Rattle.std.proofs.lemmas.List.Elements.{All-nil, All-cons, All-head, All-tail, All-contains}
use Rattle.std.proofs.lemmas.Map.Entries.{length-keys_of}
use Rattle.std.proofs.lemmas.Map.Made.{length-le_from_is_member, is_member-Decides}
use Rattle.std.proofs.lemmas.Slice.Eq.{bytes_eq-Decides}
use Rattle.mpy_base.specs.declared.limits.TheConstants.{MAX_MODULES}
use Rattle.bc_library.specs.Constants.{items_at, text_at}
use Rattle.bc_library.specs.Shelf.{Shelf, Named, names}
use Rattle.vm_starting.specs.vm_states.prim_modules.Registry.{plain_entry, plain_modules}
use Rattle.vm_kept.specs.state_exits.Own.{AreOwn}
use Rattle.snap_grammar.specs.declared.parts.Snapshot.{Snapshot}
use Rattle.snap_states.specs.States.{AreFineObjects, AreRegisteredParts}
use Rattle.snap_states.specs.Decoded.{entry_of, modules_of}
use Rattle.snap_loading.specs.Given.{IsLibrary}
use Rattle.snap_loading.proofs.Registering.{own}

-- texts as keys
-- =============

same_bytes : (a b : List ℕ) → bytes_eq a b ≡ true → a ≡ b
same_bytes a b h = (bytes_eq-Decides a b).0 h

bytes_same : (a b : List ℕ) → a ≡ b → bytes_eq a b ≡ true
bytes_same a b h = (bytes_eq-Decides a b).1 h

flips_by : (a b : List ℕ) (r s : Bool) → bytes_eq a b ≡ r → bytes_eq b a ≡ s → r ≡ s
flips_by a b true true x y = refl
flips_by a b false false x y = refl
flips_by a b true false x y = let h : false ≡ true = sym y ∙ bytes_same b a (sym (same_bytes a b x)) in absurd cc
flips_by a b false true x y = let h : false ≡ true = sym x ∙ bytes_same a b (sym (same_bytes b a y)) in absurd cc

texts_laws : IsEquivalence bytes_eq
texts_laws = record {
  refl = λ a. bytes_same a a refl;
  symm = λ a b. flips_by a b (bytes_eq a b) (bytes_eq b a) refl refl;
  congr = λ a b c h. ap (λ (z : List ℕ). bytes_eq z c) (same_bytes a b h);
}

keys_all : (P : List ℕ → Type 0) (ms : List (List ℕ × ℕ)) → All (λ (m : List ℕ × ℕ). P (m.0)) ms → All P (keys_of ms)
keys_all P [] h = All-nil P
keys_all P (m ∷ ms) h = let Q : List ℕ × ℕ → Type 0 = λ x. P (x.0) in All-cons P (m.0) (keys_of ms) (All-head Q m ms h) (keys_all P ms (All-tail Q m ms h))

-- modules that have some of these names, none twice, are no more than the names
own_few : (ys : List (List ℕ)) (ms : List (List ℕ × ℕ)) → AreOwn ys ms → length ms ≤ length ys
own_few ys ms is =
    let all : All (Contains ys) (keys_of ms) = keys_all (Contains ys) ms is.named in
    let le = length-le_from_is_member texts_laws (keys_of ms) ys is.once
    (λ q h. (is_member-Decides bytes_eq-Decides ys q).1 (All-contains (Contains ys) (keys_of ms) q all ((is_member-Decides bytes_eq-Decides (keys_of ms) q).0 h))) in
    let keys = length-keys_of ms in
    omega (arith, le, keys)

-- those of a snapshot
-- ===================

pub few_modules : (shelf : Shelf) (s : Snapshot) → IsLibrary shelf → AreFineObjects shelf s → AreRegisteredParts s → length s.modules ≤ MAX_MODULES + 1
few_modules shelf s is fine registered =
    let le = own_few (codes "__main__" ∷ names shelf) (plain_modules (text_at shelf) (items_at shelf) (modules_of shelf s)) (own shelf s (λ m code. 0) is fine registered) in
    let plain = length-map (modules_of shelf s).entries (plain_entry (text_at shelf) (items_at shelf)) in
    let entries = length-map s.modules (entry_of shelf s) in
    let named = length-map shelf.modules (λ (m : Named). m.name) in
    let few = is.few in
    omega (arith, le, plain, entries, named, few)

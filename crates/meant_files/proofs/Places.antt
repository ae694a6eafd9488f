-- Modules of a library by their names, and entries of a program that have the same.
use Rattle.std.proofs.Common.{◌≡◌, ℕ, zero, suc, ◌+◌, ◌<◌, ◌≤◌, Bool, true, false, not, cond, List, [], ◌∷◌, length, map, Option, Some, None, position, nat_lt, refl, sym, ap, subst, ◌∙◌, arith, if◌then◌else◌}
use Rattle.std.specs.Prelude.{⊤, slice_get, option_and_then, option_map}
use Rattle.std.specs.List.{list_any, position_or_len}
use Rattle.std.specs.Str.{bytes_eq}
use Rattle.std.proofs.lemmas.Slice.Eq.{bytes_eq-Decides}
use Rattle.std.proofs.lemmas.Bool.Decides.{nat_tests}
use Rattle.tr_source.specs.bc_scheme.mpy_tree.Raw.{Module}
use Rattle.image_open.specs.bc_library.declared.fault.Member.TheVariants as members
use Rattle.image_open.specs.bc_library.Shelf.{Shelf, Named, member_by, member_of, module_at}
use Rattle.tr_source.specs.bc_scheme.py_meaning.Tree.{Name}
use Rattle.tr_source.specs.bc_scheme.py_meaning.Program.{Unit, Entry, Runs, Refused, entry_in}
use Rattle.meant_runs.specs.Units.{IsUnitFile, HasUnit, HasEntry}

-- names
-- =====

same_name : (a b : Name) → bytes_eq a b ≡ true → a ≡ b
same_name a b e = (bytes_eq-Decides a b).0 e

other_way : (a b : Name) (c : Bool) → bytes_eq a b ≡ c → bytes_eq b a ≡ c
other_way a b true e = (bytes_eq-Decides b a).1 (sym (same_name a b e))
other_way a b false e = by (bytes_eq b a) refl
  where
    by : (d : Bool) → bytes_eq b a ≡ d → bytes_eq b a ≡ false
    by true f = let same : bytes_eq a b ≡ true = (bytes_eq-Decides a b).1 (sym (same_name b a f)) in cc
    by false f = f

-- places
-- ======

one_on : (k n : ℕ) → cond (nat_lt (1 + k) (suc n)) (Some (1 + k)) None ≡ option_map suc (cond (nat_lt k n) (Some k) None)
one_on k n = by (nat_lt k n) refl
  where
    by : (b : Bool) → nat_lt k n ≡ b → cond (nat_lt (1 + k) (suc n)) (Some (1 + k)) None ≡ option_map suc (cond b (Some k) None)
    by true e =
        let below : nat_lt (1 + k) (suc n) ≡ true = grind (arith, nat_tests) in
        let next : 1 + k ≡ suc k = omega arith in
        ap (λ (c : Bool). cond c (Some (1 + k)) None) below ∙ ap Some next
    by false e = let past : nat_lt (1 + k) (suc n) ≡ false = grind (arith, nat_tests) in ap (λ (c : Bool). cond c (Some (1 + k)) None) past

module _ {A : Type 0} (p : A → Bool) (x : A) (xs : List A) where
  here : p x ≡ true → position p (x ∷ xs) ≡ Some 0
  here e =
      let below : nat_lt 0 (suc (length xs)) ≡ true = grind (arith, nat_tests) in
      ap (λ (b : Bool). let k = cond (not b) (1 + position_or_len p xs) 0 in cond (nat_lt k (suc (length xs))) (Some k) None) e
      ∙ ap (λ (c : Bool). cond c (Some 0) None) below

  beyond : p x ≡ false → position p (x ∷ xs) ≡ option_map suc (position p xs)
  beyond e =
      ap (λ (b : Bool). let k = cond (not b) (1 + position_or_len p xs) 0 in cond (nat_lt k (suc (length xs))) (Some k) None) e
      ∙ one_on (position_or_len p xs) (length xs)

-- modules and entries
-- ===================

-- one entry of each module, in order: it has the module's name, and the module is a file of its unit
abbrev pub Matched : List Named → List (Name × Entry) → Type 0
Matched [] [] = ⊤
Matched [] (e ∷ entries) = ⊥
Matched (n ∷ modules) [] = ⊥
Matched (n ∷ modules) (e ∷ entries) = ((unit : Unit) × (e ≡ (n.name, Runs unit)) × IsUnitFile unit n.held) × Matched modules entries

abbrev names_of : List Named → List Name
names_of modules = map (λ n. n.name) modules

module _ (name : Name) where
  -- where modules have what a program has under the name
  abbrev pub HasIn : List Named → Option Entry → Type 0
  HasIn modules (Some (Runs unit)) =
      (place : ℕ) × (position (bytes_eq name) (names_of modules) ≡ Some place) × (n : Named) × (slice_get modules place ≡ Some n) × IsUnitFile unit n.held
  HasIn modules (Some Refused) = ⊥
  HasIn modules None = position (bytes_eq name) (names_of modules) ≡ None

  has_next : (n : Named) (modules : List Named) (entry : Option Entry) → bytes_eq name n.name ≡ false → HasIn modules entry → HasIn (n ∷ modules) entry
  has_next n modules (Some (Runs unit)) e h = (suc h.0, beyond (bytes_eq name) n.name (names_of modules) e ∙ ap (option_map suc) h.1, h.2, h.3, h.4)
  has_next n modules (Some Refused) e h = absurd h
  has_next n modules None e h = beyond (bytes_eq name) n.name (names_of modules) e ∙ ap (option_map suc) h

  has_first : (n : Named) (modules : List Named) (e : Name × Entry) (unit : Unit) → e ≡ (n.name, Runs unit) → IsUnitFile unit n.held → bytes_eq e.0 name ≡ true → HasIn (n ∷ modules) (Some e.1)
  has_first n modules e unit is file same =
      let named : bytes_eq n.name name ≡ true = ap (λ (p : Name × Entry). bytes_eq p.0 name) (sym is) ∙ same in
      subst (λ (entry : Entry). HasIn (n ∷ modules) (Some entry)) (ap (λ (p : Name × Entry). p.1) (sym is))
      (0, here (bytes_eq name) n.name (names_of modules) (other_way n.name name true named), n, refl, file)

  pub has_in : (modules : List Named) (entries : List (Name × Entry)) → Matched modules entries → HasIn modules (entry_in entries name)
  has_in [] [] m = refl
  has_in [] (e ∷ entries) m = absurd m
  has_in (n ∷ modules) [] m = absurd m
  has_in (n ∷ modules) (e ∷ entries) m = by (bytes_eq e.0 name) refl (has_in modules entries m.1)
    where
      by : (b : Bool) → bytes_eq e.0 name ≡ b → HasIn modules (entry_in entries name) → HasIn (n ∷ modules) (if b then Some e.1 else entry_in entries name)
      by true f more = has_first n modules e m.0.0 m.0.1 m.0.2 f
      by false f more =
          let named : bytes_eq n.name name ≡ false = ap (λ (p : Name × Entry). bytes_eq p.0 name) (sym m.0.1) ∙ f in
          has_next n modules (entry_in entries name) (other_way n.name name false named) more

  -- in a library of these modules alone
  -- ===================================

  module _ (shelf : Shelf) (none_refused : shelf.refused ≡ []) where
    held_at : (place : ℕ) (n : Named) → slice_get shelf.modules place ≡ Some n → module_at shelf place ≡ Some n.held
    held_at place n e = ap (option_and_then (λ (k : Named). Some k.held)) e

    pub has_entry : (entry : Option Entry) → HasIn shelf.modules entry → HasEntry shelf name entry
    has_entry (Some (Runs unit)) h = record {
      place = h.0;
      found = ap (λ (place : Option ℕ). member_by place (list_any (bytes_eq name) shelf.refused)) h.1;
      file = h.2.held;
      held = held_at h.0 h.2 h.3;
      is_file = h.4;
    }
    has_entry (Some Refused) h = absurd h
    has_entry None h =
        ap (λ (place : Option ℕ). member_by place (list_any (bytes_eq name) shelf.refused)) h
        ∙ ap (λ (refused : List Name). member_by None (list_any (bytes_eq name) refused)) none_refused

    -- a name that leads to a module is one of the program's
    pub has_unit : (entry : Option Entry) → HasIn shelf.modules entry → (place : ℕ) → member_of shelf name ≡ Some (members.Module place) → (unit : Unit) × (entry ≡ Some (Runs unit))
    has_unit (Some (Runs unit)) h place found = (unit, refl)
    has_unit (Some Refused) h place found = absurd h
    has_unit None h place found = let none : member_of shelf name ≡ None = has_entry None h in let same = sym found ∙ none in cc

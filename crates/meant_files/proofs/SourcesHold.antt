-- A library of files that grows with the entries of a program.
use Rattle.std.proofs.Common.{◌≡◌, ℕ, zero, suc, ◌+◌, ◌≤◌, Bool, true, false, not, cond, eqb, List, [], ◌∷◌, ◌++◌, length, Option, Some, None, position, refl, sym, ap, ap₂, subst, ◌∙◌, arith, length-append, if◌then◌else◌}
use Rattle.std.specs.Prelude.{slice_get, option_and_then, nat_lt, IsSome}
use Rattle.std.specs.List.{list_any, position_or_len}
use Rattle.std.specs.Str.{bytes_eq}
use Rattle.std.proofs.lemmas.Slice.Eq.{bytes_eq-Decides}
use Rattle.std.proofs.lemmas.List.{length-map, map-append}
use Rattle.std.proofs.lemmas.List.Folds.{position_or_len_push}
use Rattle.std.proofs.lemmas.Bool.Decides.{nat_tests}
use Rattle.image_open.proofs.qstr_pool_lemmas.Places.{pushed, absent}
use Rattle.tr_source.specs.bc_scheme.mpy_tree.Raw.{Module}
use Rattle.image_open.specs.bc_library.declared.fault.Member.{Member}
use Rattle.image_open.specs.bc_library.declared.fault.Member.TheVariants as members
use Rattle.image_open.specs.bc_library.Shelf.{Shelf, Named, names, no_entries, with_module, member_by, member_of, module_at}
use Rattle.tr_source.specs.bc_scheme.py_meaning.Tree.{Name}
use Rattle.tr_source.specs.bc_scheme.py_meaning.Program.{Unit, Entry, Runs, Refused, entry_in}
use Rattle.meant_runs.specs.Units.{IsUnitFile, HasUnit, HasEntry}

-- names
-- =====

same_name : (a b : Name) → bytes_eq a b ≡ true → a ≡ b
same_name a b e = (bytes_eq-Decides a b).0 e

eq_self : (a : Name) → bytes_eq a a ≡ true
eq_self a = (bytes_eq-Decides a a).1 refl

eq_other : (a b : Name) → bytes_eq a b ≡ false → bytes_eq b a ≡ false
eq_other a b e = by (bytes_eq b a) refl
  where
    by : (c : Bool) → bytes_eq b a ≡ c → c ≡ false
    by true f = let same : bytes_eq a b ≡ true = (bytes_eq-Decides a b).1 (sym (same_name b a f)) in cc
    by false f = refl

-- places
-- ======

not_past : {A : Type 0} (p : A → Bool) (xs : List A) → position_or_len p xs ≤ length xs
not_past p [] = omega arith
not_past p (x ∷ xs) = by (p x) (position_or_len p xs) (not_past p xs)
  where
    by : (b : Bool) (n : ℕ) → n ≤ length xs → cond (not b) (1 + n) 0 ≤ suc (length xs)
    by true n le = omega arith
    by false n le = omega (arith, le)

settled : (n l : ℕ) → n ≤ l → (let k = cond (eqb n l) (l + 1) n in cond (nat_lt k (l + 1)) (Some k) None ≡ cond (nat_lt n l) (Some n) None)
settled n l le = grind (arith, nat_tests)

place_other : (texts : List Name) (x name : Name) → bytes_eq x name ≡ false → position (bytes_eq x) (texts ++ name ∷ []) ≡ position (bytes_eq x) texts
place_other texts x name e =
    let n = position_or_len (bytes_eq x) texts in
    let long : length (texts ++ name ∷ []) ≡ length texts + 1 = length-append texts (name ∷ []) in
    let moved : position_or_len (bytes_eq x) (texts ++ name ∷ []) ≡ cond (eqb n (length texts)) (length texts + 1) n =
    position_or_len_push (bytes_eq x) texts name ∙ ap (λ (b : Bool). cond (eqb n (length texts)) (length texts + cond b 0 1) n) e in
    ap₂ (λ (k l : ℕ). cond (nat_lt k l) (Some k) None) moved long ∙ settled n (length texts) (not_past (bytes_eq x) texts)

get_front : {A : Type 0} (xs ys : List A) (i : ℕ) (x : A) → slice_get xs i ≡ Some x → slice_get (xs ++ ys) i ≡ Some x
get_front [] ys i x e = absurd cc
get_front (y ∷ xs) ys zero x e = e
get_front (y ∷ xs) ys (suc i) x e = get_front xs ys i x e

get_last : {A : Type 0} (xs : List A) (x : A) → slice_get (xs ++ x ∷ []) (length xs) ≡ Some x
get_last [] x = refl
get_last (y ∷ xs) x = get_last xs x

-- a further module
-- ================

no_place : (place : Option ℕ) (b : Bool) → member_by place b ≡ None → place ≡ None
no_place (Some i) b e = absurd cc
no_place None b e = refl

module _ (shelf : Shelf) (name : Name) (m : Module) where
  names_with : names (with_module shelf name m) ≡ names shelf ++ name ∷ []
  names_with = map-append (λ (n : Named). n.name) shelf.modules (record { name = name; held = m } ∷ [])

  member_new : member_of shelf name ≡ None → member_of (with_module shelf name m) name ≡ Some (members.Module (length (names shelf)))
  member_new none =
      let missing = absent (names shelf) name (no_place (position (bytes_eq name) (names shelf)) (list_any (bytes_eq name) shelf.refused) none) in
      ap (λ (place : Option ℕ). member_by place (list_any (bytes_eq name) shelf.refused)) (ap (position (bytes_eq name)) names_with ∙ pushed (names shelf) name missing)

  member_other : (x : Name) → bytes_eq x name ≡ false → member_of (with_module shelf name m) x ≡ member_of shelf x
  member_other x e = ap (λ (place : Option ℕ). member_by place (list_any (bytes_eq x) shelf.refused)) (ap (position (bytes_eq x)) names_with ∙ place_other (names shelf) x name e)

  module_kept : (i : ℕ) (file : Module) → module_at shelf i ≡ Some file → module_at (with_module shelf name m) i ≡ Some file
  module_kept i file e = by (slice_get shelf.modules i) refl e
    where
      by : (o : Option Named) → slice_get shelf.modules i ≡ o → option_and_then (λ (n : Named). Some n.held) o ≡ Some file → module_at (with_module shelf name m) i ≡ Some file
      by (Some n) f g = ap (option_and_then (λ (k : Named). Some k.held)) (get_front shelf.modules (record { name = name; held = m } ∷ []) i n f) ∙ g
      by None f g = absurd cc

  module_new : module_at (with_module shelf name m) (length (names shelf)) ≡ Some m
  module_new =
      ap (module_at (with_module shelf name m)) (length-map shelf.modules (λ (n : Named). n.name))
      ∙ ap (option_and_then (λ (n : Named). Some n.held)) (get_last shelf.modules (record { name = name; held = m }))

  unit_new : (unit : Unit) → member_of shelf name ≡ None → IsUnitFile unit m → HasUnit (with_module shelf name m) name unit
  unit_new unit none is = record { place = length (names shelf); found = member_new none; file = m; held = module_new; is_file = is }

  entry_kept : (x : Name) (entry : Option Entry) → bytes_eq x name ≡ false → HasEntry shelf x entry → HasEntry (with_module shelf name m) x entry
  entry_kept x (Some (Runs unit)) e h = record { place = h.place; found = member_other x e ∙ h.found; file = h.file; held = module_kept h.place h.file h.held; is_file = h.is_file }
  entry_kept x (Some Refused) e h = member_other x e ∙ h
  entry_kept x None e h = member_other x e ∙ h

-- a further entry
-- ===============

entry_new : (entries : List (Name × Entry)) (name : Name) (entry : Entry) → entry_in entries name ≡ None → entry_in (entries ++ (name, entry) ∷ []) name ≡ Some entry
entry_new [] name entry e = ap (λ (b : Bool). if b then Some entry else None) (eq_self name)
entry_new (d ∷ entries) name entry e = by (bytes_eq (d.0) name) e (entry_new entries name entry)
  where
    by : (b : Bool) → (if b then Some (d.1) else entry_in entries name) ≡ None → (entry_in entries name ≡ None → entry_in (entries ++ (name, entry) ∷ []) name ≡ Some entry)
        → (if b then Some (d.1) else entry_in (entries ++ (name, entry) ∷ []) name) ≡ Some entry
    by true f more = absurd cc
    by false f more = more f

entry_other : (entries : List (Name × Entry)) (name x : Name) (entry : Entry) → bytes_eq name x ≡ false → entry_in (entries ++ (name, entry) ∷ []) x ≡ entry_in entries x
entry_other [] name x entry e = ap (λ (b : Bool). if b then Some entry else None) e
entry_other (d ∷ entries) name x entry e = ap (λ (o : Option Entry). if bytes_eq (d.0) x then Some (d.1) else o) (entry_other entries name x entry e)

pub entry_stays : (entries more : List (Name × Entry)) (x : Name) (entry : Entry) → entry_in entries x ≡ Some entry → entry_in (entries ++ more) x ≡ Some entry
entry_stays [] more x entry e = absurd cc
entry_stays (d ∷ entries) more x entry e = by (bytes_eq (d.0) x) e (entry_stays entries more x entry)
  where
    by : (b : Bool) → (if b then Some (d.1) else entry_in entries x) ≡ Some entry → (entry_in entries x ≡ Some entry → entry_in (entries ++ more) x ≡ Some entry)
        → (if b then Some (d.1) else entry_in (entries ++ more) x) ≡ Some entry
    by true f rest = f
    by false f rest = rest f

-- both
-- ====

-- the library has the program's entries
abbrev pub Agree : Shelf → List (Name × Entry) → Type 0
Agree shelf entries = (x : Name) → HasEntry shelf x (entry_in entries x)

none_in : (shelf : Shelf) (x : Name) (entry : Option Entry) → HasEntry shelf x entry → member_of shelf x ≡ None → entry ≡ None
none_in shelf x (Some (Runs unit)) h none = let wrong : Some (members.Module h.place) ≡ None = sym h.found ∙ none in absurd cc
none_in shelf x (Some Refused) h none = let wrong : Some members.Refused ≡ None = sym h ∙ none in absurd cc
none_in shelf x None h none = refl

not_both : (o : Option Member) → IsSome o → o ≡ None → ⊥
not_both None some none = absurd cc
not_both (Some member) some none = absurd (let wrong : Some member ≡ None = none in cc)

some_in : (shelf : Shelf) (x : Name) (entry : Option Entry) → HasEntry shelf x entry → IsSome (member_of shelf x) → IsSome entry
some_in shelf x (Some (Runs unit)) h some = refl
some_in shelf x (Some Refused) h some = refl
some_in shelf x None h some = absurd (not_both (member_of shelf x) some h)

pub fresh : (shelf : Shelf) (entries : List (Name × Entry)) (name : Name) → Agree shelf entries → member_of shelf name ≡ None → entry_in entries name ≡ None
fresh shelf entries name agree none = none_in shelf name (entry_in entries name) (agree name) none

pub there : (shelf : Shelf) (entries : List (Name × Entry)) (name : Name) → Agree shelf entries → IsSome (member_of shelf name) → IsSome (entry_in entries name)
there shelf entries name agree some = some_in shelf name (entry_in entries name) (agree name) some

pub none_yet : Agree no_entries []
none_yet x = refl

pub grown : (shelf : Shelf) (entries : List (Name × Entry)) (name : Name) (unit : Unit) (m : Module) → Agree shelf entries → member_of shelf name ≡ None → IsUnitFile unit m
    → Agree (with_module shelf name m) (entries ++ (name, Runs unit) ∷ [])
grown shelf entries name unit m agree none is x = by (bytes_eq x name) refl
  where
    by : (b : Bool) → bytes_eq x name ≡ b → HasEntry (with_module shelf name m) x (entry_in (entries ++ (name, Runs unit) ∷ []) x)
    by true e =
        subst (λ (y : Name). HasEntry (with_module shelf name m) y (entry_in (entries ++ (name, Runs unit) ∷ []) y)) (sym (same_name x name e))
        (subst (HasEntry (with_module shelf name m) name) (sym (entry_new entries name (Runs unit) (fresh shelf entries name agree none))) (unit_new shelf name m unit none is))
    by false e =
        subst (HasEntry (with_module shelf name m) x) (sym (entry_other entries name x (Runs unit) (eq_other x name e))) (entry_kept shelf name m x (entry_in entries x) e (agree x))

-- What a library that is loaded has under a name came from the name.
use Rattle.std.proofs.Common.{◌≡◌, ℕ, zero, suc, ◌+◌, ◌≤◌, Bool, true, false, not, cond, ◌||◌, eqb, List, [], ◌∷◌, ◌++◌, length, Option, Some, None, Ok, position, refl, sym, ap, ap₂, subst, ◌∙◌, arith, length-append}
use Rattle.std.specs.Prelude.{slice_get, option_and_then, nat_lt}
use Rattle.std.specs.List.{list_any, position_or_len}
use Rattle.std.specs.Str.{bytes_eq}
use Rattle.std.proofs.lemmas.Slice.Eq.{bytes_eq-Decides}
use Rattle.std.proofs.lemmas.List.{length-map, map-append}
use Rattle.std.proofs.lemmas.List.Folds.{position_or_len_push}
use Rattle.std.proofs.lemmas.Bool.Decides.{nat_tests}
use Rattle.image_open.proofs.qstr_pool_lemmas.Places.{pushed, absent}
use Rattle.tr_source.specs.bc_scheme.mpy_tree.Raw.{Module}
use Rattle.image_open.specs.bc_library.declared.fault.Member.{Member}
use Rattle.image_open.specs.bc_library.declared.fault.Member.TheVariants as members
use Rattle.image_open.specs.bc_library.Shelf.{Shelf, Named, names, no_entries, with_module, with_refused, member_by, member_of, module_at}
use Rattle.frozen_files.specs.library_files.declared.entry.Entry.{Entry}
use Rattle.frozen_files.specs.library_files.declared.entry.Entry.TheVariants as entries
use Rattle.frozen_files.specs.library_files.Comes.{OfNames}
use Rattle.frozen_files.specs.library_files.Asked.{asked_for}
use Rattle.frozen_files.specs.library_files.Loads.{Loading, Loaded, Loads, ends, next, known, unaccepted, past, taken, with_entry, size_with, main_name}

-- names
-- =====

same_name : (a b : List ℕ) → bytes_eq a b ≡ true → a ≡ b
same_name a b e = (bytes_eq-Decides a b).0 e

eq_self : (a : List ℕ) → bytes_eq a a ≡ true
eq_self a = (bytes_eq-Decides a a).1 refl

-- places
-- ======

not_past : {A : Type 0} (p : A → Bool) (xs : List A) → position_or_len p xs ≤ length xs
not_past p [] = omega arith
not_past p (x ∷ xs) = by (p x) (position_or_len p xs) (not_past p xs)
  where
    by : (b : Bool) (n : ℕ) → n ≤ length xs → cond (not b) (1 + n) 0 ≤ suc (length xs)
    by true n le = omega arith
    by false n le = omega (arith, le)

settled : (n l : ℕ) → n ≤ l → (let k = cond (eqb n l) (l + 1) n in cond (nat_lt k (l + 1)) (Some k) None ≡ cond (nat_lt n l) (Some n) None)
settled n l le = grind (arith, nat_tests)

place_other : (texts : List (List ℕ)) (x name : List ℕ) → bytes_eq x name ≡ false → position (bytes_eq x) (texts ++ name ∷ []) ≡ position (bytes_eq x) texts
place_other texts x name e =
    let n = position_or_len (bytes_eq x) texts in
    let long : length (texts ++ name ∷ []) ≡ length texts + 1 = length-append texts (name ∷ []) in
    let moved : position_or_len (bytes_eq x) (texts ++ name ∷ []) ≡ cond (eqb n (length texts)) (length texts + 1) n =
    position_or_len_push (bytes_eq x) texts name ∙ ap (λ (b : Bool). cond (eqb n (length texts)) (length texts + cond b 0 1) n) e in
    ap₂ (λ (k l : ℕ). cond (nat_lt k l) (Some k) None) moved long ∙ settled n (length texts) (not_past (bytes_eq x) texts)

or_false : (b : Bool) → (b || false) ≡ b
or_false true = refl
or_false false = refl

or_assoc : (a b c : Bool) → (a || (b || c)) ≡ ((a || b) || c)
or_assoc true b c = refl
or_assoc false b c = refl

any_last : (texts : List (List ℕ)) (x name : List ℕ) → list_any (bytes_eq x) (texts ++ name ∷ []) ≡ (list_any (bytes_eq x) texts || bytes_eq x name)
any_last [] x name = or_false (bytes_eq x name)
any_last (n ∷ texts) x name = ap (λ (b : Bool). bytes_eq x n || b) (any_last texts x name) ∙ or_assoc (bytes_eq x n) (list_any (bytes_eq x) texts) (bytes_eq x name)

get_front : {A : Type 0} (xs ys : List A) (i : ℕ) (x : A) → slice_get xs i ≡ Some x → slice_get (xs ++ ys) i ≡ Some x
get_front [] ys i x e = absurd cc
get_front (y ∷ xs) ys zero x e = e
get_front (y ∷ xs) ys (suc i) x e = get_front xs ys i x e

get_last : {A : Type 0} (xs : List A) (x : A) → slice_get (xs ++ x ∷ []) (length xs) ≡ Some x
get_last [] x = refl
get_last (y ∷ xs) x = get_last xs x

no_place : (place : Option ℕ) (b : Bool) → member_by place b ≡ None → place ≡ None
no_place (Some i) b e = absurd cc
no_place None b e = refl

not_refused : (place : Option ℕ) (b : Bool) → member_by place b ≡ None → b ≡ false
not_refused (Some i) b e = absurd cc
not_refused None true e = absurd cc
not_refused None false e = refl

-- a further entry
-- ===============

-- what the libraries have in common but under a name
pub record Keeps (old new : Shelf) (name : List ℕ) : Type 0 where
  pub members : (x : List ℕ) → bytes_eq x name ≡ false → member_of new x ≡ member_of old x
  pub modules : (i : ℕ) (m : Module) → module_at old i ≡ Some m → module_at new i ≡ Some m

module _ (shelf : Shelf) (name : List ℕ) (m : Module) where
  names_with : names (with_module shelf name m) ≡ names shelf ++ name ∷ []
  names_with = map-append (λ (n : Named). n.name) shelf.modules (record { name = name; held = m } ∷ [])

  member_new : member_of shelf name ≡ None → member_of (with_module shelf name m) name ≡ Some (members.Module (length (names shelf)))
  member_new none =
      let missing = absent (names shelf) name (no_place (position (bytes_eq name) (names shelf)) (list_any (bytes_eq name) shelf.refused) none) in
      ap (λ (place : Option ℕ). member_by place (list_any (bytes_eq name) shelf.refused)) (ap (position (bytes_eq name)) names_with ∙ pushed (names shelf) name missing)

  member_other : (x : List ℕ) → bytes_eq x name ≡ false → member_of (with_module shelf name m) x ≡ member_of shelf x
  member_other x e = ap (λ (place : Option ℕ). member_by place (list_any (bytes_eq x) shelf.refused)) (ap (position (bytes_eq x)) names_with ∙ place_other (names shelf) x name e)

  module_kept : (i : ℕ) (file : Module) → module_at shelf i ≡ Some file → module_at (with_module shelf name m) i ≡ Some file
  module_kept i file e = by (slice_get shelf.modules i) refl e
    where
      by : (o : Option Named) → slice_get shelf.modules i ≡ o → option_and_then (λ (n : Named). Some n.held) o ≡ Some file → module_at (with_module shelf name m) i ≡ Some file
      by (Some n) f g = ap (option_and_then (λ (k : Named). Some k.held)) (get_front shelf.modules (record { name = name; held = m } ∷ []) i n f) ∙ g
      by None f g = absurd cc

  module_new : module_at (with_module shelf name m) (length (names shelf)) ≡ Some m
  module_new =
      ap (module_at (with_module shelf name m)) (length-map shelf.modules (λ (n : Named). n.name))
      ∙ ap (option_and_then (λ (n : Named). Some n.held)) (get_last shelf.modules (record { name = name; held = m }))

  module_keeps : Keeps shelf (with_module shelf name m) name
  module_keeps = record { members = member_other; modules = module_kept }

module _ (shelf : Shelf) (name : List ℕ) where
  refused_new : member_of shelf name ≡ None → member_of (with_refused shelf name) name ≡ Some members.Refused
  refused_new none =
      let place = position (bytes_eq name) (names shelf) in
      let was = list_any (bytes_eq name) shelf.refused in
      ap₂ member_by (no_place place was none) (any_last shelf.refused name name ∙ ap₂ (λ (a b : Bool). a || b) (not_refused place was none) (eq_self name))

  refused_other : (x : List ℕ) → bytes_eq x name ≡ false → member_of (with_refused shelf name) x ≡ member_of shelf x
  refused_other x e =
      let was = list_any (bytes_eq x) shelf.refused in
      ap (member_by (position (bytes_eq x) (names shelf))) (any_last shelf.refused x name ∙ (ap (λ (b : Bool). was || b) e ∙ or_false was))

  refused_keeps : Keeps shelf (with_refused shelf name) name
  refused_keeps = record { members = refused_other; modules = λ i m e. e }

-- what came from a name
-- =====================

module _ (Comes : OfNames) (main : Module) where
  -- what the library has under the name, the name came to
  abbrev pub CameAs : Shelf → List ℕ → Option Member → Type 0
  CameAs shelf x (Some (members.Module place)) = (m : Module) × (size : ℕ) × (module_at shelf place ≡ Some m) × Comes x (Ok (entries.Held m size))
  CameAs shelf x (Some members.Refused) = Comes x (Ok entries.Refused)
  CameAs shelf x None = Unit {0}

  -- all but the main module came from their names
  pub record Came (shelf : Shelf) : Type 0 where
    pub place : ℕ
    pub main_found : member_of shelf main_name ≡ Some (members.Module place)
    pub main_held : module_at shelf place ≡ Some main
    pub others : (x : List ℕ) → (x ≡ main_name → ⊥) → CameAs shelf x (member_of shelf x)

  came_kept : (old new : Shelf) (name x : List ℕ) → Keeps old new name → (member : Option Member) → CameAs old x member → CameAs new x member
  came_kept old new name x keeps (Some (members.Module place)) h = (h.0, h.1, keeps.modules place h.0 h.2, h.3)
  came_kept old new name x keeps (Some members.Refused) h = h
  came_kept old new name x keeps None h = tt

  -- the name isn't that of the main module, since that is there
  other_name : (shelf : Shelf) (name : List ℕ) → Came shelf → member_of shelf name ≡ None → bytes_eq main_name name ≡ false
  other_name shelf name came none = by (bytes_eq main_name name) refl
    where
      by : (b : Bool) → bytes_eq main_name name ≡ b → bytes_eq main_name name ≡ false
      by true e =
          let wrong : Some (members.Module came.place) ≡ None = sym came.main_found ∙ (ap (member_of shelf) (same_name main_name name e) ∙ none) in
          absurd cc
      by false e = e

  -- a further entry that came from its name
  with_one : (old new : Shelf) (name : List ℕ) → Came old → member_of old name ≡ None → Keeps old new name → CameAs new name (member_of new name) → Came new
  with_one old new name came none keeps here = record {
    place = came.place;
    main_found = keeps.members main_name (other_name old name came none) ∙ came.main_found;
    main_held = keeps.modules came.place main came.main_held;
    others = λ x other. by x other (bytes_eq x name) refl;
  }
    where
      by : (x : List ℕ) → (x ≡ main_name → ⊥) → (b : Bool) → bytes_eq x name ≡ b → CameAs new x (member_of new x)
      by x other true e = subst (λ (y : List ℕ). CameAs new y (member_of new y)) (sym (same_name x name e)) here
      by x other false e = subst (CameAs new x) (sym (keeps.members x e)) (came_kept old new name x keeps (member_of old x) (came.others x other))

  with_held : (shelf : Shelf) (name : List ℕ) (m : Module) (size : ℕ) → Came shelf → member_of shelf name ≡ None → Comes name (Ok (entries.Held m size)) → Came (with_module shelf name m)
  with_held shelf name m size came none comes =
      with_one shelf (with_module shelf name m) name came none (module_keeps shelf name m)
      (subst (CameAs (with_module shelf name m) name) (sym (member_new shelf name m none)) (m, size, module_new shelf name m, comes))

  with_refusal : (shelf : Shelf) (name : List ℕ) → Came shelf → member_of shelf name ≡ None → Comes name (Ok entries.Refused) → Came (with_refused shelf name)
  with_refusal shelf name came none comes =
      with_one shelf (with_refused shelf name) name came none (refused_keeps shelf name)
      (subst (CameAs (with_refused shelf name) name) (sym (refused_new shelf name none)) comes)

  with_taken : (shelf : Shelf) (name : List ℕ) (entry : Entry) → Came shelf → member_of shelf name ≡ None → Comes name (Ok entry) → Came (with_entry shelf name entry)
  with_taken shelf name entries.Absent came none comes = came
  with_taken shelf name entries.Refused came none comes = with_refusal shelf name came none comes
  with_taken shelf name (entries.Held m size) came none comes = with_held shelf name m size came none comes

  abbrev CameIn : Loading → Type 0
  CameIn (Loaded shelf) = Came shelf
  CameIn end = Unit {0}

  came_by : (shelf : Shelf) (size : ℕ) (together found behind : List (List ℕ)) (end : Loading) → Loads Comes shelf size together found behind end → Came shelf → CameIn end
  came_by shelf size [] [] [] end (ends _ _) came = came
  came_by shelf size [] found behind end (next _ _ _ _ name names _ e h) came = came_by shelf size (asked_for name) [] names end h came
  came_by shelf size (name ∷ together) found behind end (known _ _ _ _ _ _ _ some h) came = came_by shelf size together found behind end h came
  came_by shelf size (name ∷ together) found behind end (unaccepted _ _ _ _ _ _ source none comes) came = tt
  came_by shelf size (name ∷ together) found behind end (past _ _ _ _ _ _ entry limit none comes is) came = tt
  came_by shelf size (name ∷ together) found behind end (taken _ _ _ _ _ _ entry imports _ none comes within inner h) came =
      came_by (with_entry shelf name entry) (size_with size entry) together (found ++ imports) behind end h (with_taken shelf name entry came none comes)

  -- the main module alone
  first : Came (with_module no_entries main_name main)
  first = record {
    place = 0;
    main_found = member_new no_entries main_name main refl;
    main_held = refl;
    others = λ x other. by x other (bytes_eq x main_name) refl;
  }
    where
      by : (x : List ℕ) → (x ≡ main_name → ⊥) → (b : Bool) → bytes_eq x main_name ≡ b → CameAs (with_module no_entries main_name main) x (member_of (with_module no_entries main_name main) x)
      by x other true e = absurd (other (same_name x main_name e))
      by x other false e = subst (CameAs (with_module no_entries main_name main) x) (sym (member_other no_entries main_name main x e)) tt

  pub came : (shelf : Shelf) (size : ℕ) (imports : List (List ℕ)) → Loads Comes (with_module no_entries main_name main) size [] imports [] (Loaded shelf) → Came shelf
  came shelf size imports h = came_by (with_module no_entries main_name main) size [] imports [] (Loaded shelf) h first

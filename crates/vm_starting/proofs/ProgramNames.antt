-- What names lead to, in a library of files and in the machine's.
use Rattle.std.proofs.Common.{◌≡◌, ◌≢◌, ℕ, zero, suc, Bool, true, false, ◌||◌, List, [], ◌∷◌, ◌++◌, map, option_map, Option, Some, None, position, refl, sym, ap, subst, ◌∙◌, if◌then◌else◌}
use Rattle.std.specs.Prelude.{slice_get, option_and_then}
use Rattle.std.specs.List.{list_any}
use Rattle.std.specs.Str.{bytes_eq}
use Rattle.std.proofs.lemmas.Slice.Eq.{bytes_eq-Decides}
use Rattle.std.proofs.lemmas.Option.{slice_get-map}
use Rattle.bc_library.proofs.bc_verify_lemmas.qstr_pool_lemmas.Places.{found, absent}
use Rattle.bc_resolved.specs.bc_verify.mpy_tree.Raw.{Module}
use Rattle.vm_states.specs.bc_library.declared.fault.Member.TheVariants as members
use Rattle.vm_states.specs.bc_library.Shelf.{Shelf, Named, names, member_by, member_of, module_at}
use Rattle.frame_calls.specs.bc_machine.Library.{Name, Entry, Library, entry_in}
use Rattle.bc_resolved.specs.Stored.{Stored, Kept, Refused, IsEntryOf, IsLibraryOf}
use Rattle.vm_starting.specs.Programs.{stored_of}

eq_true : (a b : List ℕ) → a ≡ b → bytes_eq a b ≡ true
eq_true a b e = (bytes_eq-Decides a b).1 e

eq_false : (a b : List ℕ) → a ≢ b → bytes_eq a b ≡ false
eq_false a b n = by (bytes_eq a b) refl
  where
    by : (c : Bool) → bytes_eq a b ≡ c → c ≡ false
    by true e = absurd (n ((bytes_eq-Decides a b).0 e))
    by false e = refl

eq_other : (a b : List ℕ) → bytes_eq a b ≡ bytes_eq b a
eq_other a b = by (bytes_eq b a) refl
  where
    by : (c : Bool) → bytes_eq b a ≡ c → bytes_eq a b ≡ c
    by true e = eq_true a b (sym ((bytes_eq-Decides b a).0 e))
    by false e = eq_false a b (λ s. let t : bytes_eq b a ≡ true = eq_true b a (sym s) in cc)

-- the first that is stored under the name
abbrev pub stored_in : List (Name × Stored) → Name → Option Stored
stored_in [] name = None
stored_in (s ∷ others) name = if bytes_eq s.0 name then Some s.1 else stored_in others name

-- what the machine's library has for what is stored
abbrev pub IsEntryFor : Option Stored → Option Entry → Type 0
IsEntryFor None entry = entry ≡ None
IsEntryFor (Some stored) entry = (e : Entry) × (entry ≡ Some e) × IsEntryOf stored e

-- the machine's library finds what is stored
pub finds : (stored : List (Name × Stored)) (library : Library) (name : Name) → IsLibraryOf stored library → IsEntryFor (stored_in stored name) (entry_in library name)
finds [] library name h = ap (λ z. entry_in z name) h
finds (s ∷ others) library name h =
    subst (λ z. IsEntryFor (stored_in (s ∷ others) name) (entry_in z name)) (sym h.2) (by (bytes_eq s.0 name) (finds others h.1 name h.4))
  where
    by : (b : Bool) → IsEntryFor (stored_in others name) (entry_in h.1 name) → IsEntryFor (if b then Some s.1 else stored_in others name) (if b then Some h.0 else entry_in h.1 name)
    by true behind = (h.0, refl, h.3)
    by false behind = behind

-- the modules, and behind them the refused names
-- ==============================================

abbrev kept : Named → Name × Stored
kept n = (n.name, Kept n.held)

abbrev refusal : Name → Name × Stored
refusal name = (name, Refused)

with_test : (b : Bool) (x y : Option Stored) → b ≡ true → (if b then x else y) ≡ x
with_test b x y e = ap (λ c. if c then x else y) e

without_test : (b : Bool) (x y : Option Stored) → b ≡ false → (if b then x else y) ≡ y
without_test b x y e = ap (λ c. if c then x else y) e

neither : (a b : Bool) → (a || b) ≡ false → (a ≡ false) × (b ≡ false)
neither true b e = cc
neither false b e = (refl, e)

-- the module with the number is the first with its name
stored_at : (modules : List Named) (behind : List (Name × Stored)) (i : ℕ) (n : Named) → slice_get modules i ≡ Some n
    → ((k : ℕ) (a : Named) → slice_get modules k ≡ Some a → a.name ≡ n.name → i ≡ k) → stored_in (map kept modules ++ behind) n.name ≡ Some (Kept n.held)
stored_at [] behind i n e one = absurd cc
stored_at (m ∷ modules) behind zero n e one =
    let same : m ≡ n = cc in
    with_test (bytes_eq m.name n.name) (Some (Kept m.held)) (stored_in (map kept modules ++ behind) n.name) (eq_true m.name n.name (ap (λ (z : Named). z.name) same)) ∙ ap (λ (z : Named). Some (Kept z.held)) same
stored_at (m ∷ modules) behind (suc i) n e one =
    let other : bytes_eq m.name n.name ≡ false = eq_false m.name n.name (λ s. let no : suc i ≡ 0 = one 0 m refl s in absurd cc) in
    without_test (bytes_eq m.name n.name) (Some (Kept m.held)) (stored_in (map kept modules ++ behind) n.name) other
    ∙ stored_at modules behind i n e (λ k a f s. let h : suc i ≡ suc k = one (suc k) a f s in cc)

stored_behind : (modules : List Named) (behind : List (Name × Stored)) (name : Name) → list_any (bytes_eq name) (map (λ (n : Named). n.name) modules) ≡ false → stored_in (map kept modules ++ behind) name ≡ stored_in behind name
stored_behind [] behind name e = refl
stored_behind (m ∷ modules) behind name e =
    let both = neither (bytes_eq name m.name) (list_any (bytes_eq name) (map (λ (n : Named). n.name) modules)) e in
    without_test (bytes_eq m.name name) (Some (Kept m.held)) (stored_in (map kept modules ++ behind) name) (eq_other m.name name ∙ both.0) ∙ stored_behind modules behind name both.1

refused_there : (refused : List Name) (name : Name) → list_any (bytes_eq name) refused ≡ true → stored_in (map refusal refused) name ≡ Some Refused
refused_there [] name e = absurd cc
refused_there (r ∷ refused) name e = by (bytes_eq name r) refl e (λ f. refused_there refused name f)
  where
    by : (b : Bool) → bytes_eq name r ≡ b → (b || list_any (bytes_eq name) refused) ≡ true → (list_any (bytes_eq name) refused ≡ true → stored_in (map refusal refused) name ≡ Some Refused)
        → stored_in (map refusal (r ∷ refused)) name ≡ Some Refused
    by true f g rest = with_test (bytes_eq r name) (Some Refused) (stored_in (map refusal refused) name) (eq_other r name ∙ f)
    by false f g rest = without_test (bytes_eq r name) (Some Refused) (stored_in (map refusal refused) name) (eq_other r name ∙ f) ∙ rest g

refused_absent : (refused : List Name) (name : Name) → list_any (bytes_eq name) refused ≡ false → stored_in (map refusal refused) name ≡ None
refused_absent [] name e = refl
refused_absent (r ∷ refused) name e =
    let both = neither (bytes_eq name r) (list_any (bytes_eq name) refused) e in
    without_test (bytes_eq r name) (Some Refused) (stored_in (map refusal refused) name) (eq_other r name ∙ both.0) ∙ refused_absent refused name both.1

-- what is kept is a module
-- ========================

pub record IsHeld (modules : List Named) (m : Module) : Type 0 where
  pub i : ℕ
  pub n : Named
  pub there : slice_get modules i ≡ Some n
  pub held_is : n.held ≡ m

never_kept : (refused : List Name) (name : Name) (m : Module) → stored_in (map refusal refused) name ≡ Some (Kept m) → ⊥
never_kept [] name m e = cc
never_kept (r ∷ refused) name m e = by (bytes_eq r name) e (λ f. never_kept refused name m f)
  where
    by : (b : Bool) → (if b then Some Refused else stored_in (map refusal refused) name) ≡ Some (Kept m) → (stored_in (map refusal refused) name ≡ Some (Kept m) → ⊥) → ⊥
    by true f rest = let wrong : Refused ≡ Kept m = cc in cc
    by false f rest = rest f

held_in : (modules : List Named) (behind : List (Name × Stored)) (name : Name) (m : Module) → (stored_in behind name ≡ Some (Kept m) → ⊥) → stored_in (map kept modules ++ behind) name ≡ Some (Kept m) → IsHeld modules m
held_in [] behind name m never e = absurd (never e)
held_in (x ∷ modules) behind name m never e = by (bytes_eq x.name name) e (λ f. held_in modules behind name m never f)
  where
    by : (b : Bool) → (if b then Some (Kept x.held) else stored_in (map kept modules ++ behind) name) ≡ Some (Kept m) → (stored_in (map kept modules ++ behind) name ≡ Some (Kept m) → IsHeld modules m)
        → IsHeld (x ∷ modules) m
    by true f rest = let same : Kept x.held ≡ Kept m = cc in record { i = 0; n = x; there = refl; held_is = cc }
    by false f rest = let h = rest f in record { i = suc h.i; n = h.n; there = h.there; held_is = h.held_is }

-- members
-- =======

member_refused : (place : Option ℕ) (b : Bool) → member_by place b ≡ Some members.Refused → (place ≡ None) × (b ≡ true)
member_refused (Some i) b e = absurd (let wrong : members.Module i ≡ members.Refused = cc in cc)
member_refused None true e = (refl, refl)
member_refused None false e = absurd cc

member_absent : (place : Option ℕ) (b : Bool) → member_by place b ≡ None → (place ≡ None) × (b ≡ false)
member_absent (Some i) b e = absurd cc
member_absent None true e = absurd cc
member_absent None false e = (refl, refl)

member_module : (place : Option ℕ) (b : Bool) (i : ℕ) → member_by place b ≡ Some (members.Module i) → place ≡ Some i
member_module (Some k) b i e = let same : members.Module k ≡ members.Module i = cc in cc
member_module None true i e = absurd (let wrong : members.Refused ≡ members.Module i = cc in cc)
member_module None false i e = absurd cc

module _ (shelf : Shelf) where
  abbrev behind : List (Name × Stored)
  behind = map refusal shelf.refused

  pub module_stored : (i : ℕ) (n : Named) → slice_get shelf.modules i ≡ Some n
      → ((k : ℕ) (a : Named) → slice_get shelf.modules k ≡ Some a → a.name ≡ n.name → i ≡ k) → stored_in (stored_of shelf) n.name ≡ Some (Kept n.held)
  module_stored i n e one = stored_at shelf.modules behind i n e one

  pub refused_stored : (name : Name) → member_of shelf name ≡ Some members.Refused → stored_in (stored_of shelf) name ≡ Some Refused
  refused_stored name e =
      let both = member_refused (position (bytes_eq name) (names shelf)) (list_any (bytes_eq name) shelf.refused) e in
      stored_behind shelf.modules behind name (absent (names shelf) name both.0) ∙ refused_there shelf.refused name both.1

  pub none_stored : (name : Name) → member_of shelf name ≡ None → stored_in (stored_of shelf) name ≡ None
  none_stored name e =
      let both = member_absent (position (bytes_eq name) (names shelf)) (list_any (bytes_eq name) shelf.refused) e in
      stored_behind shelf.modules behind name (absent (names shelf) name both.0) ∙ refused_absent shelf.refused name both.1

  pub held_stored : (name : Name) (m : Module) → stored_in (stored_of shelf) name ≡ Some (Kept m) → IsHeld shelf.modules m
  held_stored name m e = held_in shelf.modules behind name m (λ f. never_kept shelf.refused name m f) e

  -- the module that a name leads to
  pub record IsNamed (name : Name) (i : ℕ) (m : Module) : Type 0 where
    pub n : Named
    pub there : slice_get shelf.modules i ≡ Some n
    pub name_is : n.name ≡ name
    pub held_is : n.held ≡ m

  pub module_named : (name : Name) (i : ℕ) (m : Module) → member_of shelf name ≡ Some (members.Module i) → module_at shelf i ≡ Some m → IsNamed name i m
  module_named name i m e f =
      let place = member_module (position (bytes_eq name) (names shelf)) (list_any (bytes_eq name) shelf.refused) i e in
      by (slice_get shelf.modules i) refl (sym (slice_get-map (λ (n : Named). n.name) shelf.modules i) ∙ found (names shelf) name i place) f
    where
      by : (o : Option Named) → slice_get shelf.modules i ≡ o → option_map (λ (n : Named). n.name) o ≡ Some name → option_and_then (λ (n : Named). Some n.held) o ≡ Some m → IsNamed name i m
      by None g h k = absurd cc
      by (Some n) g h k = record { n = n; there = g; name_is = cc; held_is = cc }

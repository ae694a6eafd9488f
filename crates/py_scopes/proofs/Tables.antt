-- Lists of names, and sets of them for each function.
use Rattle.std.proofs.Common.{◌≡◌, ℕ, zero, suc, ◌<◌, ◌≤◌, Bool, true, false, not, cond, ◌&&◌, ◌||◌, nat_eq, List, [], ◌∷◌, ◌++◌, map, filter, length, Vec, Global, get_or, slice_set, refl, sym, ap, ap₂, subst, ◌∙◌, inl, inr, arith}
use Rattle.std.specs.List.{list_any}
use Rattle.std.specs.Str.{bytes_eq}
use Rattle.std.specs.HashSet.{HashSet}
use Rattle.std.proofs.Math.Bool.{and_comm}
use Rattle.std.proofs.lemmas.Bool.Decides.{eqb_tells}
use Rattle.std.proofs.lemmas.List.{append-nil, map-append}
use Rattle.std.proofs.lemmas.List.Elements.{filter-append}
use Rattle.std.proofs.lemmas.Map.Views.{any-filter_same}
use Rattle.std.proofs.lemmas.Slice.Eq.{bytes_eq-Decides}
use Rattle.indexmap.specs.IndexSet.{insert_key}
use Rattle.py_scopes.specs.Names.{has, firsts, added, bytes_of, names_of, names_in}

-- ---- one more name
same_test : (a b : Bool) → (a ≡ true → b ≡ true) → (b ≡ true → a ≡ true) → a ≡ b
same_test true b f g = sym (f refl)
same_test false true f g = g refl
same_test false false f g = refl

bytes_eq-sym : (x y : List ℕ) → bytes_eq x y ≡ bytes_eq y x
bytes_eq-sym x y =
    same_test _ _ (λ e. (bytes_eq-Decides y x).1 (sym ((bytes_eq-Decides x y).0 e))) (λ e. (bytes_eq-Decides x y).1 (sym ((bytes_eq-Decides y x).0 e)))

has-filter : (x name : List ℕ) (names : List (List ℕ)) → has name (filter (λ other. not (bytes_eq x other)) names) ≡ (not (bytes_eq x name) && has name names)
has-filter x name names =
    any-filter_same (bytes_eq name) (λ other. not (bytes_eq x other)) (not (bytes_eq x name))
    (λ k e. ap (λ (other : List ℕ). not (bytes_eq x other)) (sym ((bytes_eq-Decides name k).0 e))) names

-- what is kept by a test on the names
pub has-kept : (p : List ℕ → Bool) (name : List ℕ) (names : List (List ℕ)) → has name (filter p names) ≡ (has name names && p name)
has-kept p name names =
    any-filter_same (bytes_eq name) p (p name) (λ k e. ap p (sym ((bytes_eq-Decides name k).0 e))) names ∙ and_comm (p name) (has name names)

kept : (p : List ℕ → Bool) (name : List ℕ) (b : Bool) → p name ≡ b → filter p (name ∷ []) ≡ cond b (name ∷ []) []
kept p name b e = subst (λ z. filter p (name ∷ []) ≡ cond z (name ∷ []) []) e refl

pushed : (p : List ℕ → Bool) (x name : List ℕ) (names : List (List ℕ)) (h e : Bool) → p name ≡ not e →
    x ∷ filter p (cond h names (names ++ name ∷ [])) ≡ cond (e || (not e && h)) (x ∷ filter p names) ((x ∷ filter p names) ++ name ∷ [])
pushed p x name names true true k = refl
pushed p x name names true false k = refl
pushed p x name names false true k =
    ap (λ (ns : List (List ℕ)). x ∷ ns) (filter-append p names (name ∷ []) ∙ (ap (λ (ns : List (List ℕ)). filter p names ++ ns) (kept p name false k) ∙ append-nil _))
pushed p x name names false false k =
    ap (λ (ns : List (List ℕ)). x ∷ ns) (filter-append p names (name ∷ []) ∙ ap (λ (ns : List (List ℕ)). filter p names ++ ns) (kept p name true k))

pub firsts-push : (names : List (List ℕ)) (name : List ℕ) → firsts (names ++ name ∷ []) ≡ added (firsts names) name
firsts-push [] name = refl
firsts-push (x ∷ names) name =
    let p : List ℕ → Bool = λ other. not (bytes_eq x other) in
    let e : has name (x ∷ filter p (firsts names)) ≡ (bytes_eq x name || (not (bytes_eq x name) && has name (firsts names))) =
    ap₂ (λ a b. a || b) (bytes_eq-sym name x) (has-filter x name (firsts names)) in
    ap (λ (ns : List (List ℕ)). x ∷ filter p ns) (firsts-push names name)
    ∙ (pushed p x name (firsts names) (has name (firsts names)) (bytes_eq x name) refl
    ∙ ap (λ (b : Bool). cond b (x ∷ filter p (firsts names)) ((x ∷ filter p (firsts names)) ++ name ∷ [])) (sym e))

-- ---- sets
abbrev pub same_key : Vec ℕ Global → Vec ℕ Global → Bool
same_key x y = bytes_eq x.items y.items

-- a set of no keys has no names
pub no_keys : (keys : List (Vec ℕ Global)) → length keys ≡ 0 → map bytes_of keys ≡ []
no_keys [] e = refl
no_keys (k ∷ keys) e = absurd (omega (arith, e))

pub any_names : (name : List ℕ) (keys : List (Vec ℕ Global)) → list_any (λ (key : Vec ℕ Global). bytes_eq name key.items) keys ≡ has name (map bytes_of keys)
any_names name [] = refl
any_names name (k ∷ keys) = ap (λ (b : Bool). bytes_eq name k.items || b) (any_names name keys)

map_added : (h : Bool) (keys : List (Vec ℕ Global)) (key : Vec ℕ Global) → map bytes_of (cond h keys (keys ++ key ∷ [])) ≡ cond h (map bytes_of keys) (map bytes_of keys ++ key.items ∷ [])
map_added true keys key = refl
map_added false keys key = map-append bytes_of keys (key ∷ [])

-- the names of a set with one more
insert_names : (keys new : List (Vec ℕ Global)) (key : Vec ℕ Global) (name : List ℕ) → new ≡ insert_key same_key keys key → key.items ≡ name → map bytes_of new ≡ added (map bytes_of keys) name
insert_names keys new key name put is =
    ap (map bytes_of) put ∙ (map_added (list_any (same_key key) keys) keys key
    ∙ (ap (λ (b : Bool). cond b (map bytes_of keys) (map bytes_of keys ++ key.items ∷ [])) (any_names key.items keys)
    ∙ ap (added (map bytes_of keys)) is))

pick : {A : Type 0} (f g : ℕ) (x y r : A) → (g ≡ f → r ≡ x) → ((g ≡ f → ⊥) → r ≡ y) → r ≡ cond (nat_eq g f) x y
pick f g x y r same other =
    elim (eqb_tells g f) [
      | inl p ↦ subst (λ b. r ≡ cond b x y) (sym p.0) (same p.1)
      | inr q ↦ subst (λ b. r ≡ cond b x y) (sym q.0) (other q.1)
    ]

module _ {S : Type 0} where
  pub names_at : (sets : List (HashSet (Vec ℕ Global) S)) (f : ℕ) (set : HashSet (Vec ℕ Global) S) → f < length sets → set ≡ get_or sets f set → names_in sets f ≡ names_of set
  names_at [] f set h e = absurd (omega arith)
  names_at (s ∷ sets) zero set h e = ap names_of (sym e)
  names_at (s ∷ sets) (suc f) set h e = names_at sets f set (omega arith) e

  pub names_past : (sets : List (HashSet (Vec ℕ Global) S)) (f : ℕ) → length sets ≤ f → names_in sets f ≡ []
  names_past [] f h = refl
  names_past (s ∷ sets) zero h = absurd (omega arith)
  names_past (s ∷ sets) (suc f) h = names_past sets f (omega arith)

  names-set_same : (sets : List (HashSet (Vec ℕ Global) S)) (f : ℕ) (set : HashSet (Vec ℕ Global) S) → f < length sets → names_in (slice_set sets f set) f ≡ names_of set
  names-set_same [] f set h = absurd (omega arith)
  names-set_same (s ∷ sets) zero set h = refl
  names-set_same (s ∷ sets) (suc f) set h = names-set_same sets f set (omega arith)

  names-set_other : (sets : List (HashSet (Vec ℕ Global) S)) (f g : ℕ) (set : HashSet (Vec ℕ Global) S) → (g ≡ f → ⊥) → names_in (slice_set sets f set) g ≡ names_in sets g
  names-set_other [] f g set ne = refl
  names-set_other (s ∷ sets) zero zero set ne = absurd (ne refl)
  names-set_other (s ∷ sets) zero (suc g) set ne = refl
  names-set_other (s ∷ sets) (suc f) zero set ne = refl
  names-set_other (s ∷ sets) (suc f) (suc g) set ne = names-set_other sets f g set (λ e. ne (ap suc e))

  -- one more name in one of the sets
  pub names-added : (sets : List (HashSet (Vec ℕ Global) S)) (f g : ℕ) (old new : HashSet (Vec ℕ Global) S) (key : Vec ℕ Global) (name : List ℕ) →
      f < length sets → old ≡ get_or sets f old → new.keys ≡ insert_key same_key old.keys key → key.items ≡ name →
      names_in (slice_set sets f new) g ≡ cond (nat_eq g f) (added (names_in sets g) name) (names_in sets g)
  names-added sets f g old new key name h at put is =
      pick f g _ _ _
      (λ e. ap (names_in (slice_set sets f new)) e ∙ (names-set_same sets f new h
      ∙ (insert_names old.keys new.keys key name put is
      ∙ ap (λ (names : List (List ℕ)). added names name) (sym (names_at sets f old h at) ∙ ap (names_in sets) (sym e)))))
      (λ ne. names-set_other sets f g new ne)

  -- a name that is there already
  pub already : (sets : List (HashSet (Vec ℕ Global) S)) (f g : ℕ) (name : List ℕ) → has name (names_in sets f) ≡ true →
      names_in sets g ≡ cond (nat_eq g f) (added (names_in sets g) name) (names_in sets g)
  already sets f g name there =
      pick f g _ _ _
      (λ e. sym (ap (λ (b : Bool). cond b (names_in sets g) (names_in sets g ++ name ∷ [])) (ap (λ (h : ℕ). has name (names_in sets h)) e ∙ there)))
      (λ ne. refl)

-- A walk over events: the functions around, and the names that were told so far.
use Rattle.std.proofs.Common.{◌≡◌, ℕ, suc, ◌+◌, ◌<◌, Bool, true, false, cond, nat_eq, List, [], ◌∷◌, ◌++◌, length, get_or, drop, All, Option, Some, None, Vec, Global, inl, inr, refl, sym, ap, ap₂, subst, ◌∙◌, append_assoc, arith}
use Rattle.std.specs.List.{filter_map, cons_option}
use Rattle.std.specs.HashSet.{HashSet}
use Rattle.std.proofs.Math.Seq.{drop-cons}
use Rattle.std.proofs.lemmas.Bool.Decides.{eqb_tells}
use Rattle.std.proofs.lemmas.List.{append-nil}
use Rattle.std.proofs.lemmas.List.Elements.{filter_map-append}
use Rattle.py_scopes.specs.declared.event.Act.{Act}
use Rattle.py_scopes.specs.declared.event.Act.TheVariants.{Use, Bind, Declare, Jump, Return, Enter, Leave}
use Rattle.py_scopes.specs.declared.event.Event.{Event}
use Rattle.py_scopes.specs.declared.names.Tells.{Tells}
use Rattle.py_scopes.specs.Names.{firsts, added, names_in}
use Rattle.py_scopes.specs.Scopes.{Mark, mark, next_behind, around_behind, marks_from, marks, functions, told, is_own, told_of, own}
use Rattle.py_scopes.proofs.Tables.{firsts-push}

-- ---- the names that one more event tells

push_told : (tells : Tells) (front : List Mark) (m : Mark) (f : ℕ) (o : Option (List ℕ)) → told_of tells f m ≡ o →
    own tells (front ++ m ∷ []) f ≡ firsts (filter_map (told_of tells f) front ++ cons_option o [])
push_told tells front m f o e =
    ap firsts (filter_map-append (told_of tells f) front (m ∷ []) ∙ ap (λ (z : Option (List ℕ)). filter_map (told_of tells f) front ++ cons_option z []) e)

none_told : (tells : Tells) (front : List Mark) (m : Mark) (f : ℕ) → told_of tells f m ≡ None → own tells (front ++ m ∷ []) f ≡ own tells front f
none_told tells front m f e = push_told tells front m f None e ∙ ap firsts (append-nil _)

one_told : (tells : Tells) (front : List Mark) (m : Mark) (f : ℕ) (name : List ℕ) (b : Bool) → told_of tells f m ≡ cond b (Some name) None →
    own tells (front ++ m ∷ []) f ≡ cond b (added (own tells front f) name) (own tells front f)
one_told tells front m f name true e = push_told tells front m f (Some name) e ∙ firsts-push (filter_map (told_of tells f) front) name
one_told tells front m f name false e = none_told tells front m f e

no_choice : (b : Bool) → let none : Option (List ℕ) = None in cond b none none ≡ none
no_choice true = refl
no_choice false = refl

silent : (tells : Tells) (event : Event) (around : List ℕ) (f : ℕ) → told tells event.act ≡ None → told_of tells f (mark event around) ≡ None
silent tells event around f e =
    ap (λ (o : Option (List ℕ)). cond (is_own f around) o None) e ∙ no_choice (is_own f around)

module _ {S : Type 0} (tells : Tells) (sets new : List (HashSet (Vec ℕ Global) S)) (event : Event) where
  -- outside of functions nothing is told
  pub outside : (around : List ℕ) (front : List Mark) → around ≡ [] → names_in sets ≡ own tells front → names_in sets ≡ own tells (front ++ mark event around ∷ [])
  outside around front none e =
      e ∙ (λ i f. sym (none_told tells front (mark event around) f (ap (λ (a : List ℕ). cond (is_own f a) (told tells event.act) None) none)) i)

  -- nor where the event tells no name
  pub nameless : (around : List ℕ) (front : List Mark) → told tells event.act ≡ None → names_in sets ≡ own tells front → names_in sets ≡ own tells (front ++ mark event around ∷ [])
  nameless around front none e = e ∙ (λ i f. sym (none_told tells front (mark event around) f (silent tells event around f none)) i)

  -- else the innermost function has one more name
  pub named : (around : List ℕ) (front : List Mark) (name : List ℕ) (inner : ℕ) → 0 < length around → inner ≡ get_or around 0 0 → told tells event.act ≡ Some name →
      ((f : ℕ) → names_in new f ≡ cond (nat_eq f inner) (added (names_in sets f) name) (names_in sets f)) →
      names_in sets ≡ own tells front → names_in new ≡ own tells (front ++ mark event around ∷ [])
  named [] front name inner h at some says e = absurd (omega arith)
  named (g ∷ around) front name inner h at some says e =
      let here : (f : ℕ) → names_in new f ≡ own tells (front ++ mark event (g ∷ around) ∷ []) f =
      λ f.
      let is : told_of tells f (mark event (g ∷ around)) ≡ cond (nat_eq f inner) (Some name) None =
      ap (λ (o : Option (List ℕ)). cond (nat_eq f g) o None) some ∙ ap (λ (n : ℕ). cond (nat_eq f n) (Some name) None) (sym at) in
      says f ∙ (ap (λ (names : List (List ℕ)). cond (nat_eq f inner) (added names name) names) (λ i. e i f)
      ∙ sym (one_told tells front (mark event (g ∷ around)) f name (nat_eq f inner) is)) in
      (λ i f. here f i)

-- ---- tests of lengths

pub empty_list : (xs : List ℕ) → nat_eq (length xs) 0 ≡ true → xs ≡ []
empty_list [] e = refl
empty_list (x ∷ xs) e = elim (eqb_tells (length (x ∷ xs)) 0) [ inl p ↦ let none = p.1 in absurd (omega arith) | inr q ↦ let no = q.0 in cc ]

pub not_empty : (xs : List ℕ) → nat_eq (length xs) 0 ≡ false → 0 < length xs
not_empty xs e = elim (eqb_tells (length xs) 0) [ inl p ↦ let yes = p.0 in absurd cc | inr q ↦ let no = q.1 in omega arith ]

-- ---- the whole walk

-- how far a walk has come: the events in front have their marks, and their names are told
pub record Walked {S : Type 0} (tells : Tells) (events rest : List Event) (around : List ℕ) (sets : List (HashSet (Vec ℕ Global) S)) : Type 0 where
  pub inside : All (λ f. f < length sets) around
  pub front : List Mark
  pub all : front ++ marks_from (length sets) around rest ≡ marks events
  pub names : names_in sets ≡ own tells front
  pub count : length sets + functions rest ≡ functions events

pub counted : (act : Act) (n k : ℕ) → next_behind act n + k ≡ n + next_behind act k
counted (Use name) n k = refl
counted (Bind name) n k = refl
counted (Declare name) n k = refl
counted (Jump looped) n k = refl
counted Return n k = refl
counted Enter n k = omega arith
counted Leave n k = refl

abbrev pub behind : {S : Type 0} (tells : Tells) (events rest : List Event) (e : Event) (around next : List ℕ) (sets new : List (HashSet (Vec ℕ Global) S)) →
    Walked tells events (e ∷ rest) around sets → next ≡ around_behind e.act (length sets) around → length new ≡ next_behind e.act (length sets) →
    All (λ f. f < length new) next → ((front : List Mark) → names_in sets ≡ own tells front → names_in new ≡ own tells (front ++ mark e around ∷ [])) →
    Walked tells events rest next new
behind tells events rest e around next sets new w around_is count inside names = record {
  inside = inside;
  front = w.front ++ mark e around ∷ [];
  all =
      append_assoc w.front (mark e around ∷ []) (marks_from (length new) next rest)
      ∙ (ap₂ (λ (n : ℕ) (a : List ℕ). w.front ++ (mark e around ∷ marks_from n a rest)) count around_is ∙ w.all);
  names = names w.front w.names;
  count = ap (λ (n : ℕ). n + functions rest) count ∙ (counted e.act (length sets) (functions rest) ∙ w.count);
}

-- the events that are left
pub rest_is : (events : List Event) (i : ℕ) (e : Event) → i < length events → e ≡ get_or events i e → drop i events ≡ e ∷ drop (i + 1) events
rest_is events i e h at =
    let next : suc i ≡ i + 1 = omega arith in
    drop-cons events i e h ∙ ap₂ (λ (x : Event) (n : ℕ). x ∷ drop n events) (sym at) next

pub step_on : {S : Type 0} (tells : Tells) (events : List Event) (i : ℕ) (e : Event) (around next : List ℕ) (sets new : List (HashSet (Vec ℕ Global) S)) →
    i < length events → e ≡ get_or events i e →
    Walked tells events (drop i events) around sets → next ≡ around_behind e.act (length sets) around → length new ≡ next_behind e.act (length sets) →
    All (λ f. f < length new) next → ((front : List Mark) → names_in sets ≡ own tells front → names_in new ≡ own tells (front ++ mark e around ∷ [])) →
    Walked tells events (drop (i + 1) events) next new
step_on tells events i e around next sets new h at w around_is count inside names =
    behind tells events (drop (i + 1) events) e around next sets new (subst (λ rest. Walked tells events rest around sets) (rest_is events i e h at) w) around_is count inside names

pub ended : {S : Type 0} (tells : Tells) (events rest : List Event) (around : List ℕ) (sets : List (HashSet (Vec ℕ Global) S)) → rest ≡ [] → (w : Walked tells events rest around sets) → w.front ≡ marks events
ended tells events rest around sets e w =
    sym (append-nil w.front) ∙ (ap (λ (r : List Event). w.front ++ marks_from (length sets) around r) (sym e) ∙ w.all)

-- What the marked events of a part tell: the names of the text around it, and those of each function in it.
use Rattle.std.proofs.Common.{◌≡◌, ℕ, suc, ◌+◌, ◌<◌, Bool, true, false, cond, nat_eq, List, [], ◌∷◌, ◌++◌, length, length-append, Option, None, inl, inr, refl, sym, ap, ap₂, subst, ◌∙◌, append_assoc, arith, eq-eqb, ◌⊎◌, ◌≢◌}
use Rattle.std.specs.List.{filter_map, cons_option}
use Rattle.std.proofs.lemmas.Bool.Decides.{eqb_tells}
use Rattle.std.proofs.lemmas.List.{append-nil}
use Rattle.std.proofs.lemmas.List.Elements.{filter_map-append}
use Rattle.py_scopes.specs.declared.event.Act.{Act}
use Rattle.py_scopes.specs.declared.event.Act.TheVariants.{Use, Bind, Declare, Jump, Return, Enter, Leave}
use Rattle.py_scopes.specs.declared.event.Event.{Event}
use Rattle.py_scopes.specs.declared.names.Tells.{Tells}
use Rattle.py_scopes.specs.declared.names.Tells.TheVariants.{Bound, Declared, Occurring}
use Rattle.py_scopes.specs.Events.{at}
use Rattle.py_scopes.specs.Scopes.{Mark, mark, next_behind, around_behind, marks_from, functions, told, is_own, told_of}
use Rattle.py_meaning.specs.Tree.{Name}

-- the names of function f, of those with numbers from n on
abbrev pub names_at : List (List Name) → ℕ → ℕ → List Name
names_at [] n f = []
names_at (names ∷ others) n f = cond (nat_eq f n) names (names_at others (suc n) f)

no_names : (inner : List (List Name)) (n f : ℕ) → f < n → names_at inner n f ≡ []
no_names [] n f h = refl
no_names (names ∷ inner) n f h =
    elim (eqb_tells f n) [
      | inl p ↦ let same = p.1 in absurd (omega arith)
      | inr q ↦ ap (λ (b : Bool). cond b names (names_at inner (suc n) f)) q.0 ∙ no_names inner (suc n) f (omega arith)
    ]

names_on : (first second : List (List Name)) (n f : ℕ) → names_at first n f ++ names_at second (n + length first) f ≡ names_at (first ++ second) n f
names_on [] second n f = let e : n + 0 ≡ n = omega arith in ap (λ (k : ℕ). names_at second k f) e
names_on (names ∷ first) second n f =
    let e : n + suc (length first) ≡ suc n + length first = omega arith in
    ap (λ (k : ℕ). cond (nat_eq f n) names (names_at first (suc n) f) ++ names_at second k f) e
    ∙ (elim (eqb_tells f n) [
      | inl p ↦
          ap (λ (b : Bool). cond b names (names_at first (suc n) f) ++ names_at second (suc n + length first) f) p.0
          ∙ (let same = p.1 in ap (λ (ns : List Name). names ++ ns) (no_names second (suc n + length first) f (omega arith)) ∙ append-nil names)
          ∙ ap (λ (b : Bool). cond b names (names_at (first ++ second) (suc n) f)) (sym p.0)
      | inr q ↦
          ap (λ (b : Bool). cond b names (names_at first (suc n) f) ++ names_at second (suc n + length first) f) q.0
          ∙ names_on first second (suc n) f
          ∙ ap (λ (b : Bool). cond b names (names_at (first ++ second) (suc n) f)) (sym q.0)
    ])

-- events with all of each function that begins in them
pub record Weaves (tells : Tells) (events : List Event) (own : List Name) (inner : List (List Name)) : Type 0 where
  pub count : functions events ≡ length inner
  pub goes_on : (n : ℕ) (around : List ℕ) (rest : List Event) → marks_from n around (events ++ rest) ≡ marks_from n around events ++ marks_from (n + length inner) around rest
  pub here : (n f : ℕ) (around : List ℕ) → f < n → filter_map (told_of tells f) (marks_from n (f ∷ around) events) ≡ own
  pub others : (n f : ℕ) (around : List ℕ) → is_own f around ≡ false → filter_map (told_of tells f) (marks_from n around events) ≡ names_at inner n f

pub empty : (tells : Tells) → Weaves tells [] [] []
empty tells = record {
  count = refl;
  goes_on = λ n around rest. let e : n ≡ n + 0 = omega arith in ap (λ (k : ℕ). marks_from k around rest) e;
  here = λ n f around h. refl;
  others = λ n f around h. refl;
}

functions_on : (first second : List Event) → functions (first ++ second) ≡ functions first + functions second
functions_on [] second = omega arith
functions_on (e ∷ first) second = ap (next_behind e.act) (functions_on first second) ∙ next_on e.act (functions first) (functions second)
  where
    next_on : (act : Act) (n k : ℕ) → next_behind act (n + k) ≡ next_behind act n + k
    next_on (Use name) n k = refl
    next_on (Bind name) n k = refl
    next_on (Declare name) n k = refl
    next_on (Jump looped) n k = refl
    next_on Return n k = refl
    next_on Enter n k = omega arith
    next_on Leave n k = refl

-- one part behind another
pub joined : {tells : Tells} {first second : List Event} {own more : List Name} {inner others : List (List Name)} → Weaves tells first own inner → Weaves tells second more others
    → Weaves tells (first ++ second) (own ++ more) (inner ++ others)
joined {tells = tells} {first = first} {second = second} {own = own} {more = more} {inner = inner} {others = others} a b =
    let parts : (n : ℕ) (around : List ℕ) → marks_from n around (first ++ second) ≡ marks_from n around first ++ marks_from (n + length inner) around second = λ n around. a.goes_on n around second in
    let told_parts : (n f : ℕ) (around : List ℕ) → filter_map (told_of tells f) (marks_from n around (first ++ second)) ≡ filter_map (told_of tells f) (marks_from n around first) ++ filter_map (told_of tells f) (marks_from (n + length inner) around second) =
    λ n f around. ap (filter_map (told_of tells f)) (parts n around) ∙ filter_map-append (told_of tells f) (marks_from n around first) (marks_from (n + length inner) around second) in
    record {
      count = functions_on first second ∙ ap₂ (λ x y. x + y) a.count b.count ∙ sym (length-append inner others);
      goes_on = λ n around rest.
          ap (marks_from n around) (append_assoc first second rest) ∙ a.goes_on n around (second ++ rest)
          ∙ ap (λ (ms : List Mark). marks_from n around first ++ ms) (b.goes_on (n + length inner) around rest)
          ∙ sym (append_assoc (marks_from n around first) (marks_from (n + length inner) around second) (marks_from (n + length inner + length others) around rest))
          ∙ ap₂ (λ (ms : List Mark) (k : ℕ). ms ++ marks_from k around rest) (sym (parts n around)) (let e = length-append inner others in omega arith);
      here = λ n f around h. told_parts n f (f ∷ around) ∙ ap₂ (λ (x y : List Name). x ++ y) (a.here n f around h) (b.here (n + length inner) f around (omega arith));
      others = λ n f around h. told_parts n f around ∙ ap₂ (λ (x y : List Name). x ++ y) (a.others n f around h) (b.others (n + length inner) f around h) ∙ names_on inner others n f;
    }

-- ---- acts that begin and end no function

abbrev pub Stays : Act → Type 0
Stays Enter = ⊥
Stays Leave = ⊥
Stays (Use name) = Unit {0}
Stays (Bind name) = Unit {0}
Stays (Declare name) = Unit {0}
Stays (Jump looped) = Unit {0}
Stays Return = Unit {0}

abbrev pub AllStay : List Act → Type 0
AllStay [] = Unit {0}
AllStay (act ∷ acts) = Stays act × AllStay acts

one_count : (act : Act) → Stays act → next_behind act 0 ≡ 0
one_count (Use name) h = refl
one_count (Bind name) h = refl
one_count (Declare name) h = refl
one_count (Jump looped) h = refl
one_count Return h = refl
one_count Enter h = absurd h
one_count Leave h = absurd h

same_next : (act : Act) → Stays act → (n : ℕ) → next_behind act n ≡ n
same_next (Use name) h n = refl
same_next (Bind name) h n = refl
same_next (Declare name) h n = refl
same_next (Jump looped) h n = refl
same_next Return h n = refl
same_next Enter h n = absurd h
same_next Leave h n = absurd h

same_around : (act : Act) → Stays act → (n : ℕ) (around : List ℕ) → around_behind act n around ≡ around
same_around (Use name) h n around = refl
same_around (Bind name) h n around = refl
same_around (Declare name) h n around = refl
same_around (Jump looped) h n around = refl
same_around Return h n around = refl
same_around Enter h n around = absurd h
same_around Leave h n around = absurd h

-- what an act tells of the text that it stands in
abbrev pub names_of : Tells → Act → List Name
names_of tells act = cons_option (told tells act) []

own_mark : (tells : Tells) (event : Event) (f : ℕ) (around : List ℕ) → cons_option (told_of tells f (mark event (f ∷ around))) [] ≡ names_of tells event.act
own_mark tells event f around = ap (λ (b : Bool). cons_option (cond b (told tells event.act) None) []) (eq-eqb f f refl)

other_mark : (tells : Tells) (event : Event) (f : ℕ) (around : List ℕ) → is_own f around ≡ false → cons_option (told_of tells f (mark event around)) [] ≡ []
other_mark tells event f around other = ap (λ (b : Bool). cons_option (cond b (told tells event.act) None) []) other

abbrev pub event : ℕ → Act → Event
event line act = record { line = line; act = act }

-- one act
pub one : (tells : Tells) (line : ℕ) (act : Act) → Stays act → Weaves tells (event line act ∷ []) (names_of tells act) []
one tells line act h = record {
  count = one_count act h;
  goes_on = λ n around rest. ap₂ (λ (k : ℕ) (a : List ℕ). mark (event line act) around ∷ marks_from k a rest) (same_next act h n ∙ (let e : n ≡ n + 0 = omega arith in e)) (same_around act h n around);
  here = λ n f around lt. own_mark tells (event line act) f around;
  others = λ n f around other. other_mark tells (event line act) f around other;
}

-- acts of one line
pub acts : (tells : Tells) (line : ℕ) (all : List Act) → AllStay all → Weaves tells (at line all) (filter_map (told tells) all) []
acts tells line [] h = empty tells
acts tells line (act ∷ all) h = subst (λ names. Weaves tells (at line (act ∷ all)) names []) (sym (filter_map-append (told tells) (act ∷ []) all)) (joined (one tells line act h.0) (acts tells line all h.1))

-- ---- a function

begins : (tells : Tells) → told tells Enter ≡ None
begins Bound = refl
begins Declared = refl
begins Occurring = refl

ends : (tells : Tells) → told tells Leave ≡ None
ends Bound = refl
ends Declared = refl
ends Occurring = refl

silent : (tells : Tells) (line f : ℕ) (act : Act) (around : List ℕ) → told tells act ≡ None → told_of tells f (mark (event line act) around) ≡ None
silent tells line f act around e = elim (is_own f around) as (λ b. cond b (told tells act) None ≡ None) [ true ↦ e | false ↦ refl ]

-- the marks of a function's text, between those where it begins and ends
module _ {tells : Tells} {inside : List Event} {own : List Name} {inner : List (List Name)} (line : ℕ) (w : Weaves tells inside own inner) where
  text : List Event
  text = event line Enter ∷ (inside ++ event line Leave ∷ [])

  abbrev start : List ℕ → Mark
  start around = mark (event line Enter) around

  abbrev end : ℕ → List ℕ → Mark
  end n around = mark (event line Leave) (n ∷ around)

  spread : (n : ℕ) (around : List ℕ) (rest : List Event)
      → marks_from n around (event line Enter ∷ (inside ++ event line Leave ∷ rest)) ≡ start around ∷ (marks_from (suc n) (n ∷ around) inside ++ end n around ∷ marks_from (suc n + length inner) around rest)
  spread n around rest = ap (λ (ms : List Mark). start around ∷ ms) (w.goes_on (suc n) (n ∷ around) (event line Leave ∷ rest))

  told_spread : (n f : ℕ) (around : List ℕ)
      → filter_map (told_of tells f) (marks_from n around (event line Enter ∷ (inside ++ event line Leave ∷ []))) ≡ filter_map (told_of tells f) (marks_from (suc n) (n ∷ around) inside)
  told_spread n f around =
      ap (filter_map (told_of tells f)) (spread n around [])
      ∙ ap (λ (o : Option Name). cons_option o (filter_map (told_of tells f) (marks_from (suc n) (n ∷ around) inside ++ end n around ∷ []))) (silent tells line f Enter around (begins tells))
      ∙ filter_map-append (told_of tells f) (marks_from (suc n) (n ∷ around) inside) (end n around ∷ [])
      ∙ ap (λ (o : Option Name). filter_map (told_of tells f) (marks_from (suc n) (n ∷ around) inside) ++ cons_option o []) (silent tells line f Leave (n ∷ around) (ends tells))
      ∙ append-nil _

  within : (n f : ℕ) (around : List ℕ) → is_own f around ≡ false → (nat_eq f n ≡ true) × (f ≡ n) ⊎ (nat_eq f n ≡ false) × (f ≢ n)
      → filter_map (told_of tells f) (marks_from (suc n) (n ∷ around) inside) ≡ cond (nat_eq f n) own (names_at inner (suc n) f)
  within n f around other (inl p) =
      ap (λ (k : ℕ). filter_map (told_of tells f) (marks_from (suc n) (k ∷ around) inside)) (sym p.1) ∙ w.here (suc n) f around (let e = p.1 in omega arith)
      ∙ ap (λ (b : Bool). cond b own (names_at inner (suc n) f)) (sym p.0)
  within n f around other (inr q) = w.others (suc n) f (n ∷ around) q.0 ∙ ap (λ (b : Bool). cond b own (names_at inner (suc n) f)) (sym q.0)

  -- it tells nothing of the text around it
  pub function : Weaves tells (event line Enter ∷ (inside ++ event line Leave ∷ [])) [] (own ∷ inner)
  function = record {
    count = ap suc (functions_on inside (event line Leave ∷ []) ∙ (let c = w.count in omega arith));
    goes_on = λ n around rest.
        ap (marks_from n around) (ap (λ (es : List Event). event line Enter ∷ es) (append_assoc inside (event line Leave ∷ []) rest)) ∙ spread n around rest
        ∙ ap (λ (k : ℕ). start around ∷ (marks_from (suc n) (n ∷ around) inside ++ end n around ∷ marks_from k around rest)) (let e : suc n + length inner ≡ n + suc (length inner) = omega arith in e)
        ∙ sym (append_assoc (start around ∷ marks_from (suc n) (n ∷ around) inside) (end n around ∷ []) (marks_from (n + suc (length inner)) around rest))
        ∙ ap (λ (ms : List Mark). ms ++ marks_from (n + suc (length inner)) around rest) (sym (spread n around []));
    here = λ n f around h.
        told_spread n f (f ∷ around) ∙ (elim (eqb_tells f n) [
          | inl p ↦ let e = p.1 in absurd (omega arith)
          | inr q ↦ w.others (suc n) f (n ∷ (f ∷ around)) q.0 ∙ no_names inner (suc n) f (omega arith)
        ]);
    others = λ n f around other. told_spread n f around ∙ within n f around other (eqb_tells f n);
  }

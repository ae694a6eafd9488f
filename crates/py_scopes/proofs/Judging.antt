-- How far the search for the first fault has come.
use Rattle.std.proofs.Common.{◌≡◌, ℕ, Bool, true, cond, nat_eq, suc, ◌+◌, ◌<◌, List, [], ◌∷◌, ◌++◌, length, length-append, take, drop, get_or, All, below_more, Option, Some, None, Vec, Global, filter, map, not, slice_get, inl, inr, refl, sym, ap, subst, ◌∙◌, arith}
use Rattle.std.specs.Prelude.{option_and_then}
use Rattle.std.specs.HashSet.{HashSet}
use Rattle.std.specs.List.{filter_map, cons_option}
use Rattle.std.proofs.Math.Seq.{take-append_seam}
use Rattle.std.proofs.lemmas.Bool.{cases_lt}
use Rattle.std.proofs.lemmas.Bool.Decides.{eqb_tells}
use Rattle.std.proofs.lemmas.List.Elements.{filter_map-append}
use Rattle.std.proofs.lemmas.List.Elements.{All-nil}
use Rattle.std.proofs.lemmas.Option.{slice_get_past}
use Rattle.mpy_base.specs.declared.source.SourceFault.{SourceFault}
use Rattle.py_scopes.specs.declared.event.Act.{Act}
use Rattle.py_scopes.specs.declared.event.Act.TheVariants.{Use, Bind, Declare, Jump, Return, Enter, Leave}
use Rattle.py_scopes.specs.declared.event.Event.{Event}
use Rattle.py_scopes.specs.declared.names.Tells.{Tells}
use Rattle.py_scopes.specs.Asked.{Asks}
use Rattle.py_scopes.specs.declared.names.Tells.TheVariants.{Bound, Declared, Occurring}
use Rattle.py_scopes.specs.Names.{has, firsts, Table, bytes_of, names_in}
use Rattle.py_scopes.specs.Scopes.{Mark, mark, next_behind, around_behind, marks, told, is_own, told_of, own, locals, locals_below, wrong, fault_at, IsFirst, AreFaultless}
use Rattle.py_scopes.proofs.Tables.{names_at}
use Rattle.py_scopes.proofs.Walks.{Walked, behind, rest_is, ended}

get_seam : (front tail : List Mark) (m : Mark) → slice_get (front ++ m ∷ tail) (length front) ≡ Some m
get_seam [] tail m = refl
get_seam (x ∷ front) tail m = get_seam front tail m

abbrev wrong_at : List Mark → List Mark → Mark → Option SourceFault
wrong_at ms front m = wrong (own Bound ms) (own Declared ms) (own Occurring front) m.around m.event.line m.event.act

at_seam : (front tail ms : List Mark) (m : Mark) → front ++ m ∷ tail ≡ ms → fault_at ms (length front) ≡ wrong_at ms front m
at_seam front tail ms m e =
    ap (option_and_then (wrong_at ms (take (length front) ms))) (ap (λ (z : List Mark). slice_get z (length front)) (sym e) ∙ get_seam front tail m)
    ∙ ap (λ (z : List Mark). wrong_at ms z m) (ap (take (length front)) (sym e) ∙ take-append_seam front (m ∷ tail))

abbrev Sets : Type 0 → Type 0
Sets S = List (HashSet (Vec ℕ Global) S)

pub none_of : (o : Option SourceFault) → ((f : SourceFault) → o ≡ Some f → ⊥) → o ≡ None
none_of None unlike = refl
none_of (Some f) unlike = absurd (unlike f refl)

-- ---- what is asked for

same_number : (f : ℕ) → nat_eq f f ≡ true
same_number f = elim (eqb_tells f f) [ inl p ↦ p.0 | inr q ↦ absurd (q.1 refl) ]

no_first : (xs : List (List ℕ)) (name : List ℕ) (ys : List (List ℕ)) → firsts (xs ++ name ∷ ys) ≡ [] → ⊥
no_first [] name ys e = cc
no_first (x ∷ xs) name ys e = cc

-- a name that an event tells is among those of the whole text
kept_told : (tells : Tells) (front tail : List Mark) (m : Mark) (f : ℕ) (name : List ℕ) → told_of tells f m ≡ Some name → own tells (front ++ m ∷ tail) f ≡ [] → ⊥
kept_told tells front tail m f name is e =
    no_first (filter_map (told_of tells f) front) name (filter_map (told_of tells f) tail)
    (sym (ap firsts (filter_map-append (told_of tells f) front (m ∷ tail) ∙ ap (λ (o : Option (List ℕ)). filter_map (told_of tells f) front ++ cons_option o (filter_map (told_of tells f) tail)) is)) ∙ e)

declares : (e : Event) (around outer : List ℕ) (f : ℕ) (name : List ℕ) → e.act ≡ Declare name → around ≡ f ∷ outer → told_of Declared f (mark e around) ≡ Some name
declares e around outer f name is there =
    ap (λ (a : List ℕ). cond (is_own f a) (told Declared e.act) None) there
    ∙ ap (λ (act : Act). cond (nat_eq f f) (told Declared act) None) is
    ∙ ap (λ (b : Bool). cond b (Some name) None) (same_number f)

-- only where a name is declared it matters which names occur
alike : (bound declared some other : Table) (around : List ℕ) (line : ℕ) (act : Act) → ((name : List ℕ) (f : ℕ) (outer : List ℕ) → act ≡ Declare name → around ≡ f ∷ outer → ⊥) →
    wrong bound declared some around line act ≡ wrong bound declared other around line act
alike bound declared some other around line (Use name) unsaid = refl
alike bound declared some other [] line (Declare name) unsaid = refl
alike bound declared some other (f ∷ around) line (Declare name) unsaid = absurd (unsaid name f around refl refl)
alike bound declared some other around line (Jump looped) unsaid = refl
alike bound declared some other [] line Return unsaid = refl
alike bound declared some other (f ∷ around) line Return unsaid = refl
alike bound declared some other around line (Bind name) unsaid = refl
alike bound declared some other around line Enter unsaid = refl
alike bound declared some other around line Leave unsaid = refl

module _ {S : Type 0} where
  -- no event in front has a fault
  pub record Judged (tells : Tells) (events rest : List Event) (around : List ℕ) (seen : Sets S) : Type 0 where
    pub walked : Walked tells events rest around seen
    pub none_before : (n : ℕ) → n < length walked.front → fault_at (marks events) n ≡ None

  begun : (tells : Tells) (events : List Event) → Judged tells events events [] (let none : Sets S = [] in none)
  begun tells events = record {
    walked = record { inside = All-nil (λ f. f < 0); front = []; all = refl; names = λ i f. []; count = omega arith };
    none_before = λ n h. absurd (omega arith);
  }

  pub begun_at : (tells : Tells) (events : List Event) (around : List ℕ) (seen : Sets S) → around ≡ [] → seen ≡ [] → Judged tells events events around seen
  begun_at tells events around seen a s =
      subst (λ (z : Sets S). Judged tells events events around z) (sym s) (subst (λ (z : List ℕ). Judged tells events events z (let none : Sets S = [] in none)) (sym a) (begun tells events))

  pub at_event : (tells : Tells) (events : List Event) (i : ℕ) (e : Event) (around : List ℕ) (seen : Sets S) → i < length events → e ≡ get_or events i e →
      Judged tells events (drop i events) around seen → Judged tells events (e ∷ drop (i + 1) events) around seen
  at_event tells events i e around seen h at j = subst (λ rest. Judged tells events rest around seen) (rest_is events i e h at) j

  -- what was called with borrowed lists
  pub lent : (bound declared seen sets : Sets S) (around given : List ℕ) (e : Event) (o : Option SourceFault) → sets ≡ seen → given ≡ around →
      o ≡ wrong (names_in bound) (names_in declared) (names_in sets) given e.line e.act → o ≡ wrong (names_in bound) (names_in declared) (names_in seen) around e.line e.act
  lent bound declared seen sets around given e o s a is =
      is ∙ (ap (λ (z : Sets S). wrong (names_in bound) (names_in declared) (names_in z) given e.line e.act) s
      ∙ ap (λ (z : List ℕ). wrong (names_in bound) (names_in declared) (names_in seen) z e.line e.act) a)

  module _ (tells : Tells) (events rest : List Event) (e : Event) (around : List ℕ) (bound declared seen : Sets S) (o : Option SourceFault) (j : Judged tells events (e ∷ rest) around seen)
      (bound_are : names_in bound ≡ own Bound (marks events)) (declared_are : names_in declared ≡ own Declared (marks events))
      (asks : Asks tells (names_in declared)) (is : o ≡ wrong (names_in bound) (names_in declared) (names_in seen) around e.line e.act) where
    seen_alike : wrong (names_in bound) (names_in declared) (own Occurring j.walked.front) around e.line e.act ≡ wrong (names_in bound) (names_in declared) (names_in seen) around e.line e.act
    seen_alike = elim asks [
      | inl occurring ↦ ap (λ (t : Table). wrong (names_in bound) (names_in declared) t around e.line e.act) (sym (j.walked.names ∙ ap (λ (z : Tells). own z j.walked.front) occurring))
      | inr none ↦
          alike (names_in bound) (names_in declared) (own Occurring j.walked.front) (names_in seen) around e.line e.act
          (λ name f outer is there. kept_told Declared j.walked.front _ (mark e around) f name (declares e around outer f name is there)
          (ap (λ (ms : List Mark). own Declared ms f) j.walked.all ∙ (ap (λ (t : Table). t f) (sym declared_are) ∙ none f)))
    ]

    -- the fault of the event
    here : fault_at (marks events) (length j.walked.front) ≡ o
    here =
        at_seam j.walked.front _ (marks events) (mark e around) j.walked.all
        ∙ (ap (λ (t : Table). wrong t (own Declared (marks events)) (own Occurring j.walked.front) around e.line e.act) (sym bound_are)
        ∙ (ap (λ (t : Table). wrong (names_in bound) t (own Occurring j.walked.front) around e.line e.act) (sym declared_are)
        ∙ (seen_alike ∙ sym is)))

    pub found : (f : SourceFault) → o ≡ Some f → IsFirst (marks events) f
    found f some = record { place = length j.walked.front; here = here ∙ some; none_before = j.none_before }

    pub passed : (next : List ℕ) (new : Sets S) → o ≡ None → next ≡ around_behind e.act (length seen) around → length new ≡ next_behind e.act (length seen) →
        All (λ f. f < length new) next → ((front : List Mark) → names_in seen ≡ own tells front → names_in new ≡ own tells (front ++ mark e around ∷ [])) →
        Judged tells events rest next new
    passed next new none around_is count inside names = record {
      walked = behind tells events rest e around next seen new j.walked around_is count inside names;
      none_before = λ n h.
          let one : length (j.walked.front ++ mark e around ∷ []) ≡ length j.walked.front + 1 = length-append j.walked.front (mark e around ∷ []) in
          below_more (λ k. fault_at (marks events) k ≡ None) (length j.walked.front) j.none_before (here ∙ none) n (omega (arith, one, h));
    }

  pub faultless : (tells : Tells) (events rest : List Event) (around : List ℕ) (seen : Sets S) → rest ≡ [] → Judged tells events rest around seen → AreFaultless (marks events)
  faultless tells events rest around seen e j n =
      let all : j.walked.front ≡ marks events = ended tells events rest around seen e j.walked in
      elim (cases_lt n (length (marks events))) [
        | inl h ↦ j.none_before n (subst (λ (ms : List Mark). n < length ms) (sym all) h)
        | inr h ↦ ap (option_and_then (wrong_at (marks events) (take n (marks events)))) (slice_get_past (marks events) n h)
      ]

  -- the locals of one more function
  pub slot_push : (bound : Sets S) (declared : Table) (f : ℕ) (set : HashSet (Vec ℕ Global) S) (items new : List (List (List ℕ))) (field : List (List ℕ)) (keys : List (Vec ℕ Global)) →
      f < length bound → set ≡ get_or bound f set → items ≡ locals_below (names_in bound) declared f → keys ≡ set.keys →
      field ≡ filter (λ name. not (has name (declared f))) (map bytes_of keys) → new ≡ items ++ field ∷ [] → new ≡ locals_below (names_in bound) declared (f + 1)
  slot_push bound declared f set items new field keys h at so_far keys_are is pushed =
      let next : suc f ≡ f + 1 = omega arith in
      let field_is : field ≡ locals (names_in bound) declared f =
      is ∙ ap (filter (λ name. not (has name (declared f)))) (ap (map bytes_of) keys_are ∙ sym (names_at bound f set h at)) in
      pushed ∙ (ap (λ (z : List (List (List ℕ))). z ++ field ∷ []) so_far ∙ (ap (λ (z : List (List ℕ)). locals_below (names_in bound) declared f ++ z ∷ []) field_is
      ∙ ap (locals_below (names_in bound) declared) next))

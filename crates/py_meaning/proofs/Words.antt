-- Marks of a faultless text.
use Rattle.std.proofs.Common.{◌≡◌, ℕ, suc, Bool, true, false, cond, nat_eq, inl, inr, ap₂, List, [], ◌∷◌, ◌++◌, take, Option, Some, None, refl, sym, ap, subst, ◌∙◌, append_assoc}
use Rattle.std.specs.Prelude.{slice_get, option_and_then}
use Rattle.py_scopes.specs.declared.event.Act.{Act}
use Rattle.py_scopes.specs.declared.event.Act.TheVariants.{Use, Bind, Declare, Jump, Return, Enter, Leave}
use Rattle.py_scopes.specs.declared.names.Tells.TheVariants.{Bound, Declared, Occurring}
use Rattle.py_effects.specs.mpy_base.declared.source.SourceCode.TheVariants.{LateGlobal}
use Rattle.py_scopes.specs.Names.{Table, has}
use Rattle.py_meaning.specs.Tree.{Name}
use Rattle.std.specs.List.{filter_map}
use Rattle.std.proofs.lemmas.List.{append-nil}
use Rattle.std.proofs.lemmas.Bool.Decides.{eqb_tells}
use Rattle.py_meaning.proofs.Slots.{has_firsts}
use Rattle.py_scopes.specs.Scopes.{Mark, wrong, fault, told, told_of, is_own, own, AreFaultless}
use Rattle.py_meaning.proofs.Marks.{Right, AllRight, Timely}

module _ (bound declared : Table) where
  -- an act in which nothing is wrong
  right : (occurring : Table) (around : List ℕ) (line : ℕ) (act : Act) → wrong bound declared occurring around line act ≡ None → Right act around
  right occurring around line (Use name) e = tt
  right occurring around line (Bind name) e = tt
  right occurring around line (Declare name) e = tt
  right occurring around line (Jump true) e = refl
  right occurring around line (Jump false) e = cc
  right occurring [] line Return e = cc
  right occurring (f ∷ around) line Return e = refl
  right occurring around line Enter e = tt
  right occurring around line Leave e = tt

  -- nothing is wrong with marks behind others
  abbrev pub Faultless : List Mark → List Mark → Type 0
  Faultless front ms = (n : ℕ) → option_and_then (λ (m : Mark). wrong bound declared (own Occurring (front ++ take n ms)) m.around m.event.line m.event.act) (slice_get ms n) ≡ None

  rest_faultless : (front : List Mark) (m : Mark) (ms : List Mark) → Faultless front (m ∷ ms) → Faultless (front ++ m ∷ []) ms
  rest_faultless front m ms h n =
      subst (λ before. option_and_then (λ (k : Mark). wrong bound declared (own Occurring before) k.around k.event.line k.event.act) (slice_get ms n) ≡ None) (sym (append_assoc front (m ∷ []) (take n ms))) (h (suc n))

  pub all_right : (front ms : List Mark) → Faultless front ms → AllRight ms
  all_right front [] h = tt
  all_right front (m ∷ ms) h = (right (own Occurring (front ++ [])) m.around m.event.line m.event.act (h 0), all_right (front ++ m ∷ []) ms (rest_faultless front m ms h))

  -- ---- declared names

  nothing_told : (b : Bool) (name : Name) → let none : Option Name = None in cond b none none ≡ Some name → ⊥
  nothing_told true name e = cc
  nothing_told false name e = cc

  not_late : (b : Bool) (line : ℕ) (name : Name) → cond b (fault LateGlobal line name) None ≡ None → b ≡ false
  not_late true line name e = cc
  not_late false line name e = refl

  declares_new : (occurring : Table) (g line : ℕ) (x : Name) (f : ℕ) (name : Name) (b : Bool) → nat_eq f g ≡ b → (b ≡ true → f ≡ g) → has x (occurring g) ≡ false → cond b (Some x) None ≡ Some name → has name (occurring f) ≡ false
  declares_new occurring g line x f name true is same new told = let word : x ≡ name = cc in ap₂ (λ (n : Name) (k : ℕ). has n (occurring k)) (sym word) (same refl) ∙ new
  declares_new occurring g line x f name false is same new told = cc

  -- what an act declares does not occur in front of it
  new_name : (occurring : Table) (around : List ℕ) (line : ℕ) (act : Act) (f : ℕ) (name : Name) → wrong bound declared occurring around line act ≡ None → cond (is_own f around) (told Declared act) None ≡ Some name → has name (occurring f) ≡ false
  new_name occurring [] line act f name e told = cc
  new_name occurring (g ∷ around) line (Declare x) f name e told =
      declares_new occurring g line x f name (nat_eq f g) refl (λ is. elim (eqb_tells f g) [ inl p ↦ p.1 | inr q ↦ let other = q.0 in absurd cc ]) (not_late (has x (occurring g)) line x e) told
  new_name occurring (g ∷ around) line (Use x) f name e told = absurd (nothing_told (nat_eq f g) name told)
  new_name occurring (g ∷ around) line (Bind x) f name e told = absurd (nothing_told (nat_eq f g) name told)
  new_name occurring (g ∷ around) line (Jump looped) f name e told = absurd (nothing_told (nat_eq f g) name told)
  new_name occurring (g ∷ around) line Return f name e told = absurd (nothing_told (nat_eq f g) name told)
  new_name occurring (g ∷ around) line Enter f name e told = absurd (nothing_told (nat_eq f g) name told)
  new_name occurring (g ∷ around) line Leave f name e told = absurd (nothing_told (nat_eq f g) name told)

  pub all_timely : (front ms : List Mark) → Faultless front ms → Timely front ms
  all_timely front [] h = tt
  all_timely front (m ∷ ms) h = (
    (λ f name told.
        ap (λ (before : List Mark). has name (filter_map (told_of Occurring f) before)) (sym (append-nil front)) ∙ sym (has_firsts name (filter_map (told_of Occurring f) (front ++ [])))
        ∙ new_name (own Occurring (front ++ [])) m.around m.event.line m.event.act f name (h 0) told),
    all_timely (front ++ m ∷ []) ms (rest_faultless front m ms h),
  )

pub faultless_right : (ms : List Mark) → AreFaultless ms → AllRight ms
faultless_right ms h = all_right (own Bound ms) (own Declared ms) [] ms h

pub faultless_timely : (ms : List Mark) → AreFaultless ms → Timely [] ms
faultless_timely ms h = all_timely (own Bound ms) (own Declared ms) [] ms h

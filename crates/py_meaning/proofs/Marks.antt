-- What marks tell of words and of names that are declared global.
use Rattle.std.proofs.Common.{◌≡◌, ℕ, Bool, true, false, List, [], ◌∷◌, ◌++◌, append_assoc, ◌||◌, Option, Some, None, refl, sym, ap, subst, ◌∙◌}
use Rattle.std.specs.List.{filter_map, cons_option}
use Rattle.std.specs.Str.{bytes_eq}
use Rattle.std.proofs.lemmas.Slice.Eq.{bytes_eq-Decides}
use Rattle.std.proofs.lemmas.List.{append-nil}
use Rattle.std.proofs.lemmas.List.Elements.{filter_map-append}
use Rattle.std.proofs.lemmas.List.Folds.{list_any-append}
use Rattle.py_scopes.specs.declared.event.Act.{Act}
use Rattle.py_scopes.specs.declared.event.Act.TheVariants.{Use, Bind, Declare, Jump, Return, Enter, Leave}
use Rattle.py_scopes.specs.declared.names.Tells.TheVariants.{Declared, Occurring}
use Rattle.py_scopes.specs.Names.{has}
use Rattle.py_scopes.specs.Scopes.{Mark, told_of}
use Rattle.py_meaning.specs.Tree.{Name}

-- ---- words in their places

abbrev pub is_inside : List ℕ → Bool
is_inside [] = false
is_inside (f ∷ around) = true

abbrev pub Right : Act → List ℕ → Type 0
Right (Jump looped) around = looped ≡ true
Right Return around = is_inside around ≡ true
Right (Use name) around = Unit {0}
Right (Bind name) around = Unit {0}
Right (Declare name) around = Unit {0}
Right Enter around = Unit {0}
Right Leave around = Unit {0}

abbrev pub AllRight : List Mark → Type 0
AllRight [] = Unit {0}
AllRight (m ∷ ms) = Right m.event.act m.around × AllRight ms

pub right_first : (first second : List Mark) → AllRight (first ++ second) → AllRight first
right_first [] second h = tt
right_first (m ∷ first) second h = (h.0, right_first first second h.1)

pub right_second : (first second : List Mark) → AllRight (first ++ second) → AllRight second
right_second [] second h = h
right_second (m ∷ first) second h = right_second first second h.1

-- ---- names that are declared global before they occur

-- none of the names that a mark declares occurs in the same text in front of it
abbrev pub Timely : List Mark → List Mark → Type 0
Timely front [] = Unit {0}
Timely front (m ∷ ms) = ((f : ℕ) (name : Name) → told_of Declared f m ≡ Some name → has name (filter_map (told_of Occurring f) front) ≡ false) × Timely (front ++ m ∷ []) ms

pub timely_first : (front first second : List Mark) → Timely front (first ++ second) → Timely front first
timely_first front [] second h = tt
timely_first front (m ∷ first) second h = (h.0, timely_first (front ++ m ∷ []) first second h.1)

pub timely_second : (front first second : List Mark) → Timely front (first ++ second) → Timely (front ++ first) second
timely_second front [] second h = subst (λ ms. Timely ms second) (sym (append-nil front)) h
timely_second front (m ∷ first) second h = subst (λ ms. Timely ms second) (append_assoc front (m ∷ []) first) (timely_second (front ++ m ∷ []) first second h.1)

pub not_left : (a b : Bool) → (a || b) ≡ false → a ≡ false
not_left false b e = refl
not_left true b e = e

pub not_right : (a b : Bool) → (a || b) ≡ false → b ≡ false
not_right false b e = e
not_right true b e = cc

pub occurs_on : (f : ℕ) (name : Name) (first second : List Mark) → has name (filter_map (told_of Occurring f) (first ++ second)) ≡ (has name (filter_map (told_of Occurring f) first) || has name (filter_map (told_of Occurring f) second))
occurs_on f name first second = ap (has name) (filter_map-append (told_of Occurring f) first second) ∙ list_any-append (bytes_eq name) (filter_map (told_of Occurring f) first) (filter_map (told_of Occurring f) second)

-- by what the first mark declares
declared_by : (front ms : List Mark) (m : Mark) (f : ℕ) (name : Name) → ((x : Name) → told_of Declared f m ≡ Some x → has x (filter_map (told_of Occurring f) front) ≡ false)
    → (has name (filter_map (told_of Declared f) ms) ≡ true → has name (filter_map (told_of Occurring f) front) ≡ false) → has name (filter_map (told_of Declared f) (m ∷ ms)) ≡ true → has name (filter_map (told_of Occurring f) front) ≡ false
declared_by front ms m f name h later e = new_by (told_of Declared f m) refl e
  where
    among : (x : Name) (b : Bool) → told_of Declared f m ≡ Some x → bytes_eq name x ≡ b → (b || has name (filter_map (told_of Declared f) ms)) ≡ true → has name (filter_map (told_of Occurring f) front) ≡ false
    among x true told is k = subst (λ n. has n (filter_map (told_of Occurring f) front) ≡ false) (sym ((bytes_eq-Decides name x).0 is)) (h x told)
    among x false told is k = later k

    new_by : (o : Option Name) → told_of Declared f m ≡ o → has name (cons_option o (filter_map (told_of Declared f) ms)) ≡ true → has name (filter_map (told_of Occurring f) front) ≡ false
    new_by None told k = later k
    new_by (Some x) told k = among x (bytes_eq name x) told refl k

pub declared_new : (front ms : List Mark) (f : ℕ) (name : Name) → Timely front ms → has name (filter_map (told_of Declared f) ms) ≡ true → has name (filter_map (told_of Occurring f) front) ≡ false
declared_new front [] f name h e = cc
declared_new front (m ∷ ms) f name h e = declared_by front ms m f name (h.0 f) (λ k. not_left _ _ (sym (occurs_on f name front (m ∷ [])) ∙ declared_new (front ++ m ∷ []) ms f name h.1 k)) e

pub not_true : (b : Bool) → (b ≡ true → ⊥) → b ≡ false
not_true true h = absurd (h refl)
not_true false h = refl

-- Names that stand twice.
use Rattle.std.proofs.Common.{◌≡◌, ◌⊎◌, ℕ, zero, suc, ◌+◌, ◌<◌, ◌≤◌, Bool, true, false, ◌||◌, List, [], ◌∷◌, ◌++◌, length, take, drop, get_or, map, refl, sym, ap, ap₂, subst, ◌∙◌, append_assoc, inl, inr, arith}
use Rattle.std.specs.Prelude.{◌↔◌, Contains, IsTrue}
use Rattle.std.specs.List.{list_any}
use Rattle.std.specs.Str.{bytes_eq}
use Rattle.std.proofs.lemmas.Map.Views.{Contains-from_any}
use Rattle.std.proofs.lemmas.List.{append-nil, at_drop_more, take_more}
use Rattle.std.proofs.lemmas.List.Elements.{Contains-append_left, Contains-append_right, Contains-append_cases}
use Rattle.std.proofs.lemmas.List.Folds.{list_any_at}
use Rattle.std.proofs.lemmas.Slice.Eq.{bytes_eq-Decides}
use Rattle.image_open.specs.bc_library.Shelf.{Shelf, names}
use Rattle.image_open.specs.image_grammar.Image.{Differ}
use Rattle.image_open.proofs.image_grammar_lemmas.Steps.{not_true}
use Rattle.image_freeze.specs.declared.named.Named.{Named}
use Rattle.image_freeze.specs.Frozen.{IsTwice}

abbrev pub source_names : List Named → List (List ℕ)
source_names modules = map (λ (m : Named). m.name) modules

-- one name at most is the first that stands twice, and none where the names differ
pub one_twice : (before names : List (List ℕ)) (a b : List ℕ) → IsTwice before names a → IsTwice before names b → a ≡ b
one_twice before [] a b h k = absurd h
one_twice before (name ∷ names) a b (inl h) (inl k) = h.1 ∙ sym k.1
one_twice before (name ∷ names) a b (inl h) (inr k) = absurd (k.0 h.0)
one_twice before (name ∷ names) a b (inr h) (inl k) = absurd (h.0 k.0)
one_twice before (name ∷ names) a b (inr h) (inr k) = one_twice (before ++ name ∷ []) names a b h.1 k.1

pub not_twice : (before names : List (List ℕ)) (a : List ℕ) → Differ before names → IsTwice before names a → ⊥
not_twice before [] a d h = h
not_twice before (name ∷ names) a d (inl h) = d.0 h.0
not_twice before (name ∷ names) a d (inr h) = not_twice (before ++ name ∷ []) names a d.1 h.1

-- a walk over the names
-- =====================

-- none of the names in front stands twice
pub record Walked (before names : List (List ℕ)) (i : ℕ) : Type 0 where
  pub twice : (a : List ℕ) → IsTwice (before ++ take i names) (drop i names) a → IsTwice before names a
  pub differ : Differ (before ++ take i names) (drop i names) → Differ before names

pub none_walked : (before names : List (List ℕ)) → Walked before names 0
none_walked before names =
    let same : before ++ [] ≡ before = append-nil before in
    record { twice = λ a h. subst (λ (z : List (List ℕ)). IsTwice z names a) same h; differ = λ d. subst (λ (z : List (List ℕ)). Differ z names) same d }

pub walked_more : (before names : List (List ℕ)) (i : ℕ) (name : List ℕ) → i < length names → name ≡ get_or names i name → (Contains (before ++ take i names) name → ⊥) → Walked before names i → Walked before names (i + 1)
walked_more before names i name lt is new w =
    let rest = drop (i + 1) names in
    let taken : take (i + 1) names ≡ take i names ++ name ∷ [] = take_more names i name lt ∙ ap (λ (z : List ℕ). take i names ++ z ∷ []) (sym is) in
    let front : before ++ take (i + 1) names ≡ (before ++ take i names) ++ name ∷ [] = ap (λ (z : List (List ℕ)). before ++ z) taken ∙ sym (append_assoc before (take i names) (name ∷ [])) in
    let behind : drop i names ≡ name ∷ rest = at_drop_more (λ (z : List (List ℕ)). z) names i name lt ∙ ap (λ (z : List ℕ). z ∷ rest) (sym is) in
    record {
      twice = λ a h. w.twice a (subst (λ (z : List (List ℕ)). IsTwice (before ++ take i names) z a) (sym behind) (inr (new, subst (λ (z : List (List ℕ)). IsTwice z rest a) front h)));
      differ = λ d. w.differ (subst (λ (z : List (List ℕ)). Differ (before ++ take i names) z) (sym behind) (new, subst (λ (z : List (List ℕ)). Differ z rest) front d));
    }

pub twice_here : (before names : List (List ℕ)) (i : ℕ) (name : List ℕ) → i < length names → name ≡ get_or names i name → Contains (before ++ take i names) name → Walked before names i → IsTwice before names name
twice_here before names i name lt is again w =
    let rest = drop (i + 1) names in
    let behind : drop i names ≡ name ∷ rest = at_drop_more (λ (z : List (List ℕ)). z) names i name lt ∙ ap (λ (z : List ℕ). z ∷ rest) (sym is) in
    w.twice name (subst (λ (z : List (List ℕ)). IsTwice (before ++ take i names) z name) (sym behind) (inl (again, refl)))

drop_all : (xs : List (List ℕ)) (i : ℕ) → length xs ≤ i → drop i xs ≡ []
drop_all [] zero le = refl
drop_all [] (suc i) le = refl
drop_all (x ∷ xs) zero le = absurd (omega (arith, le))
drop_all (x ∷ xs) (suc i) le = drop_all xs i (omega (arith, le))

pub all_walked : (before names : List (List ℕ)) (i : ℕ) → length names ≤ i → Walked before names i → Differ before names
all_walked before names i le w = w.differ (subst (λ (z : List (List ℕ)). Differ (before ++ take i names) z) (sym (drop_all names i le)) tt)

-- among modules
-- =============

any_name : (p : List ℕ → Bool) (modules : List Named) → list_any (λ (m : Named). p m.name) modules ≡ list_any p (source_names modules)
any_name p [] = refl
any_name p (m ∷ ms) = ap (λ (b : Bool). p m.name || b) (any_name p ms)

pub take_names : (modules : List Named) (i : ℕ) → source_names (take i modules) ≡ take i (source_names modules)
take_names [] zero = refl
take_names [] (suc i) = refl
take_names (m ∷ ms) zero = refl
take_names (m ∷ ms) (suc i) = ap (λ (z : List (List ℕ)). m.name ∷ z) (take_names ms i)

pub name_at : (modules : List Named) (i : ℕ) (m : Named) → i < length modules → m ≡ get_or modules i m → m.name ≡ get_or (source_names modules) i m.name
name_at [] i m lt is = absurd (omega (arith, lt))
name_at (n ∷ ms) zero m lt is = ap (λ (z : Named). z.name) is
name_at (n ∷ ms) (suc i) m lt is = name_at ms i m (omega (arith, lt)) is

pub count_names : (modules : List Named) → length (source_names modules) ≡ length modules
count_names [] = refl
count_names (m ∷ ms) = ap suc (count_names ms)

pub is_among : (modules : List Named) (name : List ℕ) → list_any (λ (m : Named). bytes_eq name m.name) modules ≡ true → Contains (source_names modules) name
is_among modules name e = Contains-from_any (λ x y h. (bytes_eq-Decides x y).0 h) name (source_names modules) (sym (any_name (bytes_eq name) modules) ∙ e)

pub not_among : (modules : List Named) (name : List ℕ) → list_any (λ (m : Named). bytes_eq name m.name) modules ≡ false → Contains (source_names modules) name → ⊥
not_among modules name e (k, lt, is) =
    let there : list_any (bytes_eq name) (source_names modules) ≡ true = list_any_at (bytes_eq name) (source_names modules) k name lt ((bytes_eq-Decides name _).1 (sym is)) in
    let none : list_any (bytes_eq name) (source_names modules) ≡ false = sym (any_name (bytes_eq name) modules) ∙ e in
    absurd cc

-- a module below or one of these has the name
-- ===========================================

abbrev pub IsTaken : Shelf → List Named → List ℕ → Type 0
IsTaken below modules name = Contains (names below ++ source_names modules) name

pub taken_below : (below : Shelf) (modules : List Named) (name : List ℕ) → Contains (names below) name → IsTrue true ↔ IsTaken below modules name
taken_below below modules name has = (λ _. Contains-append_left (names below) (source_names modules) name has, λ _. refl)

among : (b : Bool) (modules : List Named) (name : List ℕ) → b ≡ list_any (λ (m : Named). bytes_eq name m.name) modules → Contains (source_names modules) name → b ≡ true
among true modules name e has = refl
among false modules name e has = absurd (not_among modules name (sym e) has)

pub taken_here : (below : Shelf) (modules : List Named) (name : List ℕ) (b c : Bool) → (Contains (names below) name → b ≡ true) → b ≡ false → c ≡ list_any (λ (m : Named). bytes_eq name m.name) modules → IsTrue c ↔ IsTaken below modules name
taken_here below modules name b c has none e = (
  λ is. Contains-append_right (names below) (source_names modules) name (is_among modules name (sym e ∙ is)),
  λ there. elim (Contains-append_cases (names below) (source_names modules) name there) [
    | inl front ↦ absurd (not_true b (has front) none)
    | inr behind ↦ among c modules name e behind
  ],
)

-- Names that are looked up among those in front of them.
use Rattle.std.proofs.Common.{◌≡◌, ℕ, Bool, true, false, not, cond, ◌&&◌, List, [], ◌∷◌, ◌++◌, drop, refl, sym, ap, ap₂, ◌∙◌}
use Rattle.std.specs.Str.{bytes_eq}
use Rattle.std.proofs.lemmas.Slice.Eq.{bytes_eq-Decides}
use Rattle.py_tree.specs.declared.stmt.Param.{Param}
use Rattle.py_expressions.specs.Reading.{is_new}
use Rattle.py_parser.specs.Clauses.{names_differ, param_names}

-- ---- tests

same_test : (a b : Bool) → (a ≡ true → b ≡ true) → (b ≡ true → a ≡ true) → a ≡ b
same_test true b f g = sym (f refl)
same_test false true f g = g refl
same_test false false f g = refl

bytes_eq-sym : (x y : List ℕ) → bytes_eq x y ≡ bytes_eq y x
bytes_eq-sym x y =
    same_test _ _ (λ e. (bytes_eq-Decides y x).1 (sym ((bytes_eq-Decides x y).0 e))) (λ e. (bytes_eq-Decides x y).1 (sym ((bytes_eq-Decides y x).0 e)))

chosen_alone : (same : Bool) → cond same false true ≡ (true && not same)
chosen_alone true = refl
chosen_alone false = refl

chosen_both : (same all rest last : Bool) → all ≡ (rest && last) → cond same false all ≡ (cond same false rest && last)
chosen_both true all rest last e = refl
chosen_both false all rest last e = e

rearranged : (a b c same : Bool) → ((a && not same) && (b && c)) ≡ ((a && b) && cond same false c)
rearranged false b c same = refl
rearranged true true c true = refl
rearranged true false c true = refl
rearranged true true c false = refl
rearranged true false c false = refl

taken_together : (a b c d : Bool) → cond a ((b && c) && d) false ≡ ((a && b) && (c && d))
taken_together false b c d = refl
taken_together true true c d = refl
taken_together true false c d = refl

-- ---- names in front

-- each of the names differs from those in front of it
abbrev pub differ_beside : List (List ℕ) → List (List ℕ) → Bool
differ_beside front [] = true
differ_beside front (text ∷ texts) = cond (is_new text front) (differ_beside (front ++ text ∷ []) texts) false

-- none of the names is in front
abbrev all_new : List (List ℕ) → List (List ℕ) → Bool
all_new [] front = true
all_new (text ∷ texts) front = is_new text front && all_new texts front

is_new_behind : (front : List (List ℕ)) (text last : List ℕ) → is_new text (front ++ last ∷ []) ≡ (is_new text front && not (bytes_eq last text))
is_new_behind [] text last = chosen_alone (bytes_eq last text)
is_new_behind (other ∷ front) text last =
    chosen_both (bytes_eq other text) (is_new text (front ++ last ∷ [])) (is_new text front) (not (bytes_eq last text)) (is_new_behind front text last)

all_new_behind : (texts front : List (List ℕ)) (last : List ℕ) → all_new texts (front ++ last ∷ []) ≡ (all_new texts front && is_new last texts)
all_new_behind [] front last = refl
all_new_behind (text ∷ texts) front last =
    ap₂ (λ a b. a && b) (is_new_behind front text last) (all_new_behind texts front last)
    ∙ (rearranged (is_new text front) (all_new texts front) (is_new last texts) (bytes_eq last text)
    ∙ ap (λ (b : Bool). (is_new text front && all_new texts front) && cond b false (is_new last texts)) (bytes_eq-sym last text))

all_new_alone : (texts : List (List ℕ)) → all_new texts [] ≡ true
all_new_alone [] = refl
all_new_alone (text ∷ texts) = all_new_alone texts

beside : (texts front : List (List ℕ)) → differ_beside front texts ≡ (all_new texts front && names_differ texts)
beside [] front = refl
beside (text ∷ texts) front =
    ap (λ (b : Bool). cond (is_new text front) b false)
    (beside texts (front ++ text ∷ []) ∙ ap (λ (b : Bool). b && names_differ texts) (all_new_behind texts front text))
    ∙ taken_together (is_new text front) (all_new texts front) (is_new text texts) (names_differ texts)

-- ---- a walk over parameters

-- with a table of no names before the first
pub begun : (params : List Param) (front : List (List ℕ)) → front ≡ [] → differ_beside front (param_names (drop 0 params)) ≡ names_differ (param_names params)
begun params front none =
    ap (λ (names : List (List ℕ)). differ_beside names (param_names (drop 0 params))) none
    ∙ (beside (param_names (drop 0 params)) [] ∙ (ap (λ (b : Bool). b && names_differ (param_names (drop 0 params))) (all_new_alone (param_names (drop 0 params)))
    ∙ ap (λ (ps : List Param). names_differ (param_names ps)) (drop_none params)))
  where
    drop_none : (ps : List Param) → drop 0 ps ≡ ps
    drop_none [] = refl
    drop_none (p ∷ ps) = refl

-- Rows of which each member passes a test, or one doesn't.
use Rattle.std.proofs.Common.{◌≡◌, ℕ, zero, suc, ◌+◌, ◌-◌, ◌<◌, ◌≤◌, Bool, true, false, ◌&&◌, List, [], ◌∷◌, length, take, refl, sym, ap, ◌∙◌, arith}
use Rattle.std.specs.Prelude.{slice_index_or}
use Rattle.std.specs.List.{list_all, flat_map}
use Rattle.std.proofs.lemmas.List.{take_more, take_all}
use Rattle.std.proofs.lemmas.List.Folds.{list_all-append}
use Rattle.mpy_writer.specs.mpy_tree.declared.module.Code.{Code, out-Code}
use Rattle.mpy_writer.specs.Codes.{codes_in}
use Rattle.mpy_writer.specs.Writable.{IsShallow}
use Rattle.mpy_writer.proofs.Trees.{codes_more}
use Rattle.mpy_compile.specs.Texts.{code_fits}

both : (a b : Bool) → a ≡ true → b ≡ true → (a && b) ≡ true
both true b e f = f
both false b e f = e

no_left : (a b : Bool) → a ≡ false → (a && b) ≡ false
no_left true b e = cc
no_left false b e = refl

no_right : (a b : Bool) → b ≡ false → (a && b) ≡ false
no_right true b e = e
no_right false b e = refl

pub one_more : {A : Type 0} (f : A → Bool) (items : List A) (i : ℕ) (item : A) → i < length items → item ≡ slice_index_or items i item → f item ≡ true → list_all f (take i items) ≡ true → list_all f (take (i + 1) items) ≡ true
one_more f items i item less is e h =
    ap (list_all f) (take_more items i item less) ∙ list_all-append f (take i items) (slice_index_or items i item ∷ [])
    ∙ both (list_all f (take i items)) (f (slice_index_or items i item) && true) h (both (f (slice_index_or items i item)) true (ap f (sym is) ∙ e) refl)

pub one_fails : {A : Type 0} (f : A → Bool) (items : List A) (i : ℕ) (item : A) → i < length items → item ≡ slice_index_or items i item → f item ≡ false → list_all f items ≡ false
one_fails f [] i item less is e = absurd (omega (arith, less))
one_fails f (x ∷ xs) zero item less is e = no_left (f x) (list_all f xs) (ap f (sym is) ∙ e)
one_fails f (x ∷ xs) (suc i) item less is e = no_right (f x) (list_all f xs) (one_fails f xs i item (omega (arith, less)) is e)

-- ---- codes in one another

abbrev pub all_fit : ℕ → Code → Bool
all_fit levels code = list_all code_fits (codes_in levels code)

flat : (levels : ℕ) (codes : List Code) → list_all code_fits (flat_map (codes_in levels) codes) ≡ list_all (all_fit levels) codes
flat levels [] = refl
flat levels (code ∷ codes) = list_all-append code_fits (codes_in levels code) (flat_map (codes_in levels) codes) ∙ ap (λ b. all_fit levels code && b) (flat levels codes)

pub fit_by : (levels : ℕ) (code : Code) → IsShallow levels code → all_fit levels code ≡ (code_fits code && list_all (all_fit (levels - 1)) (out-Code code).children)
fit_by levels code s = ap (list_all code_fits) (codes_more levels (levels - 1) code s refl) ∙ ap (λ b. code_fits code && b) (flat (levels - 1) (out-Code code).children)

pub fails_first : (levels : ℕ) (code : Code) → IsShallow levels code → code_fits code ≡ false → all_fit levels code ≡ false
fails_first levels code s e = fit_by levels code s ∙ no_left (code_fits code) _ e

pub fails_inside : (levels : ℕ) (code : Code) → IsShallow levels code → list_all (all_fit (levels - 1)) (out-Code code).children ≡ false → all_fit levels code ≡ false
fails_inside levels code s e = fit_by levels code s ∙ no_right (code_fits code) _ e

pub fits_all : (levels : ℕ) (code : Code) → IsShallow levels code → code_fits code ≡ true → list_all (all_fit (levels - 1)) (out-Code code).children ≡ true → all_fit levels code ≡ true
fits_all levels code s e f = fit_by levels code s ∙ both (code_fits code) _ e f

pub whole_row : {A : Type 0} (f : A → Bool) (items : List A) (i : ℕ) → length items ≤ i → list_all f (take i items) ≡ true → list_all f items ≡ true
whole_row f items i le h = ap (list_all f) (sym (take_all i items le)) ∙ h

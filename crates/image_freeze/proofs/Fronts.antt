-- The fronts of images.
use Rattle.std.proofs.Common.{◌≡◌, ◌⊎◌, ℕ, ◌+◌, ◌≤◌, ◌<◌, ◌^◌, List, [], ◌∷◌, ◌++◌, length, refl, sym, ap, ap₂, subst, ◌∙◌, inl, inr, arith}
use Rattle.std.proofs.lemmas.List.{length-map}
use Rattle.mpy_base.specs.declared.limits.TheConstants.{MAX_MODULES, MAX_TABLE}
use Rattle.mpy_base.specs.Vuint.{vuint}
use Rattle.mpy_base.proofs.Groups.{vuint_spells}
use Rattle.image_open.specs.bc_library.Shelf.{Named, Shelf, names}
use Rattle.image_open.specs.image_grammar.Image.{IsFront}
use Rattle.image_open.specs.image_grammar.Opening.{Base}
use Rattle.image_open.specs.image_grammar.Base.{base_of}
use Rattle.image_freeze.specs.Fronts.{MayLieOver, front_of}

abbrev pub start_of : ℕ → List ℕ
start_of version = 0x4d ∷ 0x49 ∷ version ∷ 0x1f ∷ []

pub front_first : (below : Base) (version : ℕ) (out : List ℕ) → version ≡ 1 → out ≡ start_of version → out ≡ front_of version below
front_first below version out one is = subst (λ (v : ℕ). out ≡ start_of v → out ≡ front_of v below) (sym one) (λ e. e) is

is_second : (below : Base) (version : ℕ) → MayLieOver below version → (version ≡ 1 → ⊥) → version ≡ 2
is_second below version (inl first) other = absurd (other first.0)
is_second below version (inr second) other = second

pub front_second : (below : Base) (version texts names : ℕ) (start out : List ℕ) → MayLieOver below version → (version ≡ 1 → ⊥) → start ≡ start_of version → out ≡ start ++ (vuint texts ++ vuint names) → texts ≡ length below.texts → names ≡ length below.names → out ≡ front_of version below
front_second below version texts names start out may other is e f g =
    let two = is_second below version may other in
    let whole : out ≡ start_of version ++ (vuint (length below.texts) ++ vuint (length below.names)) =
    e ∙ (ap (λ (z : List ℕ). z ++ (vuint texts ++ vuint names)) is ∙ ap₂ (λ (t n : ℕ). start_of version ++ (vuint t ++ vuint n)) f g) in
    subst (λ (v : ℕ). out ≡ start_of v ++ (vuint (length below.texts) ++ vuint (length below.names)) → out ≡ front_of v below) (sym two) (λ h. h) whole

pub names_count : (below : Shelf) (count : ℕ) → count ≡ length below.modules → count ≡ length (names below)
names_count below count e = e ∙ sym (length-map below.modules (λ (n : Named). n.name))

-- it is the front of an image
pub front_is : (below : Base) (version : ℕ) → MayLieOver below version → length below.texts ≤ MAX_TABLE → length below.names ≤ MAX_MODULES → IsFront below (front_of version below)
front_is below version (inl first) few_texts few_names = subst (λ (v : ℕ). IsFront below (front_of v below)) (sym first.0) (inl (refl, first.1, first.2))
front_is below version (inr second) few_texts few_names =
    subst (λ (v : ℕ). IsFront below (front_of v below)) (sym second)
    (inr (vuint (length below.texts), vuint (length below.names), refl, vuint_spells (length below.texts) (omega (arith, few_texts)), vuint_spells (length below.names) (omega (arith, few_names))))

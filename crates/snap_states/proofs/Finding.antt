-- The strs among the constants of a library's modules.
use Rattle.std.proofs.Common.{◌≡◌, ℕ, zero, suc, ◌+◌, ◌<◌, ◌≤◌, ◌↔◌, inl, inr, true, List, [], ◌∷◌, length, Option, Some, None, IsTrue, refl, sym, ap, subst, ◌∙◌, arith}
use Rattle.std.specs.Prelude.{slice_get, option_and_then}
use Rattle.std.specs.List.{cons_option, filter_map}
use Rattle.std.specs.Str.{bytes_eq}
use Rattle.std.proofs.lemmas.Bool.{cases_lt, or_cases, or_left, or_right, false≢true}
use Rattle.arena_heap.specs.declared.value.ConstNo.{ConstNo}
use Rattle.arena_heap.specs.declared.value.StrNo.TheVariants as strs
use Rattle.bc_library.specs.mpy_tree.Raw.{Module}
use Rattle.bc_library.specs.mpy_tree.declared.module.Constant.{Constant, out-Constant}
use Rattle.bc_library.specs.Shelf.{Shelf, Named, module_at}
use Rattle.bc_library.specs.Constants.{bytes_in, constants_of, numbered, text_at}
use Rattle.snap_states.specs.Knowing.{Adds, IsModuleStr, holds, strs_at, strs_by}
use Rattle.snap_states.proofs.Gathering.{bytes_same, same_bytes}

module _ {X : Type 0} (f : X → Option (List ℕ)) (text : List ℕ) where
  -- a text that is found among those of elements
  found_by : (x : X) (xs : List X) (o : Option (List ℕ)) → f x ≡ o → (holds (filter_map f xs) text ≡ true → (n : ℕ) × (y : X) × (slice_get xs n ≡ Some y) × (f y ≡ Some text))
      → holds (cons_option o (filter_map f xs)) text ≡ true → (n : ℕ) × (y : X) × (slice_get (x ∷ xs) n ≡ Some y) × (f y ≡ Some text)
  found_by x xs None is rest h = let r = rest h in (suc r.0, r.1, r.2, r.3)
  found_by x xs (Some bytes) is rest h = elim (or_cases (bytes_eq text bytes) (holds (filter_map f xs) text) h) [
    | inl here ↦ (zero, x, refl, is ∙ ap Some (sym (same_bytes text bytes here)))
    | inr later ↦ let r = rest later in (suc r.0, r.1, r.2, r.3)
  ]

  pub found_in : (xs : List X) → holds (filter_map f xs) text ≡ true → (n : ℕ) × (y : X) × (slice_get xs n ≡ Some y) × (f y ≡ Some text)
  found_in [] h = absurd (false≢true h)
  found_in (x ∷ xs) h = found_by x xs (f x) refl (found_in xs) h

  held_later : (xs : List X) (o : Option (List ℕ)) → holds (filter_map f xs) text ≡ true → holds (cons_option o (filter_map f xs)) text ≡ true
  held_later xs None h = h
  held_later xs (Some bytes) h = or_right (bytes_eq text bytes) (holds (filter_map f xs) text) h

  pub held_in : (xs : List X) (n : ℕ) (y : X) → slice_get xs n ≡ Some y → f y ≡ Some text → holds (filter_map f xs) text ≡ true
  held_in [] n y at is = absurd cc
  held_in (x ∷ xs) zero y at is =
      let same : x ≡ y = cc at in
      ap (λ o. holds (cons_option o (filter_map f xs)) text) (ap f same ∙ is) ∙ or_left (bytes_eq text text) (holds (filter_map f xs) text) (bytes_same text text refl)
  held_in (x ∷ xs) (suc n) y at is = held_later xs (f x) (held_in xs n y at is)

-- the strs of the first modules were gathered
abbrev pub Gathered : Shelf → ℕ → List (List ℕ) → Type 0
Gathered shelf n set = (text : List ℕ) → (IsTrue (holds set text)) ↔ ((i : ℕ) × (i < n) × IsTrue (holds (strs_at shelf i) text))

pub none_gathered : (shelf : Shelf) → Gathered shelf 0 []
none_gathered shelf text = (λ h. absurd (false≢true h), λ r. absurd (omega (arith, r.1)))

pub module_gathered : (shelf : Shelf) (n : ℕ) (old new : List (List ℕ)) → Gathered shelf n old → Adds old new (strs_at shelf n) → Gathered shelf (n + 1) new
module_gathered shelf n old new g adds text = (
  λ h. elim (or_cases (holds old text) (holds (strs_at shelf n) text) (sym (adds text) ∙ h)) [
    | inl was ↦ let r = (g text).0 was in (r.0, omega (arith, r.1), r.2)
    | inr now ↦ (n, omega arith, now)
  ],
  λ r. adds text ∙ elim (cases_lt r.0 n) [
    | inl low ↦ or_left (holds old text) (holds (strs_at shelf n) text) ((g text).1 (r.0, low, r.2))
    | inr ge ↦
        let here : r.0 ≡ n = omega (arith, r.1, ge) in
        or_right (holds old text) (holds (strs_at shelf n) text) (subst (λ i. IsTrue (holds (strs_at shelf i) text)) here r.2)
  ],
)

-- a str of a module by its number
by_module : (shelf : Shelf) (i : ℕ) (text : List ℕ) (o : Option Module) → module_at shelf i ≡ o → holds (strs_by o) text ≡ true → IsModuleStr shelf text
by_module shelf i text None is h = absurd (false≢true h)
by_module shelf i text (Some m) is h =
    let f = found_in (λ object. bytes_in (out-Constant object)) text (constants_of m) h in
    record {
      constant = numbered i f.0;
      is =
          ap (option_and_then (λ object. bytes_in (out-Constant object))) (ap (option_and_then (λ (n : Module). slice_get (constants_of n) f.0)) is ∙ f.2)
          ∙ f.3;
    }

by_constant : (shelf : Shelf) (c : ConstNo) (text : List ℕ) (o : Option Module) → module_at shelf c.«module» ≡ o → text_at shelf (strs.Object c) ≡ Some text → IsTrue (holds (strs_by o) text)
by_constant shelf c text None is e =
    let none : text_at shelf (strs.Object c) ≡ None = ap (λ z. option_and_then (λ object. bytes_in (out-Constant object)) (option_and_then (λ (n : Module). slice_get (constants_of n) c.object) z)) is in
    absurd cc
by_constant shelf c text (Some m) is e =
    let there : option_and_then (λ object. bytes_in (out-Constant object)) (slice_get (constants_of m) c.object) ≡ Some text
    = sym (ap (λ z. option_and_then (λ object. bytes_in (out-Constant object)) (option_and_then (λ (n : Module). slice_get (constants_of n) c.object) z)) is) ∙ e in
    by_element (slice_get (constants_of m) c.object) refl there
  where
    by_element : (o : Option Constant) → slice_get (constants_of m) c.object ≡ o → option_and_then (λ object. bytes_in (out-Constant object)) o ≡ Some text → IsTrue (holds (strs_by (Some m)) text)
    by_element None at h = absurd cc
    by_element (Some x) at h = held_in (λ object. bytes_in (out-Constant object)) text (constants_of m) c.object x at h

last_module : (ms : List Named) (i : ℕ) → option_and_then (λ (n : Named). Some n.held) (slice_get ms i) ≡ None → length ms ≤ i
last_module [] i e = omega arith
last_module (m ∷ ms) zero e = absurd cc
last_module (m ∷ ms) (suc i) e = let le = last_module ms i e in omega (arith, le)

within : (shelf : Shelf) (i : ℕ) (o : Option Module) (text : List ℕ) → module_at shelf i ≡ o → IsTrue (holds (strs_by o) text) → i < length shelf.modules
within shelf i None text is h = absurd (false≢true h)
within shelf i (Some m) text is h = elim (cases_lt i (length shelf.modules)) [
  | inl lt ↦ lt
  | inr ge ↦ absurd (none_there shelf.modules i ge m is)
]
  where
    none_there : (ms : List Named) (k : ℕ) → length ms ≤ k → (m : Module) → option_and_then (λ (n : Named). Some n.held) (slice_get ms k) ≡ Some m → ⊥
    none_there [] k le m e = cc
    none_there (n ∷ ns) zero le m e = omega (arith, le)
    none_there (n ∷ ns) (suc k) le m e = none_there ns k (omega (arith, le)) m e

-- the strs of all modules
pub all_gathered : (shelf : Shelf) (n : ℕ) (set : List (List ℕ)) → length shelf.modules ≤ n → Gathered shelf n set → (text : List ℕ) → IsTrue (holds set text) ↔ IsModuleStr shelf text
all_gathered shelf n set le g text = (
  λ h. let r = (g text).0 h in by_module shelf r.0 text (module_at shelf r.0) refl r.2,
  λ s.
      let here = by_constant shelf s.constant text (module_at shelf s.constant.«module») refl s.is in
      let lt = within shelf s.constant.«module» (module_at shelf s.constant.«module») text refl here in
      (g text).1 (s.constant.«module», omega (arith, lt, le), here),
)

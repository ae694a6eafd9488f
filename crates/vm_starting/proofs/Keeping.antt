-- What is kept once more is kept.
use Rattle.std.proofs.Common.{◌≡◌, ℕ, zero, suc, ◌≤◌, List, [], ◌∷◌, length, Option, None, Some, slice_get, slice_set, inl, inr, refl, sym, ap, subst, ◌∙◌, arith}
use Rattle.std.specs.Prelude.{◌⊎◌, option_and_then}
use Rattle.std.proofs.lemmas.Option.{same_Some}
use Rattle.vm_states.specs.bc_library.Shelf.{Shelf}
use Rattle.vm_states.specs.vm_fetching.declared.instruction.Fetched.{Fetched}
use Rattle.vm_starting.specs.Kept.{Kept, IsFetchedOf, AreFetched, update_by, update_at, with_kept, code_in, place_in, kept_at}
use Rattle.vm_starting.proofs.Empty.{some_of}

set_got : {A : Type 0} (xs : List A) (i j : ℕ) (v y : A) → slice_get (slice_set xs i v) j ≡ Some y → (slice_get xs j ≡ Some y) ⊎ ((j ≡ i) × (y ≡ v))
set_got [] i j v y e = inl e
set_got (x ∷ xs) zero zero v y e = inr (refl, sym (same_Some v y e))
set_got (x ∷ xs) zero (suc j) v y e = inl e
set_got (x ∷ xs) (suc i) zero v y e = inl e
set_got (x ∷ xs) (suc i) (suc j) v y e = elim (set_got xs i j v y e) [ inl h ↦ inl h | inr h ↦ inr (ap suc h.0, h.1) ]

-- the element that is there changes
pub update_some : {A : Type 0} (xs : List A) (i : ℕ) (change : A → A) (x : A) → slice_get xs i ≡ Some x → update_at xs i change ≡ slice_set xs i (change x)
update_some xs i change x e = ap (update_by xs i change) e

get_none : {A : Type 0} (xs : List A) (i : ℕ) → length xs ≤ i → slice_get xs i ≡ None
get_none [] i less = refl
get_none (x ∷ xs) zero less = absurd (omega (arith, less))
get_none (x ∷ xs) (suc i) less = get_none xs i (omega (arith, less))

pub update_none : {A : Type 0} (xs : List A) (i : ℕ) (change : A → A) → length xs ≤ i → xs ≡ update_at xs i change
update_none xs i change less = sym (ap (update_by xs i change) (get_none xs i less))

pub set_none : {A : Type 0} (xs : List A) (i : ℕ) (v : A) → length xs ≤ i → xs ≡ slice_set xs i v
set_none [] i v less = refl
set_none (x ∷ xs) zero v less = absurd (omega (arith, less))
set_none (x ∷ xs) (suc i) v less = ap (λ (z : List _). x ∷ z) (set_none xs i v (omega (arith, less)))

-- an element behind a change was there, or is the one that changed
record Changed {A : Type 0} (xs : List A) (i j : ℕ) (change : A → A) (y : A) : Type 0 where
  pub before : A
  pub place : j ≡ i
  pub there : slice_get xs j ≡ Some before
  pub is : y ≡ change before

update_got : {A : Type 0} (xs : List A) (i j : ℕ) (change : A → A) (y : A) → slice_get (update_at xs i change) j ≡ Some y → (slice_get xs j ≡ Some y) ⊎ Changed xs i j change y
update_got {A} xs i j change y e = by (slice_get xs i) refl e
  where
    by : (o : Option A) → slice_get xs i ≡ o → slice_get (update_by xs i change o) j ≡ Some y → (slice_get xs j ≡ Some y) ⊎ Changed xs i j change y
    by None is got = inl got
    by (Some x) is got =
        elim (set_got xs i j (change x) y got) [
          | inl h ↦ inl h
          | inr h ↦ inr (record { before = x; place = h.0; there = ap (λ (k : ℕ). slice_get xs k) h.0 ∙ is; is = h.1 })
        ]

module _ (shelf : Shelf) (kept : Kept) (i k at : ℕ) (f : Fetched) (are : AreFetched shelf kept) (is_of : IsFetchedOf shelf i k at f) where
  abbrev in_code : List (Option Fetched) → List (Option Fetched)
  in_code places = slice_set places at (Some f)

  abbrev in_module : List (List (Option Fetched)) → List (List (Option Fetched))
  in_module codes = update_at codes k in_code

  module _ (i' k' at' : ℕ) (g : Fetched) where
    abbrev Of : Type 0
    Of = IsFetchedOf shelf i' k' at' g

    -- where the places are those that were there
    in_place : (codes : List (List (Option Fetched))) (places : List (Option Fetched)) (place : Option Fetched) → slice_get kept i' ≡ Some codes → slice_get codes k' ≡ Some places → slice_get places at' ≡ Some place → place ≡ Some g → Of
    in_place codes places place is_codes is_places is_place is =
        are i' k' at' g
        (ap (option_and_then (λ (z : List (List (Option Fetched))). code_in z k' at')) is_codes
        ∙ (ap (option_and_then (λ (z : List (Option Fetched)). place_in z at')) is_places
        ∙ (ap (option_and_then (λ (z : Option Fetched). z)) is_place ∙ is)))

    in_places : (codes : List (List (Option Fetched))) (places : List (Option Fetched)) → slice_get kept i' ≡ Some codes → slice_get codes k' ≡ Some places → place_in places at' ≡ Some g → Of
    in_places codes places is_codes is_places got =
        let place = some_of (λ (z : Option Fetched). z) (slice_get places at') g got in
        in_place codes places place.0 is_codes is_places place.1 place.2

    -- where the code changed
    of_code : i' ≡ i → k' ≡ k → (codes : List (List (Option Fetched))) (places : List (Option Fetched)) → slice_get kept i' ≡ Some codes → slice_get codes k' ≡ Some places → place_in (in_code places) at' ≡ Some g → Of
    of_code same_i same_k codes places is_codes is_places got =
        let place = some_of (λ (z : Option Fetched). z) (slice_get (in_code places) at') g got in
        elim (set_got places at at' (Some f) place.0 place.1) [
          | inl h ↦ in_place codes places place.0 is_codes is_places h place.2
          | inr h ↦
              let same : f ≡ g = same_Some f g (sym h.1 ∙ place.2) in
              subst (λ (z : Fetched). IsFetchedOf shelf i' k' at' z) same
              (subst (λ (n : ℕ). IsFetchedOf shelf n k' at' f) (sym same_i)
              (subst (λ (n : ℕ). IsFetchedOf shelf i n at' f) (sym same_k)
              (subst (λ (n : ℕ). IsFetchedOf shelf i k n f) (sym h.0) is_of)))
        ]

    -- where the module changed
    of_module : i' ≡ i → (codes : List (List (Option Fetched))) → slice_get kept i' ≡ Some codes → code_in (in_module codes) k' at' ≡ Some g → Of
    of_module same_i codes is_codes got =
        let places = some_of (λ (z : List (Option Fetched)). place_in z at') (slice_get (in_module codes) k') g got in
        elim (update_got codes k k' in_code places.0 places.1) [
          | inl h ↦ in_places codes places.0 is_codes h places.2
          | inr h ↦ of_code same_i h.place codes h.before is_codes h.there (subst (λ (z : List (Option Fetched)). place_in z at' ≡ Some g) h.is places.2)
        ]

    pub one_more : kept_at (with_kept kept i k at f) i' k' at' ≡ Some g → Of
    one_more got =
        let codes = some_of (λ (z : List (List (Option Fetched))). code_in z k' at') (slice_get (with_kept kept i k at f) i') g got in
        elim (update_got kept i i' in_module codes.0 codes.1) [
          | inl h ↦ (
              let places = some_of (λ (z : List (Option Fetched)). place_in z at') (slice_get codes.0 k') g codes.2 in
              in_places codes.0 places.0 h places.1 places.2
              )
          | inr h ↦ of_module h.place h.before h.there (subst (λ (z : List (List (Option Fetched))). code_in z k' at' ≡ Some g) h.is codes.2)
        ]

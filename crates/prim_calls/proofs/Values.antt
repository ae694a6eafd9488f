-- Slots by their places.
use Rattle.std.proofs.Common.{◌≡◌, ℕ, zero, suc, ◌+◌, ◌-◌, ◌<◌, ◌≤◌, List, [], ◌∷◌, ◌++◌, length, map, replicate, get_or, set, take, Option, Some, None, refl, sym, ap₂, ◌∙◌, subst, arith, length-append}
use Rattle.std.specs.Prelude.{slice_get, All}
use Rattle.std.proofs.lemmas.List.{length-map, length-replicate, take_all, take_more, take_more_set}
use Rattle.std.proofs.lemmas.Option.{slice_get_within, get_or_from_slice_get}
use Rattle.prim_calls.specs.Slots.{first_values}

-- what holds of all holds of the one at a place
pub all_at : {A : Type 0} (P : A → Type 0) (xs : List A) (at : ℕ) (x : A) → All P xs → slice_get xs at ≡ Some x → P x
all_at P xs at x all is = subst P (get_or_from_slice_get xs at x x is) (all at x (slice_get_within xs at x is))

get_none : {A : Type 0} (slot : Option A) (size at : ℕ) → slot ≡ None → None ≡ get_or (replicate size slot) at None
get_none slot zero at e = refl
get_none slot (suc size) zero e = sym e
get_none slot (suc size) (suc at) e = get_none slot size at e

get_first : {A : Type 0} (values : List A) (size at : ℕ) → slice_get values at ≡ get_or (map (λ v. Some v) values ++ replicate size None) at None
get_first [] size at = get_none None size at refl
get_first (v ∷ values) size zero = refl
get_first (v ∷ values) size (suc at) = get_first values size at

length_first : {A : Type 0} (size : ℕ) (values : List A) → length values ≤ size → length (first_values size values) ≡ size
length_first {A = A} size values few =
    let some : A → Option A = λ v. Some v in
    let none : Option A = None in
    omega (arith, few, length-append (map some values) (replicate (size - length values) none), length-map values some, length-replicate (size - length values) none)

module _ {A : Type 0} (slots : List (Option A)) (size : ℕ) (values : List A) (at : ℕ) (long : length slots ≡ size) (few : length values ≤ size) (so_far : take at slots ≡ take at (first_values size values)) where
  -- one slot more
  pub put_more : (slot : Option A) → at < size → slot ≡ slice_get values at → take (at + 1) (set slots at slot) ≡ take (at + 1) (first_values size values)
  put_more slot lt is =
      let target : List (Option A) = first_values size values in
      let none : Option A = None in
      let as_long : length target ≡ size = length_first size values few in
      let within : at < length slots = omega arith in
      let inside : at < length target = omega arith in
      take_more_set slots at slot within
      ∙ (ap₂ (λ (xs : List (Option A)) (x : Option A). xs ++ x ∷ []) so_far (is ∙ get_first values (size - length values) at) ∙ sym (take_more target at none inside))

  -- and all of them
  pub put_all : size ≤ at → slots ≡ first_values size values
  put_all past =
      let target : List (Option A) = first_values size values in
      let as_long : length target ≡ size = length_first size values few in
      let over : length slots ≤ at = omega arith in
      let beyond : length target ≤ at = omega arith in
      sym (take_all at slots over) ∙ (so_far ∙ take_all at target beyond)

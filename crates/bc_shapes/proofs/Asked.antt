-- Slots that are asked again, where they served but for some that changed.
use Rattle.std.proofs.Common.{◌≡◌, ◌⊎◌, ℕ, zero, suc, ◌+◌, ◌-◌, ◌<◌, ◌≤◌, Bool, true, false, ◌&&◌, List, [], ◌∷◌, ◌++◌, length, take, drop, refl, sym, ap, ◌∙◌, subst, arith, inl, inr, length-drop}
use Rattle.std.specs.Prelude.{min, max}
use Rattle.std.proofs.lemmas.Bool.{and_parts, and_from, true≢false}
use Rattle.std.proofs.lemmas.List.{get_or-take, length-take}
use Rattle.bc_shapes.specs.declared.kinds.Kind.{Kind}
use Rattle.bc_shapes.specs.declared.kinds.Kind.TheVariants as kinds
use Rattle.bc_shapes.specs.declared.kinds.Want.{Want}
use Rattle.bc_shapes.specs.declared.kinds.Want.TheVariants as wants
use Rattle.bc_shapes.specs.declared.span.Span.{Span}
use Rattle.bc_shapes.specs.Shape.{stands, fits, are_values}
use Rattle.bc_shapes.specs.Spans.{In, SameOutside, FitsBut}
use Rattle.bc_shapes.proofs.InPlace.{slot, le_decides}
use Rattle.bc_shapes.proofs.Loops.{get_drop, new_values, fits_few, fits_values}

value_at : (ks : List Kind) → are_values ks ≡ true → (k : ℕ) → k < length ks → stands wants.Value (slot ks k) ≡ true
value_at [] e k lt = absurd (omega (arith, lt))
value_at (k ∷ ks) e zero lt = (and_parts (stands wants.Value k) (are_values ks) e).0
value_at (k ∷ ks) e (suc n) lt = value_at ks (and_parts (stands wants.Value k) (are_values ks) e).1 n (omega (arith, lt))

values_from : (ks : List Kind) → ((k : ℕ) → k < length ks → stands wants.Value (slot ks k) ≡ true) → are_values ks ≡ true
values_from [] f = refl
values_from (k ∷ ks) f = and_from (stands wants.Value k) (are_values ks) (f 0 (omega arith)) (values_from ks (λ n lt. f (suc n) (omega (arith, lt))))

same_truth : (a b : Bool) → (a ≡ true → b ≡ true) → (b ≡ true → a ≡ true) → a ≡ b
same_truth true b f g = sym (f refl)
same_truth false true f g = g refl
same_truth false false f g = refl

module _ (s : Span) (js ks : List Kind) (n from to : ℕ) (h : SameOutside s js ks) (long : n ≤ length ks) (le : from ≤ to) (few : to ≤ n) (out : (k : ℕ) → k < n → (k < from) ⊎ (to ≤ k) → In s (length ks - suc k) → ⊥) where
  abbrev part : List Kind
  part = take (to - from) (drop from ks)

  part_at : (j : ℕ) → j < to - from → slot part j ≡ slot ks (from + j)
  part_at j lt = get_or-take (to - from) (drop from ks) j kinds.Either lt ∙ get_drop from j ks kinds.Either

  whole_at : (k : ℕ) → k < n → are_values (take n ks) ≡ true → stands wants.Value (slot ks k) ≡ true
  whole_at k lt e = ap (stands wants.Value) (sym (get_or-take n ks k kinds.Either lt)) ∙ value_at (take n ks) e k (let l = length-take n ks in omega (arith, l, lt, long))

  was_at : (k : ℕ) → k < n → are_values (take n js) ≡ true → stands wants.Value (slot js k) ≡ true
  was_at k lt e = ap (stands wants.Value) (sym (get_or-take n js k kinds.Either lt)) ∙ value_at (take n js) e k (let l = length-take n js in omega (arith, l, lt, long, h.long))

  outside : (k : ℕ) → k < n → (k < from) ⊎ (to ≤ k) → are_values (take n js) ≡ true → stands wants.Value (slot ks k) ≡ true
  outside k lt o e = elim (h.each k (omega (arith, lt, long, h.long))) [
    | inl w ↦ ap (stands wants.Value) w ∙ was_at k lt e
    | inr w ↦ absurd (out k lt o (subst (λ z. In s (z - suc k)) (sym h.long) w))
  ]

  inside : (k : ℕ) → from ≤ k → k < to → are_values part ≡ true → stands wants.Value (slot ks k) ≡ true
  inside k low lt e =
      let j : k - from < to - from = omega (arith, low, lt) in
      let there : from + (k - from) ≡ k = omega (arith, low) in
      let l = length-take (to - from) (drop from ks) in
      let m = length-drop from ks in
      ap (λ z. stands wants.Value (slot ks z)) (sym there) ∙ ap (stands wants.Value) (sym (part_at (k - from) j))
      ∙ value_at part e (k - from) (omega (arith, l, m, j, lt, few, long, low))

  each : are_values (take n js) ≡ true → are_values part ≡ true → (k : ℕ) → k < n → stands wants.Value (slot ks k) ≡ true
  each was e k lt = elim (le_decides from k) [
    | inr low ↦ outside k lt (inl (omega (arith, low))) was
    | inl low ↦ elim (le_decides to k) [ inl high ↦ outside k lt (inr high) was | inr high ↦ inside k low (omega (arith, high)) e ]
  ]

  pub values_again : are_values (take n js) ≡ true → are_values part ≡ are_values (take n ks)
  values_again was = same_truth (are_values part) (are_values (take n ks))
      (λ e. values_from (take n ks) (λ k lt. let l = length-take n ks in let m : k < n = omega (arith, l, lt) in
      ap (stands wants.Value) (get_or-take n ks k kinds.Either m) ∙ each was e k m))
      (λ e. values_from part (λ j lt. let l = length-take (to - from) (drop from ks) in let m : j < to - from = omega (arith, l, lt) in
      ap (stands wants.Value) (part_at j m) ∙ whole_at (from + j) (omega (arith, m, few)) e))

-- slots that serve `n` values are `n` at least
pub fits_long : (s : Span) (n : ℕ) (ws : List Want) (ks : List Kind) → FitsBut s (new_values n ++ ws) ks → n ≤ length ks
fits_long s n ws ks f = elim (le_decides n (length ks)) [
  | inl le ↦ le
  | inr gt ↦ absurd (true≢false (sym f.2 ∙ fits_few n ws f.0 (omega (arith, f.1.long, gt))))
]

pub asked_again : (s : Span) (n : ℕ) (ws : List Want) (ks : List Kind) (from to : ℕ) → FitsBut s (new_values n ++ ws) ks → from ≤ to → to ≤ n → ((k : ℕ) → k < n → (k < from) ⊎ (to ≤ k) → In s (length ks - suc k) → ⊥) → (are_values (take (to - from) (drop from ks)) && fits ws (drop n ks)) ≡ fits (new_values n ++ ws) ks
asked_again s n ws ks from to f le few out =
    let js = f.0 in
    let long = fits_long s n ws ks f in
    let parts = and_parts (are_values (take n js)) (fits ws (drop n js)) (sym (fits_values n ws js (omega (arith, long, f.1.long))) ∙ f.2) in
    ap (λ b. b && fits ws (drop n ks)) (values_again s js ks n from to f.1 long le few out parts.0) ∙ sym (fits_values n ws ks long)

-- what lies outside the places of the slots that changed
pub out_of_places : (s : Span) (count size n low high from to middle : ℕ) → count ≡ size → n ≤ size → from ≡ min low n → middle ≡ min high n → to ≡ max middle from → ((k : ℕ) → k < low → In s (count - suc k) → ⊥) → ((k : ℕ) → high ≤ k → k < count → In s (count - suc k) → ⊥) → (k : ℕ) → k < n → (k < from) ⊎ (to ≤ k) → In s (size - suc k) → ⊥
out_of_places s count size n low high from to middle c le a m b f g k lt (inl h) w = f k (omega (arith, a, h)) (subst (λ z. In s (z - suc k)) (sym c) w)
out_of_places s count size n low high from to middle c le a m b f g k lt (inr h) w = g k (omega (arith, m, b, h, lt)) (omega (arith, c, le, lt)) (subst (λ z. In s (z - suc k)) (sym c) w)

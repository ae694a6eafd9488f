-- The cells of objects that are counted one after another.
use Rattle.std.proofs.Common.{◌≡◌, ℕ, ◌+◌, ◌<◌, List, [], ◌∷◌, ◌++◌, length, get_or, take, map, Some, inl, inr, sym, ap, ◌∙◌, arith, length-append}
use Rattle.std.proofs.Math.Path.{ap₂}
use Rattle.std.specs.List.{sum}
use Rattle.std.specs.Prelude.{slice_get}
use Rattle.std.proofs.Math.Seq.{get_or-append_seam}
use Rattle.std.proofs.lemmas.Bool.{cases_lt}
use Rattle.std.proofs.lemmas.Option.{slice_get-get_or}
use Rattle.std.proofs.lemmas.List.{length-map, get_or-map, get_or_append_left, take-map}
use Rattle.std.proofs.lemmas.List.Sums.{sum_by_more, sum_by_more_le}
use Rattle.snap_grammar.specs.declared.parts.ObjectPart.{ObjectPart}
use Rattle.snap_states.specs.Parts.{cell_of, cells_of_part, cells_of_parts}

module _ (os : List ObjectPart) (i : ℕ) (d : ObjectPart) (lt : i < length os) where
  within : i < length (map cells_of_part os)
  within = omega (arith, lt, length-map os cells_of_part)

  same : sum (take i (map cells_of_part os)) + get_or (map cells_of_part os) i (cells_of_part d) ≡ cells_of_parts (take i os) + cells_of_part (get_or os i d)
  same = ap₂ (λ (x y : ℕ). x + y) (ap sum (take-map cells_of_part i os)) (get_or-map cells_of_part os i d (cells_of_part d) lt)

  pub cells_more : (next : ℕ) → next ≡ cells_of_parts (take i os) → next + cells_of_part (get_or os i d) ≡ cells_of_parts (take (i + 1) os)
  cells_more next e =
      ap (λ (x : ℕ). x + cells_of_part (get_or os i d)) e
      ∙ (sym same ∙ (sym (sum_by_more (λ (n : ℕ). n) (map cells_of_part os) i (cells_of_part d) within) ∙ ap sum (take-map cells_of_part (i + 1) os)))

  pub cells_few : (limit : ℕ) → cells_of_parts os < limit → cells_of_part (get_or os i d) < limit
  cells_few limit lt2 = omega (arith, lt2, same, sum_by_more_le (λ (n : ℕ). n) (map cells_of_part os) i (cells_of_part d) within)

  pub sum_few : (next limit : ℕ) → next ≡ cells_of_parts (take i os) → cells_of_parts os < limit → next + cells_of_part (get_or os i d) < limit
  sum_few next limit e lt2 = omega (arith, e, lt2, same, sum_by_more_le (λ (n : ℕ). n) (map cells_of_part os) i (cells_of_part d) within)

module _ (os : List ObjectPart) (cells new : List ℕ) (i next : ℕ) (e : new ≡ cells ++ next ∷ []) (long : length cells ≡ i) (is : next ≡ cells_of_parts (take i os)) (each : (n : ℕ) → n < i → slice_get cells n ≡ Some (cell_of os n)) where
  before : (n : ℕ) → n < length cells → slice_get (cells ++ next ∷ []) n ≡ slice_get cells n
  before n lt =
      slice_get-get_or (cells ++ next ∷ []) n 0 (omega (arith, lt, length-append cells (next ∷ [])))
      ∙ (ap (λ (x : ℕ). Some x) (get_or_append_left cells (next ∷ []) 0 n lt) ∙ sym (slice_get-get_or cells n 0 lt))

  last : slice_get (cells ++ next ∷ []) (length cells) ≡ Some next
  last = slice_get-get_or (cells ++ next ∷ []) (length cells) 0 (omega (arith, length-append cells (next ∷ []))) ∙ ap (λ (x : ℕ). Some x) (get_or-append_seam cells next [] 0)

  pub long_more : length new ≡ i + 1
  long_more = ap length e ∙ (length-append cells (next ∷ []) ∙ omega (arith, long))

  pub each_more : (n : ℕ) → n < i + 1 → slice_get new n ≡ Some (cell_of os n)
  each_more n lt = elim (cases_lt n i) [
    | inl low ↦ ap (λ (xs : List ℕ). slice_get xs n) e ∙ (before n (omega (arith, low, long)) ∙ each n low)
    | inr high ↦
        let here : n ≡ length cells = omega (arith, lt, high, long) in
        let at : i ≡ n = omega (arith, lt, high) in
        ap (λ (xs : List ℕ). slice_get xs n) e ∙ (ap (slice_get (cells ++ next ∷ [])) here ∙ (last ∙ ap (λ (x : ℕ). Some x) (is ∙ ap (cell_of os) at)))
  ]

-- What is found in a table by number.
use Rattle.std.proofs.Common.{◌≡◌, ℕ, ◌<◌, List, length, map, Option, None, get_or, ap, ◌∙◌, arith}
use Rattle.std.specs.List.{range_with_len}
use Rattle.std.proofs.lemmas.List.FromFn.{length-map-range_with_len, get_or-map-range_with_len}

module _ {A : Type 0} (f : ℕ → Option A) (count : ℕ) (table : List (Option A)) (is : table ≡ map f (range_with_len 0 count)) (n : ℕ) (low : n < length table) where
  pub within_table : n < count
  within_table =
      let size = ap (λ (xs : List (Option A)). length xs) is in
      let all = length-map-range_with_len f 0 count in
      omega (arith, size, all, low)

  pub table_at : (known : Option A) → known ≡ get_or table n None → known ≡ f n
  table_at known at = at ∙ (ap (λ (xs : List (Option A)). get_or xs n None) is ∙ get_or-map-range_with_len f 0 count n n None within_table (omega arith))

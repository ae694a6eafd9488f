-- The pairs of dicts.
use Rattle.std.specs.Prelude.{ℕ, List, slice_index_or, slice_set}

-- the pairs with another value at a place. Its key stays
abbrev pub with_value : {V : Type 0} → List (V × V) → ℕ → V → List (V × V)
with_value pairs at v = let pair = slice_index_or pairs at (v, v) in slice_set pairs at (pair.0, v)

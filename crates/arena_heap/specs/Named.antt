-- Keys that are texts with numbers.
use Rattle.std.specs.Prelude.{◌≡◌, ℕ, ◌<◌, List, length, Option, Some, None, option_map, slice_get}
use Rattle.arena_heap.specs.declared.value.Value.{Value}
use Rattle.arena_heap.specs.declared.value.Value.TheVariants as values
use Rattle.arena_heap.specs.declared.value.StrNo.TheVariants as strs

-- the key of the pair at a place is the text of this number
abbrev pub IsNamed : List (Value × Value) → (at number : ℕ) → Type 0
IsNamed pairs at number = option_map (λ pair. pair.0) (slice_get pairs at) ≡ Some (values.Str (strs.Pool number))

-- the keys up to the limit are the texts of other numbers
abbrev pub AreOthers : List (Value × Value) → (number limit : ℕ) → Type 0
AreOthers pairs number limit = (k : ℕ) → k < limit → (other : ℕ) × IsNamed pairs k other × (other ≡ number → ⊥)

-- the pair at the place has the text of this number as its key, or no pair has; the keys in front of it are the texts of other numbers
abbrev pub IsNamedAt : List (Value × Value) → ℕ → Option ℕ → Type 0
IsNamedAt pairs number None = AreOthers pairs number (length pairs)
IsNamedAt pairs number (Some at) = (at < length pairs) × IsNamed pairs at number × AreOthers pairs number at

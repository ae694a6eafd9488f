-- The pair that was read at a place.
use Rattle.std.proofs.Common.{ℕ, ◌<◌, ◌≡◌, List, length, Some, None, get_or, ◌∙◌, inl, inr}
use Rattle.std.proofs.lemmas.Bool.{cases_lt}
use Rattle.std.proofs.lemmas.Option.{slice_get-get_or, slice_get_past}
use Rattle.std.specs.Prelude.{slice_get}
use Rattle.arena_heap.specs.declared.value.Value.{Value}
use Rattle.arena_heap.specs.declared.value.Value.TheVariants as values

abbrev pub no_pair : Value × Value
no_pair = (values.None, values.None)

-- what was read at a place
pub read_pair : (pairs : List (Value × Value)) (at : ℕ) (pair : Value × Value) → Some pair ≡ slice_get pairs at → (at < length pairs) × ((d : Value × Value) → pair ≡ get_or pairs at d)
read_pair pairs at pair e = elim (cases_lt at (length pairs)) [
  | inl lt ↦ (lt, λ d. let q : Some pair ≡ Some (get_or pairs at d) = e ∙ slice_get-get_or pairs at d lt in cc)
  | inr ge ↦ absurd (let q : Some pair ≡ None = e ∙ slice_get_past pairs at ge in cc)
]

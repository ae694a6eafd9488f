-- Names by their slots.
use Rattle.std.specs.Prelude.{ℕ, List, Option, position, bytes_eq}

-- the slot of a name, where it is local
abbrev pub slot_in : List (List ℕ) → List ℕ → Option ℕ
slot_in locals name = position (bytes_eq name) locals

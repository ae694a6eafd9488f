-- Slots, whatever their values are.
use Rattle.std.specs.Prelude.{ℕ, suc, ◌-◌, List, [], ◌∷◌, ◌++◌, length, map, replicate, Option, Some, None}

-- values in the first slots, and the others empty
abbrev pub first_values : {A : Type 0} → ℕ → List A → List (Option A)
first_values size values = map (λ v. Some v) values ++ replicate (size - length values) None

-- how many slots are empty
abbrev pub count_empty : {A : Type 0} → List (Option A) → ℕ
count_empty [] = 0
count_empty (None ∷ slots) = suc (count_empty slots)
count_empty (Some v ∷ slots) = count_empty slots

-- Walks over values, one after another.
use Rattle.std.specs.Prelude.{ℕ, List, [], ◌∷◌, Option, Some, None}
use Rattle.std.specs.Option.{option_map}
use Rattle.py_values.specs.Equality.{Walk, answers, after}

-- on with an answer, behind these visits
abbrev pub go_on : {A B : Type 0} → Option A → ℕ → (A → Walk B) → Walk B
go_on None visits next = record { answer = None; visits = visits }
go_on (Some a) visits next = after visits (next a)

-- the second walk, over what the first one answers
abbrev pub and_then : {A B : Type 0} → Walk A → (A → Walk B) → Walk B
and_then first next = go_on first.answer first.visits next

-- the walk, with its answer changed
abbrev pub walk_map : {A B : Type 0} → (A → B) → Walk A → Walk B
walk_map f walk = record { answer = option_map f walk.answer; visits = walk.visits }

-- a walk from each value in turn, up to the first that goes too deep
abbrev pub walk_all : {A B : Type 0} → (A → Walk B) → List A → Walk (List B)
walk_all walk [] = answers []
walk_all walk (x ∷ xs) = and_then (walk x) (λ y. walk_map (λ ys. y ∷ ys) (walk_all walk xs))

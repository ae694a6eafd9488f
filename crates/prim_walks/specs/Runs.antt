-- Walks under a bound on their visits.
use Rattle.std.specs.Prelude.{ℕ, zero, suc, ◌-◌, Option, Some, None, Result, Ok, Err, nat_le, if◌then◌else◌}
use Rattle.py_primitives.specs.py_values.Equality.{Walk}
use Rattle.prim_walks.specs.declared.budget.Halt.{Halt}
use Rattle.prim_walks.specs.declared.budget.Halt.TheVariants.{TooDeep, Spent}

-- the answer of a walk, which has none where it went too deep
abbrev pub answered : {A : Type 0} → Option A → Result A Halt
answered (Some a) = Ok a
answered None = Err TooDeep

-- what a walk gives that may make `left` visits, and how many of these are left. With None it may make any number
abbrev pub run : {A : Type 0} → Walk A → Option ℕ → Result A Halt × Option ℕ
run walk None = (answered walk.answer, None)
run walk (Some left) = if nat_le walk.visits left then (answered walk.answer, Some (left - walk.visits)) else (Err Spent, Some 0)

-- what is left behind one more visit, where there is one
abbrev pub spent : Option ℕ → Option (Option ℕ)
spent None = Some None
spent (Some zero) = None
spent (Some (suc left)) = Some (Some left)

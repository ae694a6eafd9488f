-- The memory in which arguments are bound, as its fields have it.
use Rattle.std.specs.Prelude.{ℕ, ◌≤◌, List, Option}
use Rattle.std.specs.Vec.{vec_capacity}
use Rattle.frame_moves.specs.arena_heap.declared.value.Value.{Value}
use Rattle.frame_calls.specs.declared.binding.Bindings.TheInside.{Inside}

-- the values that were bound last, and how many fit
pub record Bound : Type 0 where
  pub values : List (Option Value)
  pub room : ℕ

-- what the fields hold
abbrev pub bound_of : Inside → Bound
bound_of b = record { values = b.values.items; room = b.room }

-- the vectors have room for what may be bound
pub record HasRoom (b : Inside) : Type 0 where
  pub names : b.room ≤ vec_capacity b.names
  pub values : b.room ≤ vec_capacity b.values

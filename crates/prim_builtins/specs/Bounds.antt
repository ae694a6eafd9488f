-- The arguments of a range.
use Rattle.std.specs.Prelude.{ℕ, List, [], ◌∷◌}
use Rattle.prim_operators.specs.mpy_base.World.{Objects}
use Rattle.prim_operators.specs.arena_heap.declared.value.Value.{Value}
use Rattle.prim_operators.specs.arena_heap.Values.{Leads}
use Rattle.prim_builtins.specs.declared.ranges.Bounds.{Bounds as Given}
use Rattle.prim_builtins.specs.declared.ranges.Bounds.TheVariants as bounds

-- the arguments, in order
abbrev pub given_by : Given → List Value
given_by (bounds.Stop stop) = stop ∷ []
given_by (bounds.StartStop start stop) = start ∷ stop ∷ []
given_by (bounds.StartStopStep start stop step) = start ∷ stop ∷ step ∷ []

-- the values among the arguments lead to objects
abbrev pub BoundsLead : Objects Value ℕ → Given → Type 0
BoundsLead objects (bounds.Stop stop) = Leads objects stop
BoundsLead objects (bounds.StartStop start stop) = Leads objects start × Leads objects stop
BoundsLead objects (bounds.StartStopStep start stop step) = Leads objects start × Leads objects stop × Leads objects step

-- The keys and the values of a dict.
use Rattle.prim_assignments.specs.arena_heap.declared.value.Value.{Value}
use Rattle.prim_methods.specs.declared.halves.Half.{Half}
use Rattle.prim_methods.specs.declared.halves.Half.TheVariants as halves

-- the key or the value of a pair
abbrev pub half_of : Half → Value × Value → Value
half_of halves.Keys pair = pair.0
half_of halves.Values pair = pair.1

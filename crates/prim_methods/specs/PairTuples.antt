-- Tuples of the pairs of a dict.
use Rattle.std.specs.Prelude.{ℕ, ◌+◌, ◌*◌, ◌<◌, List, [], ◌∷◌, length, map, take, fold}
use Rattle.std.specs.List.{range_with_len}
use Rattle.mpy_base.specs.declared.room.NoRoom.{NoRoom}
use Rattle.mpy_base.specs.World.{TupleObject, Heap}
use Rattle.mpy_base.specs.Weights.{Fits, Refused, with_made}
use Rattle.prim_assignments.specs.arena_heap.declared.value.Value.{Value}
use Rattle.prim_assignments.specs.arena_heap.declared.value.Value.TheVariants as values
use Rattle.prim_assignments.specs.arena_heap.Values.{ArenaObject}

-- the tuple of a key and its value
abbrev pub pair_object : Value × Value → ArenaObject
pair_object pair = TupleObject (pair.0 ∷ pair.1 ∷ [])

-- a tuple more for each pair, that of the first pair first
abbrev pub with_tuples : Heap Value ℕ → List (Value × Value) → Heap Value ℕ
with_tuples heap pairs = fold (λ h pair. with_made h (pair_object pair)) heap pairs

-- such tuples, which take three cells each, from the first
abbrev pub tuples_from : ℕ → ℕ → List Value
tuples_from first count = map (λ k. values.Tuple (record { cell = first + 3 * k })) (range_with_len 0 count)

-- the tuples of some first pairs fitted, and that of the next doesn't
pub record TupleRefused (old new : Heap Value ℕ) (e : NoRoom) (pairs : List (Value × Value)) : Type 0 where
  pub made : ℕ
  pub behind : made < length pairs
  pub fitted : Fits old (3 * made) 0
  pub refused : Refused (with_tuples old (take made pairs)) new e 3 0

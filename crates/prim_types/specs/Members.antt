-- The members of a value.
use Rattle.std.specs.Prelude.{ℕ, List, [], ◌∷◌, Option}
use Rattle.mpy_base.specs.World.{Heap, object}
use Rattle.prim_builtins.specs.arena_heap.declared.value.Value.{Value}
use Rattle.prim_builtins.specs.arena_heap.declared.value.Value.TheVariants as values
use Rattle.prim_builtins.specs.arena_heap.declared.value.ConstNo.{ConstNo}
use Rattle.prim_builtins.specs.arena_objects.Iterables.{or_nothing, given}

-- the items of a tuple, and else the value itself
abbrev pub members_in : (ConstNo → Option (List Value)) → Heap Value ℕ → Value → List Value
members_in tuples heap (values.Fixed c) = or_nothing (tuples c)
members_in tuples heap values.Empty = []
members_in tuples heap (values.Tuple t) = given (object heap.objects t.cell)
members_in tuples heap v = v ∷ []

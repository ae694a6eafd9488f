use Rattle.std.proofs.Common.{◌≡◌, ◌-◌, ◌++◌, length, map, take, replicate}
use Rattle.mpy_base.specs.World.{TupleObject, with_object}
use Rattle.arena_heap.specs.declared.value.Value.TheVariants as values
use Rattle.snap_states.specs.Decoded.{value_of}
use Rattle.snap_loading.proofs.filling.fill_tuple.Given as goal

abbrev pub invariant-loop-at : goal.invariant-loop-at
invariant-loop-at l = l.arena ≡ with_object l.initial.arena l.fn.t.cell (TupleObject (map (value_of l.lookup.library.now l.lookup.snapshot.now) (take l.at l.items) ++ replicate (length l.items - l.at) values.None))

use Rattle.std.proofs.Common.{◌≡◌, ◌++◌}
use Rattle.py_values.specs.mpy_base.World.{items_at, with_list}
use Rattle.arena_objects.specs.Iterables.{texts_from}
use Rattle.arena_objects.proofs.extend.put_texts.Given as goal

abbrev pub invariant-loop-k : goal.invariant-loop-k
invariant-loop-k l = l.arena ≡ with_list l.initial.arena l.l.cell (items_at l.initial.arena l.l.cell ++ texts_from l.first l.k)

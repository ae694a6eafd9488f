use Rattle.std.proofs.Common.{◌≡◌, ◌++◌, take}
use Rattle.py_values.specs.mpy_base.World.{items_at, with_list}
use Rattle.arena_objects.specs.Iterables.{items_in}
use Rattle.arena_objects.specs.Keys.{AllTold}
use Rattle.arena_objects.proofs.extend.put_items.Given as goal

abbrev pub invariant-loop-k : goal.invariant-loop-k
invariant-loop-k g l =
    let more = items_in (g.C.Constants.items_of l.consts) l.initial.arena l.fn.from in
    (l.arena ≡ with_list l.initial.arena l.l.cell (items_at l.initial.arena l.l.cell ++ take l.k more)) × AllTold (g.C.Constants.text_of l.consts) (g.C.Constants.items_of l.consts) l.arena.objects

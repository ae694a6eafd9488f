use Rattle.std.proofs.Common.{◌≡◌, take}
use Rattle.prim_faults.specs.mpy_base.World.{with_list}
use Rattle.prim_faults.specs.arena_objects.Keys.{AllTold}
use Rattle.prim_operators.specs.Sources.{source_items}
use Rattle.prim_operators.proofs.item_joins.fill_list.Given as goal

abbrev pub invariant-loop-at : goal.invariant-loop-at
invariant-loop-at g l =
    (l.arena ≡ with_list l.initial.arena l.fn.l.cell (take l.at (source_items (g.C.Constants.items_of l.consts) l.initial.arena l.fn.source)))
    × AllTold (g.C.Constants.text_of l.consts) (g.C.Constants.items_of l.consts) l.arena.objects

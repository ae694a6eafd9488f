use Rattle.std.proofs.Common.{◌≡◌}
use Rattle.prim_faults.specs.mpy_base.World.{items_at, with_tuple}
use Rattle.prim_faults.specs.arena_objects.Keys.{AllTold}
use Rattle.prim_operators.specs.Sources.{source_items}
use Rattle.prim_operators.proofs.TextFills.{partly}
use Rattle.prim_operators.proofs.item_joins.fill_tuple.Given as goal

abbrev pub invariant-loop-at : goal.invariant-loop-at
invariant-loop-at g l =
    (l.arena ≡ with_tuple l.initial.arena l.fn.t.cell (partly (source_items (g.C.Constants.items_of l.consts) l.initial.arena l.fn.source) (items_at l.initial.arena l.fn.t.cell) l.at))
    × AllTold (g.C.Constants.text_of l.consts) (g.C.Constants.items_of l.consts) l.arena.objects

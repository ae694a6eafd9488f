use Rattle.std.proofs.Common.{◌≡◌}
use Rattle.prim_builtins.specs.mpy_base.World.{items_at, with_tuple}
use Rattle.prim_builtins.specs.arena_objects.Keys.{AllTold}
use Rattle.prim_builtins.proofs.prim_operators_lemmas.TextFills.{partly}
use Rattle.prim_collections.specs.Collected.{kept_values}
use Rattle.prim_collections.proofs.tuples.fill_tuple.Given as goal

abbrev pub invariant-loop-at : goal.invariant-loop-at
invariant-loop-at g l =
    (l.arena ≡ with_tuple l.initial.arena l.fn.t.cell (partly (kept_values (g.C.Constants.items_of l.consts) l.initial.arena l.fn.first l.fn.count l.fn.v) (items_at l.initial.arena l.fn.t.cell) l.at))
    × AllTold (g.C.Constants.text_of l.consts) (g.C.Constants.items_of l.consts) l.arena.objects

use Rattle.std.proofs.Common.{◌≡◌}
use Rattle.mpy_base.specs.World.{items_at, with_tuple}
use Rattle.prim_builtins.specs.arena_objects.Keys.{AllTold}
use Rattle.prim_builtins.proofs.prim_operators_lemmas.TextFills.{partly}
use Rattle.prim_types.proofs.exceptions.fill_arguments.Given as goal

abbrev pub invariant-loop-at : goal.invariant-loop-at
invariant-loop-at g l =
    (l.arena ≡ with_tuple l.initial.arena l.fn.t.cell (partly l.args (items_at l.initial.arena l.fn.t.cell) l.at))
    × AllTold (g.C.Constants.text_of l._consts) (g.C.Constants.items_of l._consts) l.arena.objects

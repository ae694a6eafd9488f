use Rattle.std.proofs.Common.{◌≡◌, take}
use Rattle.mpy_base.specs.World.{with_list}
use Rattle.prim_names.proofs.displays.fill.Given as goal

abbrev pub invariant-loop-at : goal.invariant-loop-at
invariant-loop-at l = l.arena ≡ with_list l.initial.arena l.fn.l.cell (take l.at l.items)

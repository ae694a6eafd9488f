use Rattle.std.proofs.Common.{◌≡◌, map, take}
use Rattle.mpy_base.specs.World.{pairs_at, with_list}
use Rattle.prim_methods.specs.Halves.{half_of}
use Rattle.prim_methods.proofs.halves.fill.Given as goal

abbrev pub invariant-loop-at : goal.invariant-loop-at
invariant-loop-at l = l.arena ≡ with_list l.initial.arena l.fn.l.cell (take l.at (map (half_of l.fn.half) (pairs_at l.initial.arena l.fn.d.cell)))

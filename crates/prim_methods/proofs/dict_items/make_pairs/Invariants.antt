use Rattle.std.proofs.Common.{◌≡◌, ◌*◌, take}
use Rattle.mpy_base.specs.World.{pairs_at}
use Rattle.mpy_base.specs.Weights.{Fits}
use Rattle.prim_methods.specs.PairTuples.{with_tuples}
use Rattle.prim_methods.proofs.dict_items.make_pairs.Given as goal

abbrev pub invariant-loop-at : goal.invariant-loop-at
invariant-loop-at l = (l.arena ≡ with_tuples l.initial.arena (take l.at (pairs_at l.initial.arena l.fn.d.cell))) × Fits l.initial.arena (3 * l.at) 0

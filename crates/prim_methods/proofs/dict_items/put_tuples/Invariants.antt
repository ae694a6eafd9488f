use Rattle.std.proofs.Common.{◌≡◌, take}
use Rattle.mpy_base.specs.World.{with_list}
use Rattle.prim_methods.specs.PairTuples.{tuples_from}
use Rattle.prim_methods.proofs.dict_items.put_tuples.Given as goal

abbrev pub invariant-loop-k : goal.invariant-loop-k
invariant-loop-k l = l.arena ≡ with_list l.initial.arena l.fn.l.cell (take l.k (tuples_from l.fn.first l.fn.count))

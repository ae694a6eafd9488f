use Rattle.qstr_pool.specs.mpy_base.World.{pairs_at}
use Rattle.arena_heap.specs.Named.{AreOthers}
use Rattle.arena_heap.proofs.dicts.dict_named.Given as goal

abbrev pub invariant-loop-at : goal.invariant-loop-at
invariant-loop-at l = AreOthers (pairs_at l.arena l.fn.d.cell) l.number l.at

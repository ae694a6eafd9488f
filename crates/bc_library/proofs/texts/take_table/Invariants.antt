use Rattle.std.proofs.Common.{take}
use Rattle.bc_library.proofs.Pools.{Taken}
use Rattle.bc_library.proofs.texts.take_table.Given as goal

abbrev pub invariant-loop-qstr : goal.invariant-loop-qstr
invariant-loop-qstr l = Taken l.fn.pool (take l.qstr-index l.qstrs) l.pool l.numbers.items

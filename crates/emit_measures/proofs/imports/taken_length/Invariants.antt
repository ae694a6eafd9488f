use Rattle.std.proofs.Common.{drop}
use Rattle.emit_measures.proofs.Sums.{Summed}
use Rattle.emit_measures.proofs.Names.{taken_in}
use Rattle.emit_measures.proofs.imports.taken_length.Given as goal

abbrev pub invariant-loop-alias : goal.invariant-loop-alias
invariant-loop-alias l = Summed (taken_in l.locals) l.names (drop l.alias-index l.names) l.length

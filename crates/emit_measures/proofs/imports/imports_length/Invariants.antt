use Rattle.std.proofs.Common.{drop}
use Rattle.emit_measures.proofs.Sums.{Summed}
use Rattle.emit_measures.proofs.Names.{imports_in}
use Rattle.emit_measures.proofs.imports.imports_length.Given as goal

abbrev pub invariant-loop-alias : goal.invariant-loop-alias
invariant-loop-alias l = Summed (imports_in l.locals) l.names (drop l.alias-index l.names) l.length

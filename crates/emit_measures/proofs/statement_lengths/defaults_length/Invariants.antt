use Rattle.std.proofs.Common.{drop}
use Rattle.emit_measures.proofs.Sums.{Summed}
use Rattle.emit_measures.proofs.LayerLengths.{defaults_in}
use Rattle.emit_measures.proofs.statement_lengths.defaults_length.Given as goal

abbrev pub invariant-loop-param : goal.invariant-loop-param
invariant-loop-param l = Summed (defaults_in l.locals) l.params (drop l.param-index l.params) l.length

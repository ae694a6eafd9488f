use Rattle.std.proofs.Common.{drop}
use Rattle.emit_measures.proofs.Sums.{Summed}
use Rattle.emit_measures.proofs.StoreLengths.{stores_in}
use Rattle.emit_measures.proofs.target_lengths.+stores.Given as goal

abbrev pub invariant-stores_length-loop-target : goal.invariant-stores_length-loop-target
invariant-stores_length-loop-target l = Summed (stores_in l.locals) l.targets (drop l.target-index l.targets) l.length

use Rattle.std.proofs.Common.{drop}
use Rattle.emit_measures.proofs.Sums.{Summed}
use Rattle.emit_measures.proofs.StoreLengths.{doubled_in}
use Rattle.emit_measures.proofs.target_lengths.doubled_length.Given as goal

abbrev pub invariant-loop-target : goal.invariant-loop-target
invariant-loop-target l = Summed (doubled_in l.locals) l.targets (drop l.target-index l.targets) l.length

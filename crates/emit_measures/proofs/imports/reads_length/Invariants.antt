use Rattle.std.proofs.Common.{drop}
use Rattle.emit_measures.proofs.Sums.{Summed}
use Rattle.emit_measures.proofs.Names.{reads_in}
use Rattle.emit_measures.proofs.imports.reads_length.Given as goal

abbrev pub invariant-loop-byte : goal.invariant-loop-byte
invariant-loop-byte l = Summed reads_in l.name (drop l.byte-index l.name) l.length

use Rattle.std.proofs.Common.{drop}
use Rattle.emit_measures.proofs.Sums.{Summed}
use Rattle.emit_measures.proofs.PlainLengths.{row_in, operands_in, pairs_in, keys_in, links_in}
use Rattle.emit_measures.proofs.expr_lengths.+lengths.Given as goal

abbrev pub invariant-joined_length-loop-item : goal.invariant-joined_length-loop-item
invariant-joined_length-loop-item l = Summed (operands_in l.locals) l.rest (drop l.item-index l.rest) l.length

abbrev pub invariant-row_length-loop-item : goal.invariant-row_length-loop-item
invariant-row_length-loop-item l = Summed (row_in l.locals) l.items (drop l.item-index l.items) l.length

abbrev pub invariant-links_length-loop-op : goal.invariant-links_length-loop-op
invariant-links_length-loop-op l = Summed (links_in l.locals l.beside) l.links (drop l.op-index l.links) l.length

abbrev pub invariant-pairs_length-loop-key : goal.invariant-pairs_length-loop-key
invariant-pairs_length-loop-key l = Summed (pairs_in l.locals) l.pairs (drop l.key-index l.pairs) l.length

abbrev pub invariant-keys_length-loop-value : goal.invariant-keys_length-loop-value
invariant-keys_length-loop-value l = Summed (keys_in l.locals) l.keys (drop l.value-index l.keys) l.length

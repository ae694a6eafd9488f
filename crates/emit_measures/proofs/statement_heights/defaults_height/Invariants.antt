use Rattle.std.proofs.Common.{drop}
use Rattle.emit_measures.proofs.LayerHeights.{Given}
use Rattle.emit_measures.proofs.statement_heights.defaults_height.Given as goal

abbrev pub invariant-loop-param : goal.invariant-loop-param
invariant-loop-param l = Given l.params (drop l.param-index l.params) l.slots l.height

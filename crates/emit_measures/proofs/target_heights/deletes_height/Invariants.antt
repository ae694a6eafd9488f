use Rattle.std.proofs.Common.{drop}
use Rattle.emit_measures.proofs.Rows.{SoFar}
use Rattle.emit_measures.proofs.StoreHeights.{deletes_in}
use Rattle.emit_measures.proofs.target_heights.deletes_height.Given as goal

abbrev pub invariant-loop-target : goal.invariant-loop-target
invariant-loop-target l = SoFar deletes_in l.targets (drop l.target-index l.targets) l.height

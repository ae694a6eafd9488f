use Rattle.std.proofs.Common.{◌≡◌, ◌+◌, drop, length}
use Rattle.emit_measures.proofs.Rows.{SoFar}
use Rattle.emit_measures.proofs.StoreHeights.{stores_in}
use Rattle.emit_measures.proofs.target_heights.+stores.Given as goal

abbrev pub invariant-stores_height-loop-target : goal.invariant-stores_height-loop-target
invariant-stores_height-loop-target l = record {
  left : l.left + l.target-index ≡ length l.targets;
  so_far : SoFar stores_in l.targets (drop l.target-index l.targets) l.height;
}

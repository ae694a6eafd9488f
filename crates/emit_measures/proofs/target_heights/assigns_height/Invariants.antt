use Rattle.std.proofs.Common.{◌≡◌, ◌+◌, drop, length}
use Rattle.emit_measures.proofs.Rows.{SoFar}
use Rattle.emit_measures.proofs.StoreHeights.{assigns_in}
use Rattle.emit_measures.proofs.target_heights.assigns_height.Given as goal

abbrev pub invariant-loop-target : goal.invariant-loop-target
invariant-loop-target l = record {
  left : l.left + l.target-index ≡ length l.targets;
  so_far : SoFar assigns_in l.targets (drop l.target-index l.targets) l.height;
}

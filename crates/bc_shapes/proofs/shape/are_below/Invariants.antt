use Rattle.std.proofs.Common.{◌↔◌, drop, IsTrue}
use Rattle.bc_shapes.specs.Shape.{Belows}
use Rattle.bc_shapes.proofs.shape.are_below.Given as goal

abbrev pub invariant-loop-i : goal.invariant-loop-i
invariant-loop-i l = Belows l.ks l.ls ↔ (IsTrue l.fine × Belows (drop l.i l.ks) (drop l.i l.ls))

use Rattle.std.proofs.Common.{◌≡◌, drop, map}
use Rattle.bc_shapes.specs.Shape.{same_entries}
use Rattle.bc_flow.specs.Edges.{mark}
use Rattle.bc_flow.specs.Views.{behind_of, edge_of_rust}
use Rattle.bc_flow.proofs.walk.same_entries.Given as goal

abbrev pub invariant-loop-i : goal.invariant-loop-i
invariant-loop-i l = same_entries l.entries (edge_of_rust l.edge).at.entries ≡ same_entries (drop l.i l.entries) (map (mark l.edge.to) (drop l.i (behind_of l.edge.entries)))

use Rattle.std.proofs.Common.{◌≡◌, drop, map}
use Rattle.bc_flow.specs.Edges.{is_marked, mark}
use Rattle.bc_flow.specs.Views.{behind_of, edge_of_rust}
use Rattle.bc_flow.proofs.rules.are_marked.Given as goal

abbrev pub invariant-loop-i : goal.invariant-loop-i
invariant-loop-i l = is_marked l.edge.to (edge_of_rust l.edge).at.entries ≡ is_marked l.edge.to (map (mark l.edge.to) (drop l.i (behind_of l.edge.entries)))

use Rattle.std.proofs.Common.{◌≡◌, drop, map}
use Rattle.bc_flow.specs.Edges.{edges_marked}
use Rattle.bc_flow.specs.Views.{edge_of_rust}
use Rattle.bc_flow.proofs.rules.all_marked.Given as goal

abbrev pub invariant-loop-edge : goal.invariant-loop-edge
invariant-loop-edge l = edges_marked (map edge_of_rust l.edges) ≡ edges_marked (map edge_of_rust (drop l.edge-index l.edges))

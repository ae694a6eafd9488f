use Rattle.std.proofs.Common.{◌≡◌, drop, map}
use Rattle.bc_flow.specs.Verified.{others}
use Rattle.bc_flow.specs.Views.{edge_of_rust}
use Rattle.bc_flow.proofs.walk.others.Given as goal

abbrev pub invariant-loop-other : goal.invariant-loop-other
invariant-loop-other l = others (edge_of_rust l.edge) (map edge_of_rust l.edges) ≡ others (edge_of_rust l.edge) (map edge_of_rust (drop l.other-index l.edges))

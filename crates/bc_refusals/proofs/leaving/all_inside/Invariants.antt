use Rattle.std.proofs.Common.{drop, map}
use Rattle.bc_flow.specs.Views.{edge_of_rust}
use Rattle.bc_refusals.specs.Chains.{AllInside}
use Rattle.bc_refusals.proofs.leaving.all_inside.Given as goal

abbrev pub invariant-loop-edge : goal.invariant-loop-edge
invariant-loop-edge l = AllInside l.size (map edge_of_rust (drop l.edge-index l.edges)) → AllInside l.size (map edge_of_rust l.edges)

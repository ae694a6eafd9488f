use Rattle.std.proofs.Common.{◌≡◌, ◌-◌, ◌≤◌, ◌++◌, map, drop}
use Rattle.bc_shapes.specs.Views.{at_of}
use Rattle.bc_flow.specs.Action.{Action}
use Rattle.bc_flow.specs.Edges.{run_ways, edge_of}
use Rattle.bc_flow.specs.Views.{edge_of_rust}
use Rattle.bc_flow.proofs.edges.push_runs.Given as goal

abbrev pub invariant-loop-i : goal.invariant-loop-i
invariant-loop-i l = ((a : Action) → map edge_of_rust l.edges.items ++ map (edge_of a (at_of l.x)) (run_ways (l.count - l.i) (drop l.i l.entries)) ≡ map edge_of_rust l.initial.edges.items ++ map (edge_of a (at_of l.x)) (run_ways l.count l.entries)) × (l.i ≤ l.count)

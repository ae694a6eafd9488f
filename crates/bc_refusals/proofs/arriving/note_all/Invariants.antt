use Rattle.std.proofs.Common.{◌≡◌, ◌<◌, ◌≤◌, ℕ, drop, map}
use Rattle.bc_flow.specs.Views.{edge_of_rust}
use Rattle.bc_refusals.specs.Stages.{IsSet, come}
use Rattle.bc_refusals.proofs.arriving.note_all.Given as goal

abbrev pub invariant-loop-edge : goal.invariant-loop-edge
invariant-loop-edge l = record {
  come : come l.initial.came.items (map edge_of_rust l.edges) ≡ come l.came.items (map edge_of_rust (drop l.edge-index l.edges));
  lower : l.least ≤ l.from;
  old : (p : ℕ) → p < l.least → IsSet l.came.items p → IsSet l.initial.came.items p;
}

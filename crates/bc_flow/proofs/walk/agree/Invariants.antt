use Rattle.std.proofs.Common.{◌≡◌, drop, map}
use Rattle.bc_flow.specs.Verified.{agree}
use Rattle.bc_flow.specs.Views.{edge_of_rust, table_of}
use Rattle.bc_flow.proofs.walk.agree.Given as goal

abbrev pub invariant-loop-k : goal.invariant-loop-k
invariant-loop-k l = agree (table_of l.states) (map edge_of_rust l.edges) ≡ agree (table_of l.states) (map edge_of_rust (drop l.k l.edges))

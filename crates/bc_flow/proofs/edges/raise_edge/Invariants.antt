use Rattle.std.proofs.Common.{◌≡◌, drop}
use Rattle.bc_flow.specs.Edges.{raise_ways}
use Rattle.bc_flow.proofs.edges.raise_edge.Given as goal

abbrev pub invariant-loop-i : goal.invariant-loop-i
invariant-loop-i l = raise_ways l.x.entries.items ≡ raise_ways (drop l.i l.x.entries.items)

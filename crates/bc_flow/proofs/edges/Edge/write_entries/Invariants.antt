use Rattle.std.proofs.Common.{◌≡◌, map, take}
use Rattle.bc_flow.specs.Edges.{mark}
use Rattle.bc_flow.specs.Views.{behind_of}
use Rattle.bc_flow.proofs.edges.Edge.write_entries.Given as goal

abbrev pub invariant-loop-i : goal.invariant-loop-i
invariant-loop-i l = l.list.items ≡ map (mark l.self.to) (take l.i (behind_of l.self.entries))

use Rattle.std.proofs.Common.{◌≡◌, ◌-◌, ◌≤◌, drop}
use Rattle.bc_flow.specs.Edges.{lowest}
use Rattle.bc_flow.proofs.rules.lowest.Given as goal

abbrev pub invariant-loop-i : goal.invariant-loop-i
invariant-loop-i l = (lowest l.count l.entries l.fn.slots ≡ lowest (l.count - l.i) (drop l.i l.entries) l.least) × (l.i ≤ l.count)

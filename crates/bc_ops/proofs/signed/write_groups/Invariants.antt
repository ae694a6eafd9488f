use Rattle.std.proofs.Common.{◌≡◌, ◌≤◌, ◌++◌, drop, length}
use Rattle.bc_ops.specs.Signed.{groups_above, spelled_in}
use Rattle.bc_ops.proofs.signed.write_groups.Given as goal

-- the groups so far stand at the end, and those that are left go before them
abbrev pub invariant-loop-left : goal.invariant-loop-left
invariant-loop-left l = record {
  last : l.first ≤ 4;
  room : l.left ≤ l.first;
  size : length l.groups ≡ 5;
  written : groups_above l.left l.above ++ drop l.first l.groups ≡ spelled_in l.high l.n;
}

abbrev pub decreases-loop-left : goal.decreases-loop-left
decreases-loop-left l = l.left

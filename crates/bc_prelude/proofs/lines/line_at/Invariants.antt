use Rattle.std.proofs.Common.{◌≡◌, ◌+◌, ◌-◌, ◌<◌, ◌≤◌, ◌^◌, drop, length}
use Rattle.bc_prelude.specs.Lines.{entries_of, line_of, lines_passed, lines_together}
use Rattle.bc_prelude.proofs.lines.line_at.Given as goal

-- the entries that are left give what is left of the line
abbrev pub invariant-loop-entry : goal.invariant-loop-entry
invariant-loop-entry l = record {
  within : l.at ≤ length l.table;
  room : l.line + lines_together (entries_of (drop l.at l.table)) < 2 ^ 32;
  line : l.line + lines_passed (entries_of (drop l.at l.table)) l.left ≡ line_of l.table l.offset;
}

abbrev pub decreases-loop-entry : goal.decreases-loop-entry
decreases-loop-entry l = length l.table - l.at

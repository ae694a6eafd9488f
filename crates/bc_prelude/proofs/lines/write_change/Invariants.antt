use Rattle.std.proofs.Common.{◌≡◌, ℕ, List, ◌+◌, ◌++◌}
use Rattle.bc_prelude.specs.Lines.{change}
use Rattle.bc_prelude.proofs.lines.write_change.Given as goal

-- what is written so far, and the entries that are left, are the change
abbrev pub invariant-loop-bytes_left : goal.invariant-loop-bytes_left
invariant-loop-bytes_left l = record {
  whole : l.out.items ++ change l.bytes_left l.lines_left ≡ l.initial.out.items ++ change l.bytes l.lines;
  front : (front : List ℕ) × (l.out.items ≡ l.initial.out.items ++ front);
}

abbrev pub decreases-loop-bytes_left : goal.decreases-loop-bytes_left
decreases-loop-bytes_left l = l.bytes_left + l.lines_left

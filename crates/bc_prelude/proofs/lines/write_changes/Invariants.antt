use Rattle.std.proofs.Common.{◌≡◌, ℕ, List, ◌++◌, drop}
use Rattle.bc_prelude.specs.Lines.{table_of, table_behind, RisesFrom}
use Rattle.bc_prelude.proofs.lines.write_changes.Given as goal

-- what is written so far, and the table for the pairs that are left, are the table
abbrev pub invariant-loop-next_offset : goal.invariant-loop-next_offset
invariant-loop-next_offset l = record {
  whole : l.out.items ++ table_behind l.offset l.line (drop l.next_offset-index l.lines) ≡ l.initial.out.items ++ table_of l.lines;
  front : (front : List ℕ) × (l.out.items ≡ l.initial.out.items ++ front);
  rises : RisesFrom l.offset l.line (drop l.next_offset-index l.lines);
}

use Rattle.std.proofs.Common.{◌≡◌, length}
use Rattle.bc_rows.specs.Made.{AreTables}
use Rattle.bc_rows.proofs.rows.tables_of.Given as goal

abbrev pub invariant-loop-number : goal.invariant-loop-number
invariant-loop-number l = AreTables l.library l.tables.items × (length l.tables.items ≡ l.number)

use Rattle.std.proofs.Common.{List, ℕ}
use Rattle.bc_rows.specs.Made.{AreIndexes}
use Rattle.bc_rows.proofs.Indexes.{Walked}
use Rattle.bc_rows.proofs.row.texts_of.Given as goal

abbrev pub invariant-loop : goal.invariant-loop
invariant-loop l = (indexes : List ℕ) → AreIndexes l.library l.number l.count l.names indexes → Walked l.library l.number l.names indexes l.counter l.place l.numbers.items

use Rattle.std.proofs.Common.{◌-◌, ◌≤◌, length}
use Rattle.bc_prelude.specs.Cursor.{IsPlace}
use Rattle.bc_prelude.proofs.cursor.Place.advance.Given as goal

abbrev pub invariant-loop-entry : goal.invariant-loop-entry
invariant-loop-entry l = record {
  place : IsPlace l.table l.place;
  ahead : l.place.passed ≤ l.offset;
}

abbrev pub decreases-loop-entry : goal.decreases-loop-entry
decreases-loop-entry l = length l.table - l.place.at

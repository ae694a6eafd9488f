use Rattle.std.proofs.Common.{◌≤◌}
use Rattle.snap_saving.proofs.Places.{AreFound}
use Rattle.snap_saving.proofs.values.places_of.Given as goal

-- the places so far
abbrev pub invariant-loop-cell : goal.invariant-loop-cell
invariant-loop-cell l = record {
  few : l.count ≤ l.cell;
  found : AreFound l.arena l.places.items l.cell l.count;
}

use Rattle.std.proofs.Common.{◌≡◌, ◌+◌, []}
use Rattle.bc_labels.specs.Places.{place, places_to}
use Rattle.mpy_writer.specs.Positions.{numbered}
use Rattle.mpy_writer.proofs.widths.measure.Given as goal

-- the starts so far, and what wide offsets have added
abbrev pub invariant-loop-i : goal.invariant-loop-i
invariant-loop-i l = record {
  starts : l.starts.items ≡ places_to (numbered l.tables l.items) l.widths l.i;
  grown : place (numbered l.tables l.items) [] l.i + l.grown ≡ place (numbered l.tables l.items) l.widths l.i;
}

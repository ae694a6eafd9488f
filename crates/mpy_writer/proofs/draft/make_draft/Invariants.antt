use Rattle.std.proofs.Common.{◌≡◌, []}
use Rattle.bc_labels.specs.Places.{places_to}
use Rattle.mpy_writer.specs.Positions.{numbered, drafted_to}
use Rattle.mpy_writer.proofs.draft.make_draft.Given as goal

-- the bytes so far, and where the items so far start
abbrev pub invariant-loop-item : goal.invariant-loop-item
invariant-loop-item l = record {
  text : l.text.items ≡ drafted_to (numbered l.tables l.items) l.item-index;
  starts : l.starts.items ≡ places_to (numbered l.tables l.items) [] l.item-index;
}

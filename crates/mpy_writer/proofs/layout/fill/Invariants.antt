use Rattle.std.proofs.Common.{◌≡◌, ◌++◌, ◌≤◌, ◌<◌, ℕ, suc, length, drop, true, flat_map}
use Rattle.mpy_tree.specs.bc_ops.Code.{spelling}
use Rattle.bc_labels.specs.Labels.{is_jump}
use Rattle.bc_labels.specs.Places.{item_at, width_at}
use Rattle.bc_labels.specs.Choice.{FitsAt, instrs_to}
use Rattle.mpy_writer.specs.File.{labelled_from}
use Rattle.mpy_writer.specs.Positions.{numbered, drafted_to, spread}
use Rattle.mpy_writer.proofs.Positions.{double}
use Rattle.mpy_writer.proofs.layout.fill.Given as goal

-- what is written so far and the rest of the draft so far are the bytes so far, whose offsets fit
abbrev pub invariant-loop-i : goal.invariant-loop-i
invariant-loop-i l = record {
  within : l.from ≤ length (drafted_to (numbered l.tables l.items) l.i);
  bytes : l.out.items ++ drop l.from (drafted_to (numbered l.tables l.items) l.i) ≡ flat_map spelling (instrs_to (labelled_from l.tables 0 l.items) (spread l.widths) (double l.i));
  fit : (k : ℕ) → k < l.i → is_jump (item_at (labelled_from l.tables 0 l.items) (suc (double k))) ≡ true → FitsAt (labelled_from l.tables 0 l.items) (spread l.widths) (suc (double k)) (width_at l.widths k);
}

use Rattle.std.proofs.Common.{◌≡◌, length}
use Rattle.bc_labels.specs.Choice.{IsNeeded, shorts}
use Rattle.mpy_writer.specs.File.{labelled_from}
use Rattle.mpy_writer.specs.Positions.{numbered, starts_of, OnlyJumps, spread}
use Rattle.mpy_writer.proofs.widths.settle.Given as goal

-- the starts are those of the widths, and what is wide has to be
abbrev pub invariant-rounds : goal.invariant-rounds
invariant-rounds l = record {
  sized : length l.widths ≡ length l.items;
  only : OnlyJumps (numbered l.tables l.items) l.widths;
  needed : IsNeeded (labelled_from l.tables 0 l.items) (spread l.widths);
  starts : l.starts.items ≡ starts_of l.tables l.items l.widths;
}

abbrev pub decreases-rounds : goal.decreases-rounds
decreases-rounds l = shorts (spread l.widths)

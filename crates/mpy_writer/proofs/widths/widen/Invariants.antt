use Rattle.bc_labels.proofs.Widening.{IsWidened}
use Rattle.mpy_writer.specs.File.{labelled_from}
use Rattle.mpy_writer.specs.Positions.{spread}
use Rattle.mpy_writer.proofs.Positions.{double}
use Rattle.mpy_writer.proofs.widths.widen.Given as goal

-- what is wide so far, and that the rest is as it was
abbrev pub invariant-loop-i : goal.invariant-loop-i
invariant-loop-i l = IsWidened (labelled_from l.tables 0 l.items) (spread l.initial.widths) (spread l.widths) l.wider (double l.i)

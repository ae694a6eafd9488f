use Rattle.std.proofs.Common.{◌-◌, length}
use Rattle.mpy_reader.proofs.Listed.{Listed}
use Rattle.mpy_reader.proofs.own.instructions.Given as goal

abbrev pub invariant-loop-at : goal.invariant-loop-at
invariant-loop-at l = Listed l.bytes l.at

abbrev pub decreases-loop-at : goal.decreases-loop-at
decreases-loop-at l = length l.bytes - l.at

use Rattle.std.proofs.Common.{◌-◌, ◌≤◌, length}
use Rattle.mpy_tree.specs.bc_prelude.Cursor.{IsPlace}
use Rattle.mpy_dump.specs.Short.{IsHead}
use Rattle.mpy_dump.proofs.Pieces.{Walk}
use Rattle.mpy_dump.proofs.instructions.put_instrs.Given as goal

abbrev pub invariant-loop-at : goal.invariant-loop-at
invariant-loop-at g l = record {
  walk : Walk g.S.Sink.told g.S.Sink.count l.fn.out l.out l.pen.text l.module l.table l.code l.at;
  within : l.at ≤ length l.code;
  place : IsPlace l.table l.place;
  ahead : l.place.passed ≤ l.at;
  head : IsHead l.at l.head;
}

abbrev pub decreases-loop-at : goal.decreases-loop-at
decreases-loop-at g l = length l.code - l.at

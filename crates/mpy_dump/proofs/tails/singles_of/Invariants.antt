use Rattle.std.proofs.Common.{◌≡◌, length}
use Rattle.mpy_dump.proofs.Ends.{one_byte, Made}
use Rattle.mpy_dump.proofs.tails.singles_of.Given as goal

abbrev pub invariant-loop-byte : goal.invariant-loop-byte
invariant-loop-byte l = record {
  whole : length l.singles ≡ 256;
  made : Made l.module one_byte l.singles l.byte;
}

use Rattle.std.proofs.Common.{◌≡◌, length}
use Rattle.mpy_dump.specs.Short.{two_bytes}
use Rattle.mpy_dump.proofs.Ends.{Made}
use Rattle.mpy_dump.proofs.tails.pairs_of.Given as goal

abbrev pub invariant-loop-place : goal.invariant-loop-place
invariant-loop-place l = record {
  whole : length l.pairs ≡ 5120;
  made : Made l.module two_bytes l.pairs l.place;
}

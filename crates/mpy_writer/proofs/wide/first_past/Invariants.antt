use Rattle.std.proofs.Common.{◌+◌, map, take}
use Rattle.std.specs.List.{sum_by}
use Rattle.mpy_writer.specs.Wide.{wide_head, Counts, IsFirst}
use Rattle.mpy_writer.proofs.wide.first_past.Given as goal

-- the bytes so far, and the first so far that is too long
abbrev pub invariant-loop-i : goal.invariant-loop-i
invariant-loop-i l = record {
  bytes : Counts l.bytes (l.initial.bytes + sum_by (wide_head l.tables) (take l.i (map (λ c. c.now) l.codes)));
  long : IsFirst l.tables (take l.i (map (λ c. c.now) l.codes)) l.long;
}

use Rattle.std.proofs.Common.{◌≡◌, ◌++◌, ◌<◌, ◌≤◌, length, get_or, drop, map}
use Rattle.bc_verify.specs.bc_prelude.Lines.{line_of}
use Rattle.bc_verify.specs.bc_prelude.Cursor.{IsPlace}
use Rattle.mpy_merge.proofs.lines.lines_at.Given as goal

-- the place isn't behind the next offset
abbrev pub invariant-loop-offset : goal.invariant-loop-offset
invariant-loop-offset l = record {
  place : IsPlace l.table l.place;
  ahead : l.offset-index < length l.offsets → l.place.passed ≤ get_or l.offsets l.offset-index 0;
  lines : l.lines.items ++ map (line_of l.table) (drop l.offset-index l.offsets) ≡ map (line_of l.table) l.offsets;
}

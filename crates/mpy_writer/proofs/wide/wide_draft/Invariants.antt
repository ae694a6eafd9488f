use Rattle.std.proofs.Common.{◌≡◌, ◌+◌, ◌*◌, ◌≤◌, ◌++◌, drop}
use Rattle.std.specs.List.{sum_by}
use Rattle.mpy_writer.specs.Wide.{wide_size, wide_starts}
use Rattle.mpy_writer.proofs.wide.wide_draft.Given as goal

-- the starts so far and those that are left are all, and so are the bytes
abbrev pub invariant-loop-item : goal.invariant-loop-item
invariant-loop-item l = record {
  starts : l.starts.items ++ wide_starts l.tables l.size (drop l.item-index l.items) ≡ wide_starts l.tables 0 l.items;
  size : l.size + sum_by (wide_size l.tables) (drop l.item-index l.items) ≡ sum_by (wide_size l.tables) l.items;
  near : l.size ≤ 6 * l.item-index;
}

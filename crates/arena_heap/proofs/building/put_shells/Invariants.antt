use Rattle.std.proofs.Common.{◌≡◌, ◌≤◌, Some, map, take, vec_len}
use Rattle.std.specs.List.{sum_by}
use Rattle.std.specs.Vec.{vec_capacity}
use Rattle.qstr_pool.specs.mpy_base.Weights.{bytes_of}
use Rattle.arena_heap.specs.Building.{all_laid, shell_object}
use Rattle.arena_heap.specs.Cells.{Holds}
use Rattle.arena_heap.proofs.building.put_shells.Given as goal

abbrev pub invariant-loop-shell : goal.invariant-loop-shell
invariant-loop-shell l = record {
  holds : Holds (Some 0) l.cells.items l.bytes.items (all_laid (map shell_object (take l.shell-index l.shells)));
  byte_len : vec_len l.bytes ≡ sum_by bytes_of (map shell_object (take l.shell-index l.shells));
  capacity : vec_capacity l.initial.cells ≤ vec_capacity l.cells;
  byte_capacity : vec_capacity l.initial.bytes ≤ vec_capacity l.bytes;
}

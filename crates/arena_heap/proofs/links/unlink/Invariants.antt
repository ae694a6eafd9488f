use Rattle.std.proofs.Common.{◌≤◌}
use Rattle.std.specs.Vec.{vec_capacity}
use Rattle.arena_heap.specs.Cells.{Relinked}
use Rattle.arena_heap.proofs.LinkCells.{Unlinked}
use Rattle.arena_heap.proofs.links.unlink.Given as goal

abbrev pub invariant-loop-place : goal.invariant-loop-place
invariant-loop-place l =
    Relinked l.region.start l.region.room l.initial.cells.items l.cells.items
    × Unlinked l.region.start l.region.room l.place l.cells.items
    × (vec_capacity l.initial.cells ≤ vec_capacity l.cells)

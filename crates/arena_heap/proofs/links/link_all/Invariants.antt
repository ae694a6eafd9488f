use Rattle.std.proofs.Common.{◌≤◌, ◌*◌}
use Rattle.std.specs.Vec.{vec_capacity}
use Rattle.arena_heap.specs.Cells.{part, texts_in, AreLinked, Relinked}
use Rattle.arena_heap.proofs.links.link_all.Given as goal

abbrev pub invariant-loop-at : goal.invariant-loop-at
invariant-loop-at l =
    Relinked l.region.start l.region.room l.initial.cells.items l.cells.items
    × AreLinked (texts_in l.initial.cells.items l.bytes.items) (part l.cells.items l.region.start (3 * l.region.room)) l.region.room l.at
    × (vec_capacity l.initial.cells ≤ vec_capacity l.cells)

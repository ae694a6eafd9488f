use Rattle.std.proofs.Common.{arith, ◌≡◌, length, sym, ◌∙◌, ap}
use Rattle.qstr_pool.specs.mpy_base.Weights.{used}
use Rattle.arena_heap.proofs.Views.{used_is}
use Rattle.arena_heap.proofs.arena.Arena.used.Goals as goal

pub returns-clause-cells : goal.returns-clause-cells
returns-clause-cells c =
    let q : c.len.result ≡ length c.self.inside.cells.items = omega arith in
    q ∙ (sym (used_is c.self.inside.cells.items c.self.inside.bytes.items c.self.inside.room.cells c.self.inside.room.bytes) ∙ ap used c.self.view_is)

use Rattle.std.proofs.Common.{arith, ◌≡◌, ◌-◌, ◌^◌, min, length, sym, ◌∙◌, ap, subst, true, false}
use Rattle.std.proofs.Math.Path.{ap₂}
use Rattle.qstr_pool.specs.mpy_base.Weights.{no_room, Fits}
use Rattle.arena_heap.proofs.Views.{no_cells, no_bytes, fits_is, fits_cells}
use Rattle.arena_heap.proofs.arena.Arena.ask.Goals as goal

pub returns-then-cells-self-clause-told : goal.returns-then-cells-self-clause-told
returns-then-cells-self-clause-told c =
    let q : c.len-cells_used.result ≡ length c.self.inside.cells.items = omega arith in
    let m : c.args.cells ≡ min c.args.cells (2 ^ 64 - 1) = omega arith in
    ap₂ (λ x u. record { asked = x; used = u; size = c.self.inside.room.cells; bytes = false }) m q
    ∙ (sym (no_cells c.self.inside.cells.items c.self.inside.bytes.items c.self.inside.room.cells c.self.inside.room.bytes c.args.cells c.args.bytes (omega arith))
    ∙ ap (λ w. no_room w c.args.cells c.args.bytes) c.self.view_is)

pub returns-then-cells-self-clause-err : goal.returns-then-cells-self-clause-err
returns-then-cells-self-clause-err c f =
    let g = subst (λ w. Fits w c.args.cells c.args.bytes) (sym c.self.view_is) f in
    omega (arith, fits_cells c.self.inside.cells.items c.self.inside.bytes.items c.self.inside.room.cells c.self.inside.room.bytes c.args.cells c.args.bytes g)

pub returns-then-bytes-self-clause-told : goal.returns-then-bytes-self-clause-told
returns-then-bytes-self-clause-told c =
    let q : c.len-bytes_used.result ≡ length c.self.inside.bytes.items = omega arith in
    let m : c.args.bytes ≡ min c.args.bytes (2 ^ 64 - 1) = omega arith in
    ap₂ (λ x u. record { asked = x; used = u; size = c.self.inside.room.bytes; bytes = true }) m q
    ∙ (sym (no_bytes c.self.inside.cells.items c.self.inside.bytes.items c.self.inside.room.cells c.self.inside.room.bytes c.args.cells c.args.bytes (omega arith))
    ∙ ap (λ w. no_room w c.args.cells c.args.bytes) c.self.view_is)

pub returns-clause-ok : goal.returns-clause-ok
returns-clause-ok c = subst (λ w. Fits w c.args.cells c.args.bytes) c.self.view_is (fits_is c.self.inside.cells.items c.self.inside.bytes.items _ _ _ _ (omega arith) (omega arith))

use Rattle.std.proofs.Common.{arith, ℕ, ◌+◌, ◌*◌, ◌≡◌, sym, subst, refl, rules}
use Rattle.std.specs.Result.{IfErr}
use Rattle.qstr_pool.specs.mpy_base.World.{AList}
use Rattle.qstr_pool.specs.mpy_base.Weights.{Fits, Refused, list_growth, room_for}
use Rattle.qstr_pool.proofs.mpy_base_lemmas.Rooms.{room_is}
use Rattle.arena_heap.proofs.ListCells.{full_list}
use Rattle.arena_heap.proofs.ListSeen.{seen_room, reserved_nothing, no_growth, all_growth, list_reserved, nothing_fits}
use Rattle.arena_heap.proofs.Seen.{seen_within, seen_head, seen_fits}
use Rattle.arena_heap.proofs.lists.reserve_list.Goals as goal

pub list_region-region-requires-clause-within : goal.list_region-region-requires-clause-within
list_region-region-requires-clause-within c = seen_within c.arena.inside c.arena.view_is AList c.args.l.cell c.requires

pub list_region-region-requires-clause-list : goal.list_region-region-requires-clause-list
list_region-region-requires-clause-list c = seen_head c.arena.inside c.arena.view_is AList c.args.l.cell c.requires

pub returns-then-items-region-clause-ok : goal.returns-then-items-region-clause-ok
returns-then-items-region-clause-ok c =
    let room = seen_room c.arena.inside c.arena.view_is c.args.l.cell c.list_region-region.ensures in
    reserved_nothing c.args.arena.now c.args.l.cell c.args.items c.requires (omega arith)

pub returns-then-items-region-clause-fits : goal.returns-then-items-region-clause-fits
returns-then-items-region-clause-fits c =
    let room = seen_room c.arena.inside c.arena.view_is c.args.l.cell c.list_region-region.ensures in
    subst (λ (k : ℕ). Fits c.args.arena.now k 0) (sym (no_growth c.args.arena.now c.args.l.cell c.args.items (omega arith))) (nothing_fits c.arena.inside c.arena.invariant c.arena.view_is)

pub returns-in_err-room-clause-refused : goal.returns-in_err-room-clause-refused
returns-in_err-room-clause-refused c =
    let room = seen_room c.arena.inside c.arena.view_is c.args.l.cell c.list_region-region.ensures in
    let growth = all_growth c.args.arena.now c.args.l.cell c.args.items (omega arith) in
    let grows : 0 + 1 * room_for c.args.items ≡ list_growth c.args.arena.now c.args.l.cell c.args.items = omega (arith, growth) in
    subst (λ (j : ℕ). IfErr c.from_residual.result (λ e. Refused c.args.arena.now c.args.arena.now e j 0)) grows (search rules)

pub overflow_sub-room : goal.overflow_sub-room
overflow_sub-room c =
    let full = full_list c.arena.inside.cells.items c.arena.invariant.kept c.args.l.cell c.list_region-region.result c.list_region-region.ensures in
    omega (arith, (room_is c.args.items).holds, c.in_ok-room.ensures.room)

pub move_cells-requires-clause-fits : goal.move_cells-requires-clause-fits
move_cells-requires-clause-fits c =
    let full = full_list c.arena.inside.cells.items c.arena.invariant.kept c.args.l.cell c.list_region-region.result c.list_region-region.ensures in
    let f = seen_fits c.arena.inside c.arena.view_is c.in_ok-room.ensures.fits in
    omega (arith, f.0, (room_is c.args.items).holds, c.in_ok-room.ensures.room, c.arena.invariant.cells_taken)

pub invariant_of-arena : goal.invariant_of-arena
invariant_of-arena c = (list_reserved c.arena.inside c.arena.invariant c.arena.view_is c.args.l.cell c.list_region-region.ensures c.requires c.args.items c.len-start.result _ c.in_ok-room.room c.move_cells.new.cells.items _
    (omega arith) c.in_ok-room.ensures.room refl (omega arith) c.move_cells.ensures.items c.in_ok-room.ensures.fits c.move_cells.ensures.capacity).0

pub returns-clause-ok : goal.returns-clause-ok
returns-clause-ok c = (list_reserved c.arena.inside c.arena.invariant c.arena.view_is c.args.l.cell c.list_region-region.ensures c.requires c.args.items c.len-start.result _ c.in_ok-room.room c.move_cells.new.cells.items _
    (omega arith) c.in_ok-room.ensures.room refl (omega arith) c.move_cells.ensures.items c.in_ok-room.ensures.fits c.move_cells.ensures.capacity).1

pub returns-clause-fits : goal.returns-clause-fits
returns-clause-fits c =
    let room = seen_room c.arena.inside c.arena.view_is c.args.l.cell c.list_region-region.ensures in
    let growth = all_growth c.args.arena.now c.args.l.cell c.args.items (omega arith) in
    subst (λ (k : ℕ). Fits c.args.arena.now k 0) (omega (arith, growth)) c.in_ok-room.ensures.fits

use Rattle.std.proofs.Common.{ℕ, ◌+◌, ◌-◌, ◌*◌, ◌≡◌, List, ◌++◌, Some, None, sym, ◌∙◌, subst, set, replicate, refl, arith, rules}
use Rattle.std.proofs.Math.Path.{ap₂}
use Rattle.std.specs.Result.{IfErr}
use Rattle.arena_heap.specs.declared.value.Value.{Value}
use Rattle.arena_heap.specs.declared.cells.Cell.TheVariants.{DictHead}
use Rattle.qstr_pool.specs.mpy_base.World.{ADict, DictObject, pairs_at, with_object}
use Rattle.qstr_pool.specs.mpy_base.Weights.{Fits, IsRoom, Refused, dict_growth, grown_room, room_for, with_used}
use Rattle.qstr_pool.proofs.mpy_base_lemmas.Rooms.{room_is}
use Rattle.arena_heap.specs.Cells.{Holds}
use Rattle.arena_heap.proofs.DictCells.{dict_moved, moved_plain, moved_heads, moved_inside}
use Rattle.arena_heap.proofs.KeyTexts.{bytes_same}
use Rattle.arena_heap.proofs.DictSeen.{seen_pairs, seen_dict_room, pairs_held, pairs_formed, dict_pairs, dict_reserved_nothing, dict_lies, fits_nothing, small_growth, large_growth, large_room}
use Rattle.arena_heap.proofs.Seen.{objects, seen_within, seen_head, seen_fits, holds_now, grown_again, grown_seen}
use Rattle.arena_heap.proofs.dicts.reserve_dict.Goals as goal

pub dict_region-region-requires-clause-within : goal.dict_region-region-requires-clause-within
dict_region-region-requires-clause-within c = seen_within c.arena.inside c.arena.view_is ADict c.args.d.cell c.requires

pub dict_region-region-requires-clause-dict : goal.dict_region-region-requires-clause-dict
dict_region-region-requires-clause-dict c = seen_head c.arena.inside c.arena.view_is ADict c.args.d.cell c.requires

pub returns-then-pairs-region-clause-ok : goal.returns-then-pairs-region-clause-ok
returns-then-pairs-region-clause-ok c =
    let room = seen_dict_room c.arena.inside c.arena.view_is c.args.d.cell c.dict_region-region.ensures in
    dict_reserved_nothing c.args.arena.now c.args.d.cell c.args.pairs c.requires (omega arith)

pub returns-then-pairs-region-clause-fits : goal.returns-then-pairs-region-clause-fits
returns-then-pairs-region-clause-fits c =
    let room = seen_dict_room c.arena.inside c.arena.view_is c.args.d.cell c.dict_region-region.ensures in
    subst (λ (k : ℕ). Fits c.args.arena.now k 0) (sym (small_growth c.args.arena.now c.args.d.cell c.args.pairs (omega arith))) (fits_nothing c.arena.inside c.arena.invariant c.arena.view_is)

pub returns-in_err-room-clause-refused : goal.returns-in_err-room-clause-refused
returns-in_err-room-clause-refused c =
    let h = c.args.arena.now in
    let room = seen_dict_room c.arena.inside c.arena.view_is c.args.d.cell c.dict_region-region.ensures in
    let growth = large_growth h c.args.d.cell c.args.pairs (omega arith) in
    let asked : 0 + 3 * room_for c.args.pairs ≡ dict_growth h c.args.d.cell c.args.pairs = omega arith in
    subst (λ (k : ℕ). IfErr c.from_residual.result (λ e. Refused h h e k 0)) asked (search rules)

pub overflow_sub-rest : goal.overflow_sub-rest
overflow_sub-rest c =
    let lies = dict_lies c.arena.inside c.arena.invariant c.args.d.cell c.dict_region-region.ensures in
    omega (arith, (room_is c.args.pairs).holds, c.in_ok-room.ensures.room)

pub move_cells-requires-clause-fits : goal.move_cells-requires-clause-fits
move_cells-requires-clause-fits c =
    let lies = dict_lies c.arena.inside c.arena.invariant c.args.d.cell c.dict_region-region.ensures in
    let f = seen_fits c.arena.inside c.arena.view_is c.in_ok-room.ensures.fits in
    omega (arith, f.0, c.arena.invariant.cells_taken, (room_is c.args.pairs).holds, c.in_ok-room.ensures.room)

fits : (c : goal.After-arena-1) → Fits c.args.arena.now (3 * c.in_ok-room.room) 0
fits c =
    let asked : 0 + 3 * room_for c.args.pairs ≡ 3 * c.in_ok-room.room = omega (arith, c.in_ok-room.ensures.room) in
    subst (λ (k : ℕ). Fits c.args.arena.now k 0) asked c.in_ok-room.ensures.fits

new : (c : goal.After-arena-1) → Holds c.arena.inside.keys (set c.link_all.new.cells.items c.args.d.cell (DictHead (record { start = c.len-start.result; len = c.dict_region-region.result.len; room = c.in_ok-room.room }))) c.arena.inside.bytes.items
    (set (objects c.arena.inside ++ replicate (3 * c.in_ok-room.room) None) c.args.d.cell (Some (DictObject (pairs_at c.args.arena.now c.args.d.cell) c.in_ok-room.room)))
new c =
    let a = c.arena.inside in
    let n = c.args.d.cell in
    let r = c.dict_region-region.result in
    let room = c.in_ok-room.room in
    let start = c.len-start.result in
    let lies = dict_lies a c.arena.invariant n c.dict_region-region.ensures in
    let holds = (room_is c.args.pairs).holds in
    subst (λ (ps : List (Value × Value)). Holds c.arena.inside.keys (set c.link_all.new.cells.items n (DictHead (record { start = start; len = r.len; room = room }))) a.bytes.items (set (objects a ++ replicate (3 * room) None) n (Some (DictObject ps room))))
    (seen_pairs a c.arena.view_is n c.dict_region-region.ensures)
    (dict_moved (holds_now a c.arena.invariant) n start (3 * (room - r.len)) room r c.move_cells.new.cells.items (seen_within a c.arena.view_is ADict n c.requires) c.dict_region-region.ensures
    (subst IsRoom (sym c.in_ok-room.ensures.room) (room_is c.args.pairs).is_room) (omega (arith, c.in_ok-room.ensures.room)) (omega arith) c.move_cells.ensures.items
    c.link_all.new.cells.items c.link_all.ensures.relinked c.link_all.ensures.linked)

pub link_all-requires-clause-plain : goal.link_all-requires-clause-plain
link_all-requires-clause-plain c =
    let a = c.arena.inside in
    let n = c.args.d.cell in
    let r = c.dict_region-region.result in
    let room = c.in_ok-room.room in
    let lies = dict_lies a c.arena.invariant n c.dict_region-region.ensures in
    let holds = (room_is c.args.pairs).holds in
    moved_plain (holds_now a c.arena.invariant) n c.len-start.result (3 * (room - r.len)) room r c.move_cells.new.cells.items (seen_within a c.arena.view_is ADict n c.requires) c.dict_region-region.ensures
    (subst IsRoom (sym c.in_ok-room.ensures.room) (room_is c.args.pairs).is_room) (omega (arith, c.in_ok-room.ensures.room)) (omega arith) c.move_cells.ensures.items

pub link_all-requires-clause-bytes : goal.link_all-requires-clause-bytes
link_all-requires-clause-bytes c =
    let a = c.arena.inside in
    let n = c.args.d.cell in
    let r = c.dict_region-region.result in
    let room = c.in_ok-room.room in
    let lies = dict_lies a c.arena.invariant n c.dict_region-region.ensures in
    let holds = (room_is c.args.pairs).holds in
    bytes_same a.cells.items c.move_cells.new.cells.items a.bytes.items
    (moved_heads (holds_now a c.arena.invariant) n c.len-start.result (3 * (room - r.len)) room r c.move_cells.new.cells.items (seen_within a c.arena.view_is ADict n c.requires) c.dict_region-region.ensures
    (subst IsRoom (sym c.in_ok-room.ensures.room) (room_is c.args.pairs).is_room) (omega (arith, c.in_ok-room.ensures.room)) (omega arith) c.move_cells.ensures.items)
    c.arena.invariant.kept.bytes_apart.inside

pub link_all-requires-clause-inside : goal.link_all-requires-clause-inside
link_all-requires-clause-inside c =
    let a = c.arena.inside in
    let n = c.args.d.cell in
    let r = c.dict_region-region.result in
    let room = c.in_ok-room.room in
    let lies = dict_lies a c.arena.invariant n c.dict_region-region.ensures in
    let holds = (room_is c.args.pairs).holds in
    let inside = moved_inside (holds_now a c.arena.invariant) n c.len-start.result (3 * (room - r.len)) room r c.move_cells.new.cells.items (seen_within a c.arena.view_is ADict n c.requires) c.dict_region-region.ensures
    (subst IsRoom (sym c.in_ok-room.ensures.room) (room_is c.args.pairs).is_room) (omega (arith, c.in_ok-room.ensures.room)) (omega arith) c.move_cells.ensures.items in
    omega arith

pub link_all-requires-clause-within : goal.link_all-requires-clause-within
link_all-requires-clause-within c =
    let lies = dict_lies c.arena.inside c.arena.invariant c.args.d.cell c.dict_region-region.ensures in
    omega (arith, (room_is c.args.pairs).holds, c.in_ok-room.ensures.room)

pub invariant_of-arena : goal.invariant_of-arena
invariant_of-arena c =
    let a = c.arena.inside in
    let n = c.args.d.cell in
    let h = c.args.arena.now in
    let room = c.in_ok-room.room in
    let all = dict_pairs a c.arena.invariant c.arena.view_is n c.requires in
    grown_again a c.arena.invariant c.arena.view_is ADict n (3 * room) c.requires (DictObject (pairs_at h n) room) refl _ _ (fits c) (new c) (omega (arith, c.move_cells.ensures.capacity, c.link_all.ensures.capacity))
    (pairs_held h.objects (pairs_at h n) room all) (pairs_formed h.objects (pairs_at h n) all)

pub returns-clause-ok : goal.returns-clause-ok
returns-clause-ok c =
    let a = c.arena.inside in
    let n = c.args.d.cell in
    let h = c.args.arena.now in
    let room = c.in_ok-room.room in
    let was = seen_dict_room a c.arena.view_is n c.dict_region-region.ensures in
    let growth = large_growth h n c.args.pairs (omega arith) in
    let taken : 3 * room ≡ dict_growth h n c.args.pairs = omega (arith, c.in_ok-room.ensures.room) in
    let grown : room ≡ grown_room h n c.args.pairs = c.in_ok-room.ensures.room ∙ sym (large_room h n c.args.pairs (omega arith)) in
    grown_seen a c.arena.view_is n (3 * room) (DictObject (pairs_at h n) room) _ (new c)
    ∙ ap₂ (λ (j k : ℕ). with_object (with_used h j) n (DictObject (pairs_at h n) k)) taken grown

pub returns-clause-fits : goal.returns-clause-fits
returns-clause-fits c =
    let was = seen_dict_room c.arena.inside c.arena.view_is c.args.d.cell c.dict_region-region.ensures in
    let growth = large_growth c.args.arena.now c.args.d.cell c.args.pairs (omega arith) in
    let taken : 3 * c.in_ok-room.room ≡ dict_growth c.args.arena.now c.args.d.cell c.args.pairs = omega (arith, c.in_ok-room.ensures.room) in
    subst (λ (k : ℕ). Fits c.args.arena.now k 0) taken (fits c)

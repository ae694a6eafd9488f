use Rattle.std.proofs.Common.{ℕ, suc, ◌+◌, ◌*◌, ◌≡◌, List, [], ◌∷◌, ◌++◌, length, Some, None, sym, ◌∙◌, subst, replicate, arith, le_refl, ap}
use Rattle.std.proofs.Math.Path.{ap₂}
use Rattle.std.proofs.lemmas.List.Elements.{All-nil}
use Rattle.arena_heap.specs.declared.cells.Cell.{Cell}
use Rattle.arena_heap.specs.declared.cells.Cell.TheVariants as variants
use Rattle.qstr_pool.specs.mpy_base.World.{kind_of, DictObject}
use Rattle.qstr_pool.specs.mpy_base.Weights.{Fits, more_cells, room_for}
use Rattle.qstr_pool.proofs.mpy_base_lemmas.Worlds.{later_made, object_made}
use Rattle.qstr_pool.proofs.mpy_base_lemmas.Rooms.{room_is}
use Rattle.arena_heap.specs.Values.{ArenaObject, Leads, IsKey}
use Rattle.arena_heap.specs.Cells.{blank, Holds}
use Rattle.arena_heap.proofs.NewObjects.{dict_made}
use Rattle.arena_heap.proofs.Seen.{objects, holds_now, seen_fits, made_again, made_seen}
use Rattle.arena_heap.proofs.arena.Arena.make_dict.Goals as goal
use Rattle.arena_heap.proofs.arena.Arena.make_dict.Goals.{After-take_cells}

abbrev new : (c : After-take_cells) → ArenaObject
new c = DictObject [] (room_for c.args.pairs)

left : (c : After-take_cells) → Holds c.self.inside.keys c.take_cells.new.cells.items c.self.inside.bytes.items (objects c.self.inside ++ Some (new c) ∷ replicate (more_cells (new c)) None)
left c =
    subst (λ (x : List Cell). Holds c.self.inside.keys x c.self.inside.bytes.items (objects c.self.inside ++ Some (new c) ∷ replicate (more_cells (new c)) None))
    ((let room : room_for c.args.pairs ≡ c.in_ok-room.room = sym c.in_ok-room.ensures.room in
    let start : length c.self.inside.cells.items + 3 ≡ c.len-cell.result + 3 = omega arith in
    ap₂ (λ (from room : ℕ). c.self.inside.cells.items ++ variants.DictHead (record { start = from; len = 0; room = room }) ∷ replicate (2 + 3 * room) blank) start room ∙ sym c.take_cells.ensures.items))
    (dict_made (holds_now c.self.inside c.self.invariant) (room_for c.args.pairs) (room_is c.args.pairs).is_room)

pub take_cells-requires : goal.take_cells-requires
take_cells-requires c = let f = seen_fits c.self.inside c.self.view_is (let e : 3 + 3 * room_for c.args.pairs ≡ suc (2 + 3 * room_for c.args.pairs) = omega arith in subst (λ (x : ℕ). Fits c.args.self.now x 0) e c.in_ok-room.ensures.fits) in omega (arith, f.0, c.in_ok-room.ensures.room, c.self.invariant.cells_taken)

pub invariant_of-self : goal.invariant_of-self
invariant_of-self c =
    made_again c.self.inside c.self.invariant c.self.view_is (new c) _ _ _ _ (let e : 3 + 3 * room_for c.args.pairs ≡ suc (2 + 3 * room_for c.args.pairs) = omega arith in subst (λ (x : ℕ). Fits c.args.self.now x 0) e c.in_ok-room.ensures.fits) (left c) (omega arith) c.take_cells.ensures.capacity (le_refl _)
    (All-nil (Leads c.args.self.now.objects)) (All-nil IsKey)

pub returns-clause-made : goal.returns-clause-made
returns-clause-made c = made_seen c.self.inside c.self.view_is (new c) _ _ (let e : 3 + 3 * room_for c.args.pairs ≡ suc (2 + 3 * room_for c.args.pairs) = omega arith in subst (λ (x : ℕ). Fits c.args.self.now x 0) e c.in_ok-room.ensures.fits) (left c) (omega arith) c.len-cell.result (omega arith)

pub returns-clause-later : goal.returns-clause-later
returns-clause-later c = later_made (returns-clause-made c)

pub overflow_add-start : goal.overflow_add-start
overflow_add-start c = let f = seen_fits c.self.inside c.self.view_is (let e : 3 + 3 * room_for c.args.pairs ≡ suc (2 + 3 * room_for c.args.pairs) = omega arith in subst (λ (x : ℕ). Fits c.args.self.now x 0) e c.in_ok-room.ensures.fits) in omega (arith, f.0, c.self.invariant.cells_few)

pub returns-clause-kind : goal.returns-clause-kind
returns-clause-kind c = ap kind_of (object_made (returns-clause-made c))

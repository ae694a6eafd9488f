use Rattle.std.proofs.Common.{ℕ, suc, ◌+◌, ◌-◌, ◌^◌, ◌<◌, ◌≡◌, min, List, ◌∷◌, ◌++◌, length, Some, None, sym, subst, replicate, arith, le_refl, ap}
use Rattle.std.proofs.lemmas.List.{length-replicate}
use Rattle.arena_heap.proofs.Views.{fits_uncapped}
use Rattle.std.proofs.lemmas.List.Elements.{All-replicate}
use Rattle.arena_heap.specs.declared.value.Value.TheVariants as values
use Rattle.arena_heap.specs.declared.cells.Cell.{Cell}
use Rattle.arena_heap.specs.declared.value.Value.{Value}
use Rattle.qstr_pool.specs.mpy_base.World.{kind_of, Heap, TupleObject}
use Rattle.qstr_pool.specs.mpy_base.Weights.{Fits, more_cells}
use Rattle.qstr_pool.proofs.mpy_base_lemmas.Worlds.{later_made, object_made}
use Rattle.arena_heap.specs.Values.{ArenaObject, Leads}
use Rattle.arena_heap.specs.Cells.{Holds}
use Rattle.arena_heap.proofs.NewObjects.{tuple_made}
use Rattle.arena_heap.proofs.Seen.{objects, holds_now, seen_fits, made_again, made_seen}
use Rattle.arena_heap.proofs.arena.Arena.make_tuple.Goals as goal
use Rattle.arena_heap.proofs.arena.Arena.make_tuple.Goals.{After-take_cells}

fits_tuple : {h : Heap Value ℕ} {asked : ℕ} (count : ℕ) → h.cell_size < 2 ^ 32 → asked ≡ min (1 + count) (2 ^ 64 - 1) → Fits h asked 0 → Fits h (suc (length (replicate count values.None))) 0
fits_tuple {h} {asked} count few e f =
    let l : 1 + count ≡ suc (length (replicate count values.None)) = omega (arith, length-replicate count values.None) in
    subst (λ (x : ℕ). Fits h x 0) l (fits_uncapped (1 + count) few (subst (λ (x : ℕ). Fits h x 0) e f))

abbrev new : (c : After-take_cells) → ArenaObject
new c = TupleObject (replicate c.args.count values.None)

left : (c : After-take_cells) → Holds c.self.inside.keys c.take_cells.new.cells.items c.self.inside.bytes.items (objects c.self.inside ++ Some (new c) ∷ replicate (more_cells (new c)) None)
left c =
    subst (λ (x : List Cell). Holds c.self.inside.keys x c.self.inside.bytes.items (objects c.self.inside ++ Some (new c) ∷ replicate (more_cells (new c)) None))
    (sym c.take_cells.ensures.items)
    (tuple_made (holds_now c.self.inside c.self.invariant) c.args.count)

pub take_cells-requires : goal.take_cells-requires
take_cells-requires c = let f = seen_fits c.self.inside c.self.view_is (fits_tuple c.args.count c.ask.ensures.few (omega (arith, c.saturating_add.ensures)) c.in_ok-ask.ensures.ok) in omega (arith, f.0, length-replicate c.args.count values.None, c.self.invariant.cells_taken)

pub invariant_of-self : goal.invariant_of-self
invariant_of-self c =
    made_again c.self.inside c.self.invariant c.self.view_is (new c) _ _ _ _ (fits_tuple c.args.count c.ask.ensures.few (omega (arith, c.saturating_add.ensures)) c.in_ok-ask.ensures.ok) (left c) (omega arith) c.take_cells.ensures.capacity (le_refl _)
    (All-replicate (Leads c.args.self.now.objects) c.args.count values.None (record { meets = tt; small = tt })) (tt)

pub returns-clause-made : goal.returns-clause-made
returns-clause-made c = made_seen c.self.inside c.self.view_is (new c) _ _ (fits_tuple c.args.count c.ask.ensures.few (omega (arith, c.saturating_add.ensures)) c.in_ok-ask.ensures.ok) (left c) (omega arith) c.len-cell.result (omega arith)

pub returns-clause-later : goal.returns-clause-later
returns-clause-later c = later_made (returns-clause-made c)

pub returns-clause-kind : goal.returns-clause-kind
returns-clause-kind c = ap kind_of (object_made (returns-clause-made c))

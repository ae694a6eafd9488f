use Rattle.std.proofs.Common.{ℤ, ◌≡◌, List, ◌∷◌, ◌++◌, Some, None, sym, ◌∙◌, ap, subst, replicate, arith, le_refl, w32}
use Rattle.std.proofs.Math.Path.{ap₂}
use Rattle.std.proofs.lemmas.Int.{to_z-of_z}
use Rattle.arena_heap.specs.declared.value.Value.TheVariants as values
use Rattle.arena_heap.specs.declared.cells.Cell.{Cell}
use Rattle.arena_heap.specs.declared.cells.Cell.TheVariants as variants
use Rattle.qstr_pool.specs.mpy_base.World.{kind_of, RangeObject}
use Rattle.qstr_pool.specs.mpy_base.Weights.{more_cells}
use Rattle.qstr_pool.proofs.mpy_base_lemmas.Worlds.{later_made, object_made}
use Rattle.arena_heap.specs.Values.{ArenaObject, Leads}
use Rattle.arena_heap.specs.Cells.{blank, Holds}
use Rattle.arena_heap.proofs.NewObjects.{range_made}
use Rattle.arena_heap.proofs.Sounds.{all_three}
use Rattle.arena_heap.proofs.Seen.{objects, holds_now, seen_fits, made_again, made_seen}
use Rattle.arena_heap.proofs.arena.Arena.make_range.Goals as goal
use Rattle.arena_heap.proofs.arena.Arena.make_range.Goals.{After-take_cells}

ranged : (cells : List Cell) {a b c x y z : ℤ} → a ≡ x → b ≡ y → c ≡ z → cells ++ variants.RangeHead a b c ∷ replicate 3 blank ≡ cells ++ variants.RangeHead x y z ∷ replicate 3 blank
ranged cells {a} {b} {c} {x} {y} {z} p q r =
    ap₂ (λ (i j : ℤ). cells ++ variants.RangeHead i j c ∷ replicate 3 blank) p q ∙ ap (λ (k : ℤ). cells ++ variants.RangeHead x y k ∷ replicate 3 blank) r

abbrev new : (c : After-take_cells) → ArenaObject
new c = RangeObject c.args.start c.args.stop c.args.step

left : (c : After-take_cells) → Holds c.self.inside.keys c.take_cells.new.cells.items c.self.inside.bytes.items (objects c.self.inside ++ Some (new c) ∷ replicate (more_cells (new c)) None)
left c =
    subst (λ (x : List Cell). Holds c.self.inside.keys x c.self.inside.bytes.items (objects c.self.inside ++ Some (new c) ∷ replicate (more_cells (new c)) None))
    (sym (c.take_cells.ensures.items ∙ ranged c.self.inside.cells.items (to_z-of_z w32 c.args.start c.ranges.start) (to_z-of_z w32 c.args.stop c.ranges.stop) (to_z-of_z w32 c.args.step c.ranges.step)))
    (range_made (holds_now c.self.inside c.self.invariant) c.args.start c.args.stop c.args.step)

pub take_cells-requires : goal.take_cells-requires
take_cells-requires c = let f = seen_fits c.self.inside c.self.view_is c.in_ok-ask.ensures.ok in omega (arith, f.0, c.self.invariant.cells_taken)

pub invariant_of-self : goal.invariant_of-self
invariant_of-self c =
    made_again c.self.inside c.self.invariant c.self.view_is (new c) _ _ _ _ c.in_ok-ask.ensures.ok (left c) (omega arith) c.take_cells.ensures.capacity (le_refl _)
    (all_three (Leads c.args.self.now.objects) (values.Int c.args.start) (values.Int c.args.stop) (values.Int c.args.step) (record { meets = tt; small = c.requires.start }) (record { meets = tt; small = c.requires.stop }) (record { meets = tt; small = c.requires.step })) (c.requires.nonzero)

pub returns-clause-made : goal.returns-clause-made
returns-clause-made c = made_seen c.self.inside c.self.view_is (new c) _ _ c.in_ok-ask.ensures.ok (left c) (omega arith) c.len-cell.result (omega arith)

pub returns-clause-later : goal.returns-clause-later
returns-clause-later c = later_made (returns-clause-made c)

pub returns-clause-kind : goal.returns-clause-kind
returns-clause-kind c = ap kind_of (object_made (returns-clause-made c))

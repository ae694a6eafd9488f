use Rattle.std.proofs.Common.{List, ◌∷◌, ◌++◌, Some, None, sym, ◌∙◌, ap, subst, replicate, arith, le_refl}
use Rattle.arena_heap.specs.declared.cells.Cell.{Cell}
use Rattle.arena_heap.specs.declared.cells.Cell.TheVariants as variants
use Rattle.qstr_pool.specs.mpy_base.World.{kind_of, MethodObject}
use Rattle.qstr_pool.specs.mpy_base.Weights.{more_cells}
use Rattle.qstr_pool.proofs.mpy_base_lemmas.Worlds.{later_made, object_made}
use Rattle.arena_heap.specs.Values.{ArenaObject, Leads}
use Rattle.arena_heap.specs.Cells.{blank, Holds}
use Rattle.arena_heap.proofs.NewObjects.{method_made}
use Rattle.arena_heap.proofs.Sounds.{all_one}
use Rattle.arena_heap.proofs.Seen.{objects, holds_now, seen_fits, made_again, made_seen}
use Rattle.arena_heap.proofs.arena.Arena.make_method.Goals as goal
use Rattle.arena_heap.proofs.arena.Arena.make_method.Goals.{After-take_cells}

abbrev new : (c : After-take_cells) → ArenaObject
new c = MethodObject c.args.object c.args.method

left : (c : After-take_cells) → Holds c.self.inside.keys c.take_cells.new.cells.items c.self.inside.bytes.items (objects c.self.inside ++ Some (new c) ∷ replicate (more_cells (new c)) None)
left c =
    subst (λ (x : List Cell). Holds c.self.inside.keys x c.self.inside.bytes.items (objects c.self.inside ++ Some (new c) ∷ replicate (more_cells (new c)) None))
    (ap (λ x. c.self.inside.cells.items ++ variants.MethodHead c.args.method ∷ x ∷ replicate 1 blank) (sym c.of.ensures) ∙ sym c.take_cells.ensures.items)
    (method_made (holds_now c.self.inside c.self.invariant) c.args.object c.args.method)

pub take_cells-requires : goal.take_cells-requires
take_cells-requires c = let f = seen_fits c.self.inside c.self.view_is c.in_ok-ask.ensures.ok in omega (arith, f.0, c.self.invariant.cells_taken)

pub invariant_of-self : goal.invariant_of-self
invariant_of-self c =
    made_again c.self.inside c.self.invariant c.self.view_is (new c) _ _ _ _ c.in_ok-ask.ensures.ok (left c) (omega arith) c.take_cells.ensures.capacity (le_refl _)
    (all_one (Leads c.args.self.now.objects) c.args.object c.requires.leads) (c.requires.method)

pub returns-clause-made : goal.returns-clause-made
returns-clause-made c = made_seen c.self.inside c.self.view_is (new c) _ _ c.in_ok-ask.ensures.ok (left c) (omega arith) c.len-cell.result (omega arith)

pub returns-clause-later : goal.returns-clause-later
returns-clause-later c = later_made (returns-clause-made c)

pub returns-clause-kind : goal.returns-clause-kind
returns-clause-kind c = ap kind_of (object_made (returns-clause-made c))

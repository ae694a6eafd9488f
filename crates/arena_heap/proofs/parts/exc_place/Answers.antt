use Rattle.std.proofs.Common.{arith, ℕ, sym, subst}
use Rattle.qstr_pool.specs.mpy_base.World.{Heap, Later}
use Rattle.qstr_pool.proofs.mpy_base_lemmas.Worlds.{later_place}
use Rattle.arena_heap.specs.declared.value.Value.{Value}
use Rattle.arena_heap.proofs.PartSeen.{behind, exception_head, placed_exception}
use Rattle.arena_heap.proofs.parts.exc_place.Goals as goal

pub index_mut-requires : goal.index_mut-requires
index_mut-requires c =
    let head = exception_head c.arena.inside c.arena.view_is c.args.e.cell c.requires in
    let inside = behind c.arena.inside c.arena.invariant c.args.e.cell _ head.1 in
    omega arith

pub invariant_of-arena : goal.invariant_of-arena
invariant_of-arena c = (placed_exception c.arena.inside c.arena.invariant c.arena.view_is c.args.e.cell c.requires c.args.file c.args.line c.args.name).0

pub returns-clause-placed : goal.returns-clause-placed
returns-clause-placed c = (placed_exception c.arena.inside c.arena.invariant c.arena.view_is c.args.e.cell c.requires c.args.file c.args.line c.args.name).1

pub returns-clause-later : goal.returns-clause-later
returns-clause-later c =
    subst (λ (w : Heap Value ℕ). Later c.args.arena.now.objects w.objects) (sym (returns-clause-placed c))
    (later_place c.args.arena.now c.args.e.cell c.args.file c.args.line c.args.name)

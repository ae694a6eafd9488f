use Rattle.std.proofs.Common.{arith, ℕ, sym, subst}
use Rattle.qstr_pool.specs.mpy_base.World.{Heap, Later}
use Rattle.qstr_pool.proofs.mpy_base_lemmas.Worlds.{later_names}
use Rattle.arena_heap.specs.declared.value.Value.{Value}
use Rattle.arena_heap.proofs.PartSeen.{behind, module_head, named_as}
use Rattle.arena_heap.proofs.parts.module_names.Goals as goal

pub index_mut-requires : goal.index_mut-requires
index_mut-requires c =
    let head = module_head c.arena.inside c.arena.view_is c.args.m.cell c.requires.is_module in
    let inside = behind c.arena.inside c.arena.invariant c.args.m.cell _ head.1 in
    omega arith

pub invariant_of-arena : goal.invariant_of-arena
invariant_of-arena c = (named_as c.arena.inside c.arena.invariant c.arena.view_is c.args.m.cell c.requires.is_module c.args.names c.requires.names).0

pub returns-clause-named : goal.returns-clause-named
returns-clause-named c = (named_as c.arena.inside c.arena.invariant c.arena.view_is c.args.m.cell c.requires.is_module c.args.names c.requires.names).1

pub returns-clause-later : goal.returns-clause-later
returns-clause-later c =
    subst (λ (w : Heap Value ℕ). Later c.args.arena.now.objects w.objects) (sym (returns-clause-named c))
    (later_names c.args.arena.now c.args.m.cell c.args.names.cell)

use Rattle.std.proofs.Common.{arith, ℕ, sym, subst, set}
use Rattle.arena_heap.specs.declared.value.Value.{Value}
use Rattle.qstr_pool.specs.mpy_base.World.{Heap, Later, items_at}
use Rattle.qstr_pool.proofs.mpy_base_lemmas.Worlds.{later_tuple}
use Rattle.arena_heap.proofs.TupleSeen.{tuple_head, inside_tuple, tuple_length, tuple_filled}
use Rattle.arena_heap.proofs.tuples.tuple_fill.Goals as goal

pub invariant_of-arena : goal.invariant_of-arena
invariant_of-arena c = (tuple_filled c.arena.inside c.arena.invariant c.arena.view_is c.args.t.cell (tuple_head c.arena.inside c.arena.view_is c.args.t.cell c.requires.tuple).1 c.requires.tuple c.args.at c.args.v c.of.result (omega (arith, c.requires.within, tuple_length c.arena.inside c.arena.invariant c.arena.view_is c.args.t.cell (tuple_head c.arena.inside c.arena.view_is c.args.t.cell c.requires.tuple).1)) c.of.ensures c.requires.leads).0

pub returns-clause-filled : goal.returns-clause-filled
returns-clause-filled c = (tuple_filled c.arena.inside c.arena.invariant c.arena.view_is c.args.t.cell (tuple_head c.arena.inside c.arena.view_is c.args.t.cell c.requires.tuple).1 c.requires.tuple c.args.at c.args.v c.of.result (omega (arith, c.requires.within, tuple_length c.arena.inside c.arena.invariant c.arena.view_is c.args.t.cell (tuple_head c.arena.inside c.arena.view_is c.args.t.cell c.requires.tuple).1)) c.of.ensures c.requires.leads).1

pub returns-clause-later : goal.returns-clause-later
returns-clause-later c =
    subst (λ (w : Heap Value ℕ). Later c.args.arena.now.objects w.objects) (sym (returns-clause-filled c))
    (later_tuple c.args.arena.now c.args.t.cell (set (items_at c.args.arena.now c.args.t.cell) c.args.at c.args.v) c.requires.tuple)

pub overflow_add-t : goal.overflow_add-t
overflow_add-t c =
    let head = tuple_head c.arena.inside c.arena.view_is c.args.t.cell c.requires.tuple in
    let inside = inside_tuple c.arena.inside.cells.items c.arena.invariant.kept c.args.t.cell head.0 head.1 in
    let len = tuple_length c.arena.inside c.arena.invariant c.arena.view_is c.args.t.cell head.1 in
    omega (arith, inside, c.requires.within, c.arena.invariant.cells_fit, c.arena.invariant.cells_few)

pub overflow_add-t-2 : goal.overflow_add-t-2
overflow_add-t-2 c =
    let head = tuple_head c.arena.inside c.arena.view_is c.args.t.cell c.requires.tuple in
    let inside = inside_tuple c.arena.inside.cells.items c.arena.invariant.kept c.args.t.cell head.0 head.1 in
    let len = tuple_length c.arena.inside c.arena.invariant c.arena.view_is c.args.t.cell head.1 in
    omega (arith, inside, c.requires.within, c.arena.invariant.cells_fit, c.arena.invariant.cells_few)

pub index_mut-requires : goal.index_mut-requires
index_mut-requires c =
    let head = tuple_head c.arena.inside c.arena.view_is c.args.t.cell c.requires.tuple in
    let inside = inside_tuple c.arena.inside.cells.items c.arena.invariant.kept c.args.t.cell head.0 head.1 in
    let len = tuple_length c.arena.inside c.arena.invariant c.arena.view_is c.args.t.cell head.1 in
    omega (arith, inside, c.requires.within)

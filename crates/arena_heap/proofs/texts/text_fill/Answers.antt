use Rattle.std.specs.Vec.{vec_capacity}
use Rattle.std.proofs.Common.{arith, ℕ, ◌+◌, List, Option, sym, subst, set}
use Rattle.arena_heap.specs.declared.value.Value.{Value}
use Rattle.qstr_pool.specs.mpy_base.World.{Heap, AText, Later, text_at}
use Rattle.qstr_pool.proofs.mpy_base_lemmas.Worlds.{later_text}
use Rattle.arena_heap.specs.Cells.{IsArena}
use Rattle.arena_heap.proofs.TupleSeen.{inside_text, text_length, text_filled}
use Rattle.arena_heap.proofs.Seen.{seen_within, seen_head}
use Rattle.arena_heap.proofs.texts.text_fill.Goals as goal

pub text_span-span-requires-clause-within : goal.text_span-span-requires-clause-within
text_span-span-requires-clause-within c = seen_within c.arena.inside c.arena.view_is AText c.args.t.cell c.requires.text

pub text_span-span-requires-clause-text : goal.text_span-span-requires-clause-text
text_span-span-requires-clause-text c = seen_head c.arena.inside c.arena.view_is AText c.args.t.cell c.requires.text

pub invariant_of-arena : goal.invariant_of-arena
invariant_of-arena c =
    let a = c.arena.inside in
    let bytes : List ℕ = set a.bytes.items (c.text_span-span.result.start + c.args.at) c.args.byte in
    subst (λ (k : Option ℕ). IsArena k a.cells.items bytes a.room.cells a.room.bytes (vec_capacity a.cells) (vec_capacity a.bytes)) (sym c.without_text-keys.ensures)
    (text_filled a c.arena.invariant c.arena.view_is c.args.t.cell c.text_span-span.ensures c.requires.text c.args.at c.args.byte (omega (arith, c.requires.within, text_length a c.arena.invariant c.arena.view_is c.args.t.cell c.text_span-span.ensures)) c.requires.ascii).0

pub returns-clause-filled : goal.returns-clause-filled
returns-clause-filled c = (text_filled c.arena.inside c.arena.invariant c.arena.view_is c.args.t.cell c.text_span-span.ensures c.requires.text c.args.at c.args.byte (omega (arith, c.requires.within, text_length c.arena.inside c.arena.invariant c.arena.view_is c.args.t.cell c.text_span-span.ensures)) c.requires.ascii).1

pub returns-clause-later : goal.returns-clause-later
returns-clause-later c =
    subst (λ (w : Heap Value ℕ). Later c.args.arena.now.objects w.objects) (sym (returns-clause-filled c))
    (later_text c.args.arena.now c.args.t.cell (set (text_at c.args.arena.now c.args.t.cell) c.args.at c.args.byte) c.requires.text)

pub overflow_add-span : goal.overflow_add-span
overflow_add-span c =
    let inside = inside_text c.arena.inside.cells.items c.arena.invariant.kept c.args.t.cell c.text_span-span.result c.text_span-span.ensures in
    let len = text_length c.arena.inside c.arena.invariant c.arena.view_is c.args.t.cell c.text_span-span.ensures in
    omega (arith, inside, c.requires.within, c.arena.invariant.bytes_fit, c.arena.invariant.bytes_few)

pub index_mut-requires : goal.index_mut-requires
index_mut-requires c =
    let inside = inside_text c.arena.inside.cells.items c.arena.invariant.kept c.args.t.cell c.text_span-span.result c.text_span-span.ensures in
    let len = text_length c.arena.inside c.arena.invariant c.arena.view_is c.args.t.cell c.text_span-span.ensures in
    omega (arith, inside, c.requires.within)

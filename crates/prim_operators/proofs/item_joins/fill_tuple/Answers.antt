use Rattle.std.proofs.Common.{ℕ, ◌≤◌, List, length, sym, ap, subst, arith}
use Rattle.prim_faults.specs.arena_heap.declared.value.Value.{Value}
use Rattle.prim_faults.specs.mpy_base.World.{Heap, ATuple, Later}
use Rattle.prim_faults.proofs.mpy_base_lemmas.Worlds.{later_tuple}
use Rattle.prim_operators.proofs.ItemFills.{source_later, told_fill, tuple_begins, tuple_source, tuple_length, tuple_step, tuple_ends}
use Rattle.prim_operators.proofs.item_joins.fill_tuple.Goals as goal

pub loop-at-init : goal.loop-at-init
loop-at-init g c =
    let texts = g.C.Constants.text_of c.args.consts.now in
    let tuples = g.C.Constants.items_of c.args.consts.now in
    let h = c.args.arena.now in
    let t = c.args.t.cell in
    let is = c.requires.tuple in
    let source = c.args.source in
    let apart = c.requires.apart in
    let count = c.args.count in
    (tuple_begins tuples h t is source apart count c.requires.items c.requires.room, c.requires.all_told)

pub source_item-v-requires-clause-known : goal.source_item-v-requires-clause-known
source_item-v-requires-clause-known g c =
    let texts = g.C.Constants.text_of c.args.consts.now in
    let tuples = g.C.Constants.items_of c.args.consts.now in
    let h = c.args.arena.now in
    let t = c.args.t.cell in
    let is = c.requires.tuple in
    let source = c.args.source in
    let apart = c.requires.apart in
    let count = c.args.count in
    let later : Later h.objects c.loop-at.arena.objects = subst (λ (w : Heap Value ℕ). Later h.objects w.objects) (sym c.loop-at.invariant.0) (later_tuple h t _ is) in
    source_later texts tuples later source c.requires.known

pub source_item-v-requires-clause-within : goal.source_item-v-requires-clause-within
source_item-v-requires-clause-within g c =
    let texts = g.C.Constants.text_of c.args.consts.now in
    let tuples = g.C.Constants.items_of c.args.consts.now in
    let h = c.args.arena.now in
    let t = c.args.t.cell in
    let is = c.requires.tuple in
    let source = c.args.source in
    let apart = c.requires.apart in
    let count = c.args.count in
    let same = tuple_source tuples h t is source apart count c.requires.items c.requires.room c.loop-at.arena c.loop-at.at c.loop-at.invariant.0 in
    omega (arith, c.loop-at-test.true, c.requires.items, ap (λ (xs : List Value). length xs) same)

pub tuple_fill-requires-clause-tuple : goal.tuple_fill-requires-clause-tuple
tuple_fill-requires-clause-tuple g c =
    let texts = g.C.Constants.text_of c.args.consts.now in
    let tuples = g.C.Constants.items_of c.args.consts.now in
    let h = c.args.arena.now in
    let t = c.args.t.cell in
    let is = c.requires.tuple in
    let source = c.args.source in
    let apart = c.requires.apart in
    let count = c.args.count in
    let later : Later h.objects c.loop-at.arena.objects = subst (λ (w : Heap Value ℕ). Later h.objects w.objects) (sym c.loop-at.invariant.0) (later_tuple h t _ is) in
    later.keeps ATuple t is

pub tuple_fill-requires-clause-within : goal.tuple_fill-requires-clause-within
tuple_fill-requires-clause-within g c =
    let texts = g.C.Constants.text_of c.args.consts.now in
    let tuples = g.C.Constants.items_of c.args.consts.now in
    let h = c.args.arena.now in
    let t = c.args.t.cell in
    let is = c.requires.tuple in
    let source = c.args.source in
    let apart = c.requires.apart in
    let count = c.args.count in
    let le : c.loop-at.at ≤ count = omega arith in
    omega (arith, c.loop-at-test.true, tuple_length tuples h t is source apart count c.requires.items c.requires.room c.loop-at.arena c.loop-at.at c.loop-at.invariant.0 le)

pub loop-at-preserved : goal.loop-at-preserved
loop-at-preserved g c =
    let texts = g.C.Constants.text_of c.args.consts.now in
    let tuples = g.C.Constants.items_of c.args.consts.now in
    let h = c.args.arena.now in
    let t = c.args.t.cell in
    let is = c.requires.tuple in
    let source = c.args.source in
    let apart = c.requires.apart in
    let count = c.args.count in
    let later : Later h.objects c.loop-at.arena.objects = subst (λ (w : Heap Value ℕ). Later h.objects w.objects) (sym c.loop-at.invariant.0) (later_tuple h t _ is) in (
      tuple_step tuples h t is source apart count c.requires.items c.requires.room c.loop-at.arena c.tuple_fill.new.arena c.loop-at.at c.source_item-v.result c.loop-at.invariant.0 c.loop-at-test.true c.source_item-v.ensures.item c.tuple_fill.ensures.filled,
      told_fill texts tuples c.loop-at.arena c.tuple_fill.new.arena t c.loop-at.at c.source_item-v.result (later.keeps ATuple t is) c.loop-at.invariant.1 c.source_item-v.ensures.told c.tuple_fill.ensures.filled,
    )

pub returns-clause-filled : goal.returns-clause-filled
returns-clause-filled g c =
    let texts = g.C.Constants.text_of c.args.consts.now in
    let tuples = g.C.Constants.items_of c.args.consts.now in
    let h = c.args.arena.now in
    let t = c.args.t.cell in
    let is = c.requires.tuple in
    let source = c.args.source in
    let apart = c.requires.apart in
    let count = c.args.count in
    tuple_ends tuples h t is source apart count c.requires.items c.requires.room c.loop-at.arena c.loop-at.at (omega arith) c.loop-at.invariant.0

pub returns-clause-later : goal.returns-clause-later
returns-clause-later g c =
    let texts = g.C.Constants.text_of c.args.consts.now in
    let tuples = g.C.Constants.items_of c.args.consts.now in
    let h = c.args.arena.now in
    let t = c.args.t.cell in
    let is = c.requires.tuple in
    let source = c.args.source in
    let apart = c.requires.apart in
    let count = c.args.count in
    let later : Later h.objects c.loop-at.arena.objects = subst (λ (w : Heap Value ℕ). Later h.objects w.objects) (sym c.loop-at.invariant.0) (later_tuple h t _ is) in
    later

use Rattle.std.proofs.Common.{ℕ, ◌<◌, ◌≤◌, List, length, sym, ap, subst, arith}
use Rattle.prim_faults.specs.arena_heap.declared.value.Value.{Value}
use Rattle.prim_faults.specs.mpy_base.World.{Heap, AList, Later}
use Rattle.prim_faults.proofs.mpy_base_lemmas.Worlds.{later_list}
use Rattle.prim_operators.specs.Sources.{source_items}
use Rattle.prim_operators.proofs.ItemFills.{source_later, list_begins, list_source, list_count, list_room, list_step, list_told, list_ends}
use Rattle.prim_operators.proofs.item_joins.fill_list.Goals as goal

pub loop-at-init : goal.loop-at-init
loop-at-init g c =
    let texts = g.C.Constants.text_of c.args.consts.now in
    let tuples = g.C.Constants.items_of c.args.consts.now in
    let h = c.args.arena.now in
    let t = c.args.l.cell in
    let is = c.requires.list in
    let source = c.args.source in
    let apart = c.requires.apart in
    let count = c.args.count in
    (list_begins tuples h t is source apart c.requires.empty, c.requires.all_told)

pub source_item-v-requires-clause-known : goal.source_item-v-requires-clause-known
source_item-v-requires-clause-known g c =
    let texts = g.C.Constants.text_of c.args.consts.now in
    let tuples = g.C.Constants.items_of c.args.consts.now in
    let h = c.args.arena.now in
    let t = c.args.l.cell in
    let is = c.requires.list in
    let source = c.args.source in
    let apart = c.requires.apart in
    let count = c.args.count in
    let later : Later h.objects c.loop-at.arena.objects = subst (λ (w : Heap Value ℕ). Later h.objects w.objects) (sym c.loop-at.invariant.0) (later_list h t _ is) in
    source_later texts tuples later source c.requires.known

pub source_item-v-requires-clause-within : goal.source_item-v-requires-clause-within
source_item-v-requires-clause-within g c =
    let texts = g.C.Constants.text_of c.args.consts.now in
    let tuples = g.C.Constants.items_of c.args.consts.now in
    let h = c.args.arena.now in
    let t = c.args.l.cell in
    let is = c.requires.list in
    let source = c.args.source in
    let apart = c.requires.apart in
    let count = c.args.count in
    let same = list_source tuples h t is source apart c.loop-at.arena c.loop-at.at c.loop-at.invariant.0 in
    omega (arith, c.loop-at-test.true, c.requires.items, ap (λ (xs : List Value). length xs) same)

pub put_in_list-requires-clause-list : goal.put_in_list-requires-clause-list
put_in_list-requires-clause-list g c =
    let texts = g.C.Constants.text_of c.args.consts.now in
    let tuples = g.C.Constants.items_of c.args.consts.now in
    let h = c.args.arena.now in
    let t = c.args.l.cell in
    let is = c.requires.list in
    let source = c.args.source in
    let apart = c.requires.apart in
    let count = c.args.count in
    let later : Later h.objects c.loop-at.arena.objects = subst (λ (w : Heap Value ℕ). Later h.objects w.objects) (sym c.loop-at.invariant.0) (later_list h t _ is) in
    later.keeps AList t is

pub put_in_list-requires-clause-within : goal.put_in_list-requires-clause-within
put_in_list-requires-clause-within g c =
    let texts = g.C.Constants.text_of c.args.consts.now in
    let tuples = g.C.Constants.items_of c.args.consts.now in
    let h = c.args.arena.now in
    let t = c.args.l.cell in
    let is = c.requires.list in
    let source = c.args.source in
    let apart = c.requires.apart in
    let count = c.args.count in
    let le : c.loop-at.at ≤ length (source_items tuples h source) = omega (arith, c.requires.items, c.loop-at-test.true) in
    omega (arith, list_count tuples h t is source apart c.loop-at.arena c.loop-at.at c.loop-at.invariant.0 le)

pub put_in_list-requires-clause-room : goal.put_in_list-requires-clause-room
put_in_list-requires-clause-room g c =
    let texts = g.C.Constants.text_of c.args.consts.now in
    let tuples = g.C.Constants.items_of c.args.consts.now in
    let h = c.args.arena.now in
    let t = c.args.l.cell in
    let is = c.requires.list in
    let source = c.args.source in
    let apart = c.requires.apart in
    let count = c.args.count in
    let le : c.loop-at.at ≤ length (source_items tuples h source) = omega (arith, c.requires.items, c.loop-at-test.true) in
    omega (arith, c.loop-at-test.true, c.requires.room, list_count tuples h t is source apart c.loop-at.arena c.loop-at.at c.loop-at.invariant.0 le, list_room tuples h t is source apart c.loop-at.arena c.loop-at.at c.loop-at.invariant.0)

pub loop-at-preserved : goal.loop-at-preserved
loop-at-preserved g c =
    let texts = g.C.Constants.text_of c.args.consts.now in
    let tuples = g.C.Constants.items_of c.args.consts.now in
    let h = c.args.arena.now in
    let t = c.args.l.cell in
    let is = c.requires.list in
    let source = c.args.source in
    let apart = c.requires.apart in
    let count = c.args.count in
    let later : Later h.objects c.loop-at.arena.objects = subst (λ (w : Heap Value ℕ). Later h.objects w.objects) (sym c.loop-at.invariant.0) (later_list h t _ is) in
    let lt : c.loop-at.at < length (source_items tuples h source) = omega (arith, c.requires.items, c.loop-at-test.true) in (
      list_step tuples h t is source apart c.loop-at.arena c.put_in_list.new.arena c.loop-at.at c.source_item-v.result c.loop-at.invariant.0 lt c.source_item-v.ensures.item c.put_in_list.ensures,
      list_told tuples h t is source apart texts c.loop-at.arena c.put_in_list.new.arena c.loop-at.at c.source_item-v.result c.loop-at.invariant.0 (omega arith) (later.keeps AList t is) c.loop-at.invariant.1 c.source_item-v.ensures.told c.put_in_list.ensures,
    )

pub returns-clause-filled : goal.returns-clause-filled
returns-clause-filled g c =
    let texts = g.C.Constants.text_of c.args.consts.now in
    let tuples = g.C.Constants.items_of c.args.consts.now in
    let h = c.args.arena.now in
    let t = c.args.l.cell in
    let is = c.requires.list in
    let source = c.args.source in
    let apart = c.requires.apart in
    let count = c.args.count in
    list_ends tuples h t is source apart c.loop-at.arena c.loop-at.at (omega (arith, c.requires.items)) c.loop-at.invariant.0

pub returns-clause-later : goal.returns-clause-later
returns-clause-later g c =
    let texts = g.C.Constants.text_of c.args.consts.now in
    let tuples = g.C.Constants.items_of c.args.consts.now in
    let h = c.args.arena.now in
    let t = c.args.l.cell in
    let is = c.requires.list in
    let source = c.args.source in
    let apart = c.requires.apart in
    let count = c.args.count in
    let later : Later h.objects c.loop-at.arena.objects = subst (λ (w : Heap Value ℕ). Later h.objects w.objects) (sym c.loop-at.invariant.0) (later_list h t _ is) in
    later

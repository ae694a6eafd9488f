use Rattle.std.proofs.Common.{ℕ, ◌≤◌, List, length, sym, ap, subst, arith, ◌∙◌}
use Rattle.prim_builtins.specs.arena_heap.declared.value.Value.{Value}
use Rattle.prim_builtins.specs.mpy_base.World.{Heap, ATuple, Later}
use Rattle.prim_builtins.proofs.mpy_base_lemmas.Worlds.{later_tuple}
use Rattle.prim_builtins.proofs.arena_heap_lemmas.Sounds.{leads_later}
use Rattle.prim_builtins.proofs.prim_operators_lemmas.ItemFills.{told_fill}
use Rattle.prim_collections.proofs.TupleFills.{letters_later, fill_begins, fill_values, fill_length, fill_step, fill_ends}
use Rattle.prim_collections.proofs.tuples.fill_tuple.Goals as goal

pub loop-at-init : goal.loop-at-init
loop-at-init g c =
    let texts = g.C.Constants.text_of c.args.consts.now in
    let tuples = g.C.Constants.items_of c.args.consts.now in
    let h = c.args.arena.now in
    let t = c.args.t.cell in
    let is = c.requires.tuple in
    let v = c.args.v in
    let apart = c.requires.apart in
    let first = c.args.first in
    let count = c.args.count in
    let items = c.requires.items in
    let room = c.requires.room in
    (fill_begins tuples h t is v apart first count items room, c.requires.all_told)

pub kept_item-item-requires-clause-leads : goal.kept_item-item-requires-clause-leads
kept_item-item-requires-clause-leads g c =
    let texts = g.C.Constants.text_of c.args.consts.now in
    let tuples = g.C.Constants.items_of c.args.consts.now in
    let h = c.args.arena.now in
    let t = c.args.t.cell in
    let is = c.requires.tuple in
    let v = c.args.v in
    let apart = c.requires.apart in
    let first = c.args.first in
    let count = c.args.count in
    let items = c.requires.items in
    let room = c.requires.room in
    let later : Later h.objects c.loop-at.arena.objects = subst (λ (w : Heap Value ℕ). Later h.objects w.objects) (sym c.loop-at.invariant.0) (later_tuple h t _ is) in
    leads_later later v c.requires.leads

pub kept_item-item-requires-clause-letters : goal.kept_item-item-requires-clause-letters
kept_item-item-requires-clause-letters g c =
    let texts = g.C.Constants.text_of c.args.consts.now in
    let tuples = g.C.Constants.items_of c.args.consts.now in
    let h = c.args.arena.now in
    let t = c.args.t.cell in
    let is = c.requires.tuple in
    let v = c.args.v in
    let apart = c.requires.apart in
    let first = c.args.first in
    let count = c.args.count in
    let items = c.requires.items in
    let room = c.requires.room in
    let later : Later h.objects c.loop-at.arena.objects = subst (λ (w : Heap Value ℕ). Later h.objects w.objects) (sym c.loop-at.invariant.0) (later_tuple h t _ is) in
    letters_later h.objects c.loop-at.arena.objects later first count v c.requires.letters

pub kept_item-item-requires-clause-items : goal.kept_item-item-requires-clause-items
kept_item-item-requires-clause-items g c =
    let texts = g.C.Constants.text_of c.args.consts.now in
    let tuples = g.C.Constants.items_of c.args.consts.now in
    let h = c.args.arena.now in
    let t = c.args.t.cell in
    let is = c.requires.tuple in
    let v = c.args.v in
    let apart = c.requires.apart in
    let first = c.args.first in
    let count = c.args.count in
    let items = c.requires.items in
    let room = c.requires.room in
    ap (λ (xs : List Value). length xs) (fill_values tuples h t is v apart first count items room c.loop-at.arena c.loop-at.at c.loop-at.invariant.0) ∙ items

pub tuple_fill-requires-clause-tuple : goal.tuple_fill-requires-clause-tuple
tuple_fill-requires-clause-tuple g c =
    let texts = g.C.Constants.text_of c.args.consts.now in
    let tuples = g.C.Constants.items_of c.args.consts.now in
    let h = c.args.arena.now in
    let t = c.args.t.cell in
    let is = c.requires.tuple in
    let v = c.args.v in
    let apart = c.requires.apart in
    let first = c.args.first in
    let count = c.args.count in
    let items = c.requires.items in
    let room = c.requires.room in
    let later : Later h.objects c.loop-at.arena.objects = subst (λ (w : Heap Value ℕ). Later h.objects w.objects) (sym c.loop-at.invariant.0) (later_tuple h t _ is) in
    later.keeps ATuple t is

pub tuple_fill-requires-clause-within : goal.tuple_fill-requires-clause-within
tuple_fill-requires-clause-within g c =
    let texts = g.C.Constants.text_of c.args.consts.now in
    let tuples = g.C.Constants.items_of c.args.consts.now in
    let h = c.args.arena.now in
    let t = c.args.t.cell in
    let is = c.requires.tuple in
    let v = c.args.v in
    let apart = c.requires.apart in
    let first = c.args.first in
    let count = c.args.count in
    let items = c.requires.items in
    let room = c.requires.room in
    let le : c.loop-at.at ≤ count = omega (arith, c.loop-at-test.true) in
    omega (arith, c.loop-at-test.true, fill_length tuples h t is v apart first count items room c.loop-at.arena c.loop-at.at c.loop-at.invariant.0 le)

pub loop-at-preserved : goal.loop-at-preserved
loop-at-preserved g c =
    let texts = g.C.Constants.text_of c.args.consts.now in
    let tuples = g.C.Constants.items_of c.args.consts.now in
    let h = c.args.arena.now in
    let t = c.args.t.cell in
    let is = c.requires.tuple in
    let v = c.args.v in
    let apart = c.requires.apart in
    let first = c.args.first in
    let count = c.args.count in
    let items = c.requires.items in
    let room = c.requires.room in
    let later : Later h.objects c.loop-at.arena.objects = subst (λ (w : Heap Value ℕ). Later h.objects w.objects) (sym c.loop-at.invariant.0) (later_tuple h t _ is) in (
      fill_step tuples h t is v apart first count items room c.loop-at.arena c.tuple_fill.new.arena c.loop-at.at c.kept_item-item.result c.loop-at.invariant.0 c.loop-at-test.true c.kept_item-item.ensures.item c.tuple_fill.ensures.filled,
      told_fill texts tuples c.loop-at.arena c.tuple_fill.new.arena t c.loop-at.at c.kept_item-item.result (later.keeps ATuple t is) c.loop-at.invariant.1 c.kept_item-item.ensures.told c.tuple_fill.ensures.filled,
    )

pub returns-clause-filled : goal.returns-clause-filled
returns-clause-filled g c =
    let texts = g.C.Constants.text_of c.args.consts.now in
    let tuples = g.C.Constants.items_of c.args.consts.now in
    let h = c.args.arena.now in
    let t = c.args.t.cell in
    let is = c.requires.tuple in
    let v = c.args.v in
    let apart = c.requires.apart in
    let first = c.args.first in
    let count = c.args.count in
    let items = c.requires.items in
    let room = c.requires.room in
    fill_ends tuples h t is v apart first count items room c.loop-at.arena c.loop-at.at (omega arith) c.loop-at.invariant.0

pub returns-clause-later : goal.returns-clause-later
returns-clause-later g c =
    let texts = g.C.Constants.text_of c.args.consts.now in
    let tuples = g.C.Constants.items_of c.args.consts.now in
    let h = c.args.arena.now in
    let t = c.args.t.cell in
    let is = c.requires.tuple in
    let v = c.args.v in
    let apart = c.requires.apart in
    let first = c.args.first in
    let count = c.args.count in
    let items = c.requires.items in
    let room = c.requires.room in
    let later : Later h.objects c.loop-at.arena.objects = subst (λ (w : Heap Value ℕ). Later h.objects w.objects) (sym c.loop-at.invariant.0) (later_tuple h t _ is) in
    later

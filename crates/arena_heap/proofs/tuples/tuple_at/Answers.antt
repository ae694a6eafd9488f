use Rattle.std.proofs.Common.{arith, Some, sym, ◌∙◌, ap, subst}
use Rattle.std.proofs.lemmas.Option.{slice_get-get_or, slice_get_past}
use Rattle.arena_heap.specs.declared.value.Value.TheVariants as values
use Rattle.qstr_pool.specs.mpy_base.World.{ATuple, items_at}
use Rattle.arena_heap.specs.Values.{Leads}
use Rattle.arena_heap.proofs.TupleSeen.{tuple_length, tuple_item, tuple_leads}
use Rattle.arena_heap.proofs.Seen.{seen_within, seen_head}
use Rattle.arena_heap.proofs.tuples.tuple_at.Goals as goal

pub tuple_count-count-requires-clause-within : goal.tuple_count-count-requires-clause-within
tuple_count-count-requires-clause-within c = seen_within c.arena.inside c.arena.view_is ATuple c.args.t.cell c.requires

pub tuple_count-count-requires-clause-tuple : goal.tuple_count-count-requires-clause-tuple
tuple_count-count-requires-clause-tuple c = seen_head c.arena.inside c.arena.view_is ATuple c.args.t.cell c.requires

pub returns-then-at-count-clause-item : goal.returns-then-at-count-clause-item
returns-then-at-count-clause-item c =
    let len = tuple_length c.arena.inside c.arena.invariant c.arena.view_is c.args.t.cell c.tuple_count-count.ensures in
    let it = tuple_item c.arena.inside c.arena.invariant c.arena.view_is c.args.t.cell c.tuple_count-count.ensures c.args.at (omega arith) c.index.result.now c.value-v.result c.index.ensures c.value-v.ensures in
    ap (λ v. Some v) it ∙ sym (slice_get-get_or (items_at c.args.arena.now c.args.t.cell) c.args.at values.None (omega arith))

pub returns-then-at-count-clause-leads : goal.returns-then-at-count-clause-leads
returns-then-at-count-clause-leads c =
    let len = tuple_length c.arena.inside c.arena.invariant c.arena.view_is c.args.t.cell c.tuple_count-count.ensures in
    let it = tuple_item c.arena.inside c.arena.invariant c.arena.view_is c.args.t.cell c.tuple_count-count.ensures c.args.at (omega arith) c.index.result.now c.value-v.result c.index.ensures c.value-v.ensures in
    subst (Leads c.args.arena.now.objects) (sym it) (tuple_leads c.arena.inside c.arena.invariant c.arena.view_is c.args.t.cell c.tuple_count-count.ensures c.args.at values.None (omega arith))

pub returns-else-at-count-clause-item : goal.returns-else-at-count-clause-item
returns-else-at-count-clause-item c =
    let len = tuple_length c.arena.inside c.arena.invariant c.arena.view_is c.args.t.cell c.tuple_count-count.ensures in
    sym (slice_get_past (items_at c.args.arena.now c.args.t.cell) c.args.at (omega arith))

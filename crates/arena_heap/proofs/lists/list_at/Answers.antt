use Rattle.std.proofs.Common.{arith, Some, sym, ◌∙◌, ap, subst}
use Rattle.std.proofs.lemmas.Option.{slice_get-get_or, slice_get_past}
use Rattle.arena_heap.specs.declared.value.Value.TheVariants as values
use Rattle.qstr_pool.specs.mpy_base.World.{AList, items_at}
use Rattle.arena_heap.specs.Values.{Leads}
use Rattle.arena_heap.proofs.ListSeen.{seen_len, seen_item, list_leads}
use Rattle.arena_heap.proofs.Seen.{seen_within, seen_head}
use Rattle.arena_heap.proofs.lists.list_at.Goals as goal

pub list_region-region-requires-clause-within : goal.list_region-region-requires-clause-within
list_region-region-requires-clause-within c = seen_within c.arena.inside c.arena.view_is AList c.args.l.cell c.requires

pub list_region-region-requires-clause-list : goal.list_region-region-requires-clause-list
list_region-region-requires-clause-list c = seen_head c.arena.inside c.arena.view_is AList c.args.l.cell c.requires

pub returns-then-at-region-clause-item : goal.returns-then-at-region-clause-item
returns-then-at-region-clause-item c =
    let len = seen_len c.arena.inside c.arena.view_is c.args.l.cell c.list_region-region.ensures c.arena.invariant in
    let it = seen_item c.arena.inside c.arena.view_is c.args.l.cell c.list_region-region.ensures c.arena.invariant c.args.at (omega arith) c.index.result.now c.value-v.result c.index.ensures c.value-v.ensures in
    ap (λ v. Some v) it ∙ sym (slice_get-get_or (items_at c.args.arena.now c.args.l.cell) c.args.at values.None (omega arith))

pub returns-then-at-region-clause-leads : goal.returns-then-at-region-clause-leads
returns-then-at-region-clause-leads c =
    let len = seen_len c.arena.inside c.arena.view_is c.args.l.cell c.list_region-region.ensures c.arena.invariant in
    let it = seen_item c.arena.inside c.arena.view_is c.args.l.cell c.list_region-region.ensures c.arena.invariant c.args.at (omega arith) c.index.result.now c.value-v.result c.index.ensures c.value-v.ensures in
    subst (Leads c.args.arena.now.objects) (sym it) (list_leads c.arena.inside c.arena.view_is c.args.l.cell c.list_region-region.ensures c.arena.invariant c.args.at values.None (omega arith))

pub returns-else-at-region-clause-item : goal.returns-else-at-region-clause-item
returns-else-at-region-clause-item c =
    let len = seen_len c.arena.inside c.arena.view_is c.args.l.cell c.list_region-region.ensures c.arena.invariant in
    sym (slice_get_past (items_at c.args.arena.now c.args.l.cell) c.args.at (omega arith))

use Rattle.std.proofs.Common.{arith, ℕ, suc, ◌+◌, ◌-◌, ◌≡◌, List, Some, sym, ◌∙◌, ap, subst, set, get_or, take, drop, le_of_eq}
use Rattle.std.proofs.lemmas.Option.{slice_get-get_or, slice_get_past}
use Rattle.std.proofs.lemmas.List.Elements.{All-append, All-take, All-drop}
use Rattle.std.specs.List.{remove}
use Rattle.arena_heap.specs.declared.value.Value.{Value}
use Rattle.arena_heap.specs.declared.value.Value.TheVariants as values
use Rattle.arena_heap.specs.declared.cells.Cell.TheVariants.{ListHead}
use Rattle.qstr_pool.specs.mpy_base.World.{Heap, AList, Later, items_at}
use Rattle.qstr_pool.proofs.mpy_base_lemmas.Worlds.{later_list}
use Rattle.arena_heap.specs.Values.{Leads}
use Rattle.arena_heap.proofs.ListCells.{list_removed}
use Rattle.arena_heap.proofs.ListSeen.{seen_len, seen_item, list_leads, list_changed}
use Rattle.arena_heap.proofs.Seen.{seen_within, seen_head, holds_now}
use Rattle.arena_heap.proofs.lists.list_pop.Goals as goal

pub list_region-region-requires-clause-within : goal.list_region-region-requires-clause-within
list_region-region-requires-clause-within c = seen_within c.arena.inside c.arena.view_is AList c.args.l.cell c.requires

pub list_region-region-requires-clause-list : goal.list_region-region-requires-clause-list
list_region-region-requires-clause-list c = seen_head c.arena.inside c.arena.view_is AList c.args.l.cell c.requires

pub returns-then-at-region-clause-item : goal.returns-then-at-region-clause-item
returns-then-at-region-clause-item c =
    let len = seen_len c.arena.inside c.arena.view_is c.args.l.cell c.list_region-region.ensures c.arena.invariant in
    sym (slice_get_past (items_at c.args.arena.now c.args.l.cell) c.args.at (omega arith))

pub invariant_of-arena : goal.invariant_of-arena
invariant_of-arena c = (list_changed c.arena.inside c.arena.invariant c.arena.view_is c.args.l.cell c.list_region-region.ensures c.requires (λ (vs : List Value). remove vs c.args.at)
    (set c.copy_within.new.self.items c.args.l.cell (ListHead (record { start = c.list_region-region.result.start; len = c.list_region-region.result.len - 1; room = c.list_region-region.result.room }))) _
    (let b = c.copy_within.ensures.by_index in
    let r = c.list_region-region.result in
    let same_end : r.start + c.args.at + (r.start + r.len - (r.start + c.args.at + 1)) ≡ r.start + r.len - 1 = omega arith in
    list_removed (holds_now c.arena.inside c.arena.invariant) c.args.l.cell c.args.at r c.copy_within.new.self.items
    (seen_within c.arena.inside c.arena.view_is AList c.args.l.cell c.requires) c.list_region-region.ensures (omega arith) (omega arith)
    (λ k d lo hi. b.0 k d lo (omega arith) ∙ ap (λ j. get_or c.arena.inside.cells.items j d) (omega arith))
    (λ k d hi. b.1 k d hi)
    (λ k d lo. b.2 k d (omega arith)))
    (le_of_eq (sym c.copy_within.ensures.capacity)) (All-append (Leads c.args.arena.now.objects) (take c.args.at (items_at c.args.arena.now c.args.l.cell)) (drop (suc c.args.at) (items_at c.args.arena.now c.args.l.cell)) (All-take (Leads c.args.arena.now.objects) c.args.at (items_at c.args.arena.now c.args.l.cell) (list_leads c.arena.inside c.arena.view_is c.args.l.cell c.list_region-region.ensures c.arena.invariant)) (All-drop (Leads c.args.arena.now.objects) (suc c.args.at) (items_at c.args.arena.now c.args.l.cell) (list_leads c.arena.inside c.arena.view_is c.args.l.cell c.list_region-region.ensures c.arena.invariant)))).0

pub returns-clause-popped : goal.returns-clause-popped
returns-clause-popped c = (list_changed c.arena.inside c.arena.invariant c.arena.view_is c.args.l.cell c.list_region-region.ensures c.requires (λ (vs : List Value). remove vs c.args.at)
    (set c.copy_within.new.self.items c.args.l.cell (ListHead (record { start = c.list_region-region.result.start; len = c.list_region-region.result.len - 1; room = c.list_region-region.result.room }))) _
    (let b = c.copy_within.ensures.by_index in
    let r = c.list_region-region.result in
    let same_end : r.start + c.args.at + (r.start + r.len - (r.start + c.args.at + 1)) ≡ r.start + r.len - 1 = omega arith in
    list_removed (holds_now c.arena.inside c.arena.invariant) c.args.l.cell c.args.at r c.copy_within.new.self.items
    (seen_within c.arena.inside c.arena.view_is AList c.args.l.cell c.requires) c.list_region-region.ensures (omega arith) (omega arith)
    (λ k d lo hi. b.0 k d lo (omega arith) ∙ ap (λ j. get_or c.arena.inside.cells.items j d) (omega arith))
    (λ k d hi. b.1 k d hi)
    (λ k d lo. b.2 k d (omega arith)))
    (le_of_eq (sym c.copy_within.ensures.capacity)) (All-append (Leads c.args.arena.now.objects) (take c.args.at (items_at c.args.arena.now c.args.l.cell)) (drop (suc c.args.at) (items_at c.args.arena.now c.args.l.cell)) (All-take (Leads c.args.arena.now.objects) c.args.at (items_at c.args.arena.now c.args.l.cell) (list_leads c.arena.inside c.arena.view_is c.args.l.cell c.list_region-region.ensures c.arena.invariant)) (All-drop (Leads c.args.arena.now.objects) (suc c.args.at) (items_at c.args.arena.now c.args.l.cell) (list_leads c.arena.inside c.arena.view_is c.args.l.cell c.list_region-region.ensures c.arena.invariant)))).1

pub returns-clause-later : goal.returns-clause-later
returns-clause-later c =
    subst (λ (w : Heap Value ℕ). Later c.args.arena.now.objects w.objects) (sym (returns-clause-popped c))
    (later_list c.args.arena.now c.args.l.cell (remove (items_at c.args.arena.now c.args.l.cell) c.args.at) c.requires)

pub returns-clause-item : goal.returns-clause-item
returns-clause-item c =
    let len = seen_len c.arena.inside c.arena.view_is c.args.l.cell c.list_region-region.ensures c.arena.invariant in
    let it = seen_item c.arena.inside c.arena.view_is c.args.l.cell c.list_region-region.ensures c.arena.invariant c.args.at (omega arith) c.index.result.now c.value-v.result c.index.ensures c.value-v.ensures in
    ap (λ v. Some v) it ∙ sym (slice_get-get_or (items_at c.args.arena.now c.args.l.cell) c.args.at values.None (omega arith))

pub returns-clause-leads : goal.returns-clause-leads
returns-clause-leads c =
    let len = seen_len c.arena.inside c.arena.view_is c.args.l.cell c.list_region-region.ensures c.arena.invariant in
    let it = seen_item c.arena.inside c.arena.view_is c.args.l.cell c.list_region-region.ensures c.arena.invariant c.args.at (omega arith) c.index.result.now c.value-v.result c.index.ensures c.value-v.ensures in
    subst (Leads c.args.arena.now.objects) (sym it) (list_leads c.arena.inside c.arena.view_is c.args.l.cell c.list_region-region.ensures c.arena.invariant c.args.at values.None (omega arith))

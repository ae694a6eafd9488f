use Rattle.std.proofs.Common.{arith, ℕ, ◌+◌, List, Some, sym, subst, set, refl, le_refl}
use Rattle.std.proofs.lemmas.List.Elements.{All-set}
use Rattle.arena_heap.specs.declared.value.Value.{Value}
use Rattle.arena_heap.specs.declared.cells.Cell.{Cell}
use Rattle.qstr_pool.specs.mpy_base.World.{Heap, AList, ListObject, Later, items_at}
use Rattle.qstr_pool.proofs.mpy_base_lemmas.Worlds.{later_list}
use Rattle.arena_heap.specs.Values.{Leads}
use Rattle.arena_heap.specs.Cells.{Holds}
use Rattle.arena_heap.proofs.ListCells.{items_in, list_stored}
use Rattle.arena_heap.proofs.ListSeen.{seen_len, list_leads, list_changed}
use Rattle.arena_heap.proofs.Seen.{objects, seen_within, seen_head, holds_now}
use Rattle.arena_heap.proofs.lists.list_set.Goals as goal

pub list_region-region-requires-clause-within : goal.list_region-region-requires-clause-within
list_region-region-requires-clause-within c = seen_within c.arena.inside c.arena.view_is AList c.args.l.cell c.requires.list

pub list_region-region-requires-clause-list : goal.list_region-region-requires-clause-list
list_region-region-requires-clause-list c = seen_head c.arena.inside c.arena.view_is AList c.args.l.cell c.requires.list

pub invariant_of-arena : goal.invariant_of-arena
invariant_of-arena c = (list_changed c.arena.inside c.arena.invariant c.arena.view_is c.args.l.cell c.list_region-region.ensures c.requires.list (λ (vs : List Value). set vs c.args.at c.args.v)
    (set c.arena.inside.cells.items (c.list_region-region.result.start + c.args.at) c.of.result) _
    (subst (λ (x : Cell). Holds c.arena.inside.keys (set c.arena.inside.cells.items (c.list_region-region.result.start + c.args.at) x) c.arena.inside.bytes.items
    (set (objects c.arena.inside) c.args.l.cell (Some (ListObject (set (items_in c.arena.inside.cells.items c.list_region-region.result) c.args.at c.args.v) c.list_region-region.result.room)))) (sym c.of.ensures)
    (list_stored (holds_now c.arena.inside c.arena.invariant) c.args.l.cell c.args.at c.list_region-region.result c.args.v (seen_within c.arena.inside c.arena.view_is AList c.args.l.cell c.requires.list) c.list_region-region.ensures c.if-at-region.true))
    (le_refl _) (All-set (Leads c.args.arena.now.objects) (items_at c.args.arena.now c.args.l.cell) c.args.at c.args.v c.requires.leads (list_leads c.arena.inside c.arena.view_is c.args.l.cell c.list_region-region.ensures c.arena.invariant))).0

pub returns-then-at-region-clause-set : goal.returns-then-at-region-clause-set
returns-then-at-region-clause-set c = (list_changed c.arena.inside c.arena.invariant c.arena.view_is c.args.l.cell c.list_region-region.ensures c.requires.list (λ (vs : List Value). set vs c.args.at c.args.v)
    (set c.arena.inside.cells.items (c.list_region-region.result.start + c.args.at) c.of.result) _
    (subst (λ (x : Cell). Holds c.arena.inside.keys (set c.arena.inside.cells.items (c.list_region-region.result.start + c.args.at) x) c.arena.inside.bytes.items
    (set (objects c.arena.inside) c.args.l.cell (Some (ListObject (set (items_in c.arena.inside.cells.items c.list_region-region.result) c.args.at c.args.v) c.list_region-region.result.room)))) (sym c.of.ensures)
    (list_stored (holds_now c.arena.inside c.arena.invariant) c.args.l.cell c.args.at c.list_region-region.result c.args.v (seen_within c.arena.inside c.arena.view_is AList c.args.l.cell c.requires.list) c.list_region-region.ensures c.if-at-region.true))
    (le_refl _) (All-set (Leads c.args.arena.now.objects) (items_at c.args.arena.now c.args.l.cell) c.args.at c.args.v c.requires.leads (list_leads c.arena.inside c.arena.view_is c.args.l.cell c.list_region-region.ensures c.arena.invariant))).1

pub returns-then-at-region-clause-later : goal.returns-then-at-region-clause-later
returns-then-at-region-clause-later c =
    subst (λ (w : Heap Value ℕ). Later c.args.arena.now.objects w.objects) (sym (returns-then-at-region-clause-set c))
    (later_list c.args.arena.now c.args.l.cell (set (items_at c.args.arena.now c.args.l.cell) c.args.at c.args.v) c.requires.list)

pub returns-then-at-region-clause-some : goal.returns-then-at-region-clause-some
returns-then-at-region-clause-some c =
    let len = seen_len c.arena.inside c.arena.view_is c.args.l.cell c.list_region-region.ensures c.arena.invariant in
    (λ _. omega arith, λ _. refl)

pub returns-else-at-region-clause-some : goal.returns-else-at-region-clause-some
returns-else-at-region-clause-some c =
    let len = seen_len c.arena.inside c.arena.view_is c.args.l.cell c.list_region-region.ensures c.arena.invariant in
    (λ f. cc, λ h. absurd (omega arith))

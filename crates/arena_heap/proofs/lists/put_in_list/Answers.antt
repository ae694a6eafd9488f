use Rattle.std.proofs.Common.{arith, ◌+◌, ◌-◌, ◌≡◌, List, ◌∷◌, sym, ◌∙◌, ap, set, get_or, take, drop, le_of_eq}
use Rattle.std.proofs.lemmas.List.Elements.{All-append, All-take, All-drop, All-cons}
use Rattle.std.specs.List.{insert}
use Rattle.arena_heap.specs.declared.value.Value.{Value}
use Rattle.arena_heap.specs.declared.cells.Cell.TheVariants.{ListHead}
use Rattle.qstr_pool.specs.mpy_base.World.{AList, items_at}
use Rattle.arena_heap.specs.Values.{Leads}
use Rattle.arena_heap.proofs.ListCells.{list_put, inside_list}
use Rattle.arena_heap.proofs.ListSeen.{seen_room, seen_len, list_leads, list_changed}
use Rattle.arena_heap.proofs.Seen.{seen_within, seen_head, holds_now}
use Rattle.arena_heap.proofs.lists.put_in_list.Goals as goal

pub list_region-region-requires-clause-within : goal.list_region-region-requires-clause-within
list_region-region-requires-clause-within c = seen_within c.arena.inside c.arena.view_is AList c.args.l.cell c.requires.list

pub list_region-region-requires-clause-list : goal.list_region-region-requires-clause-list
list_region-region-requires-clause-list c = seen_head c.arena.inside c.arena.view_is AList c.args.l.cell c.requires.list

pub overflow_add-place : goal.overflow_add-place
overflow_add-place c =
    let len = seen_len c.arena.inside c.arena.view_is c.args.l.cell c.list_region-region.ensures c.arena.invariant in
    let room = seen_room c.arena.inside c.arena.view_is c.args.l.cell c.list_region-region.ensures in
    let inside = inside_list c.arena.inside.cells.items c.arena.invariant.kept c.args.l.cell c.list_region-region.result c.list_region-region.ensures in
    omega (arith, inside, c.requires.within, c.requires.room, c.arena.invariant.cells_fit, c.arena.invariant.cells_few)

pub copy_within-requires-clause-start_le_end : goal.copy_within-requires-clause-start_le_end
copy_within-requires-clause-start_le_end c =
    let len = seen_len c.arena.inside c.arena.view_is c.args.l.cell c.list_region-region.ensures c.arena.invariant in
    let room = seen_room c.arena.inside c.arena.view_is c.args.l.cell c.list_region-region.ensures in
    let inside = inside_list c.arena.inside.cells.items c.arena.invariant.kept c.args.l.cell c.list_region-region.result c.list_region-region.ensures in
    omega (arith, c.requires.within)

pub copy_within-requires-clause-dest_in_bounds : goal.copy_within-requires-clause-dest_in_bounds
copy_within-requires-clause-dest_in_bounds c =
    let len = seen_len c.arena.inside c.arena.view_is c.args.l.cell c.list_region-region.ensures c.arena.invariant in
    let room = seen_room c.arena.inside c.arena.view_is c.args.l.cell c.list_region-region.ensures in
    let inside = inside_list c.arena.inside.cells.items c.arena.invariant.kept c.args.l.cell c.list_region-region.result c.list_region-region.ensures in
    omega (arith, inside, c.requires.within, c.requires.room)

pub index_mut-requires : goal.index_mut-requires
index_mut-requires c =
    let len = seen_len c.arena.inside c.arena.view_is c.args.l.cell c.list_region-region.ensures c.arena.invariant in
    let room = seen_room c.arena.inside c.arena.view_is c.args.l.cell c.list_region-region.ensures in
    let inside = inside_list c.arena.inside.cells.items c.arena.invariant.kept c.args.l.cell c.list_region-region.result c.list_region-region.ensures in
    omega (arith, inside, c.requires.within, c.requires.room, c.copy_within.ensures.len)

pub invariant_of-arena : goal.invariant_of-arena
invariant_of-arena c = (list_changed c.arena.inside c.arena.invariant c.arena.view_is c.args.l.cell c.list_region-region.ensures c.requires.list (λ (vs : List Value). insert vs c.args.at c.args.v)
    (set (set c.copy_within.new.self.items (c.list_region-region.result.start + c.args.at) c.of.result) c.args.l.cell (ListHead (record { start = c.list_region-region.result.start; len = c.list_region-region.result.len + 1; room = c.list_region-region.result.room }))) _
    (let b = c.copy_within.ensures.by_index in
    let r = c.list_region-region.result in
    let len = seen_len c.arena.inside c.arena.view_is c.args.l.cell c.list_region-region.ensures c.arena.invariant in
    let room = seen_room c.arena.inside c.arena.view_is c.args.l.cell c.list_region-region.ensures in
    let inside = inside_list c.arena.inside.cells.items c.arena.invariant.kept c.args.l.cell r c.list_region-region.ensures in
    let from : r.start + c.args.at + 1 + (r.start + r.len - (r.start + c.args.at)) ≡ r.start + r.len + 1 = omega (arith, c.requires.within) in
    list_put (holds_now c.arena.inside c.arena.invariant) c.args.l.cell c.args.at r c.args.v c.of.result c.copy_within.new.self.items
    (seen_within c.arena.inside c.arena.view_is AList c.args.l.cell c.requires.list) c.list_region-region.ensures (omega (arith, c.requires.within)) (omega (arith, c.requires.room)) c.of.ensures (omega arith)
    (λ k d lo hi. b.0 k d lo (omega arith) ∙ ap (λ j. get_or c.arena.inside.cells.items j d) (omega arith))
    (λ k d hi. b.1 k d hi)
    (λ k d lo. b.2 k d (omega arith)))
    (le_of_eq (sym c.copy_within.ensures.capacity)) (All-append (Leads c.args.arena.now.objects) (take c.args.at (items_at c.args.arena.now c.args.l.cell)) (c.args.v ∷ drop c.args.at (items_at c.args.arena.now c.args.l.cell)) (All-take (Leads c.args.arena.now.objects) c.args.at (items_at c.args.arena.now c.args.l.cell) (list_leads c.arena.inside c.arena.view_is c.args.l.cell c.list_region-region.ensures c.arena.invariant)) (All-cons (Leads c.args.arena.now.objects) c.args.v (drop c.args.at (items_at c.args.arena.now c.args.l.cell)) c.requires.leads (All-drop (Leads c.args.arena.now.objects) c.args.at (items_at c.args.arena.now c.args.l.cell) (list_leads c.arena.inside c.arena.view_is c.args.l.cell c.list_region-region.ensures c.arena.invariant))))).0

pub returns : goal.returns
returns c = (list_changed c.arena.inside c.arena.invariant c.arena.view_is c.args.l.cell c.list_region-region.ensures c.requires.list (λ (vs : List Value). insert vs c.args.at c.args.v)
    (set (set c.copy_within.new.self.items (c.list_region-region.result.start + c.args.at) c.of.result) c.args.l.cell (ListHead (record { start = c.list_region-region.result.start; len = c.list_region-region.result.len + 1; room = c.list_region-region.result.room }))) _
    (let b = c.copy_within.ensures.by_index in
    let r = c.list_region-region.result in
    let len = seen_len c.arena.inside c.arena.view_is c.args.l.cell c.list_region-region.ensures c.arena.invariant in
    let room = seen_room c.arena.inside c.arena.view_is c.args.l.cell c.list_region-region.ensures in
    let inside = inside_list c.arena.inside.cells.items c.arena.invariant.kept c.args.l.cell r c.list_region-region.ensures in
    let from : r.start + c.args.at + 1 + (r.start + r.len - (r.start + c.args.at)) ≡ r.start + r.len + 1 = omega (arith, c.requires.within) in
    list_put (holds_now c.arena.inside c.arena.invariant) c.args.l.cell c.args.at r c.args.v c.of.result c.copy_within.new.self.items
    (seen_within c.arena.inside c.arena.view_is AList c.args.l.cell c.requires.list) c.list_region-region.ensures (omega (arith, c.requires.within)) (omega (arith, c.requires.room)) c.of.ensures (omega arith)
    (λ k d lo hi. b.0 k d lo (omega arith) ∙ ap (λ j. get_or c.arena.inside.cells.items j d) (omega arith))
    (λ k d hi. b.1 k d hi)
    (λ k d lo. b.2 k d (omega arith)))
    (le_of_eq (sym c.copy_within.ensures.capacity)) (All-append (Leads c.args.arena.now.objects) (take c.args.at (items_at c.args.arena.now c.args.l.cell)) (c.args.v ∷ drop c.args.at (items_at c.args.arena.now c.args.l.cell)) (All-take (Leads c.args.arena.now.objects) c.args.at (items_at c.args.arena.now c.args.l.cell) (list_leads c.arena.inside c.arena.view_is c.args.l.cell c.list_region-region.ensures c.arena.invariant)) (All-cons (Leads c.args.arena.now.objects) c.args.v (drop c.args.at (items_at c.args.arena.now c.args.l.cell)) c.requires.leads (All-drop (Leads c.args.arena.now.objects) c.args.at (items_at c.args.arena.now c.args.l.cell) (list_leads c.arena.inside c.arena.view_is c.args.l.cell c.list_region-region.ensures c.arena.invariant))))).1

use Rattle.std.proofs.Common.{arith, ℕ, ◌+◌, List, length, sym, ◌∙◌, ap, subst}
use Rattle.std.specs.List.{insert}
use Rattle.arena_heap.specs.declared.value.Value.{Value}
use Rattle.qstr_pool.specs.mpy_base.World.{Heap, Later, items_at, with_list}
use Rattle.qstr_pool.proofs.mpy_base_lemmas.Worlds.{later_items}
use Rattle.std.proofs.lemmas.List.Edits.{length-insert}
use Rattle.arena_heap.proofs.Growths.{reserved_later, reserved_items, reserved_room, reserved_put, room_grows}
use Rattle.arena_heap.proofs.Sounds.{leads_later}
use Rattle.arena_heap.proofs.lists.list_insert.Goals as goal

pub put_in_list-requires-clause-leads : goal.put_in_list-requires-clause-leads
put_in_list-requires-clause-leads c = leads_later (reserved_later c.args.arena.now c.args.l.cell (c.list_len-len.result + 1) c.requires.list c.in_ok-reserve_list.ensures.ok) c.args.v c.requires.leads

pub put_in_list-requires-clause-room : goal.put_in_list-requires-clause-room
put_in_list-requires-clause-room c =
    omega (arith, ap length (reserved_items c.args.arena.now c.args.l.cell (c.list_len-len.result + 1) c.requires.list c.in_ok-reserve_list.ensures.ok), reserved_room c.args.arena.now c.args.l.cell (c.list_len-len.result + 1) c.requires.list c.in_ok-reserve_list.ensures.ok, room_grows c.args.arena.now c.args.l.cell (c.list_len-len.result + 1), c.list_len-len.ensures)

pub returns-clause-ok : goal.returns-clause-ok
returns-clause-ok c =
    let same = reserved_items c.args.arena.now c.args.l.cell (c.list_len-len.result + 1) c.requires.list c.in_ok-reserve_list.ensures.ok in
    let items = insert (items_at c.args.arena.now c.args.l.cell) c.args.at c.args.v in
    c.put_in_list.ensures
    ∙ (ap (λ (vs : List Value). with_list c.reserve_list.new.arena c.args.l.cell (insert vs c.args.at c.args.v)) same
    ∙ reserved_put c.args.arena.now c.args.l.cell (c.list_len-len.result + 1) c.requires.list c.in_ok-reserve_list.ensures.ok items (omega (arith, length-insert (items_at c.args.arena.now c.args.l.cell) c.args.at c.args.v c.requires.within, c.list_len-len.ensures)))

pub returns-clause-later : goal.returns-clause-later
returns-clause-later c =
    subst (λ (w : Heap Value ℕ). Later c.args.arena.now.objects w.objects) (sym (returns-clause-ok c))
    (later_items c.args.arena.now c.args.l.cell (insert (items_at c.args.arena.now c.args.l.cell) c.args.at c.args.v) c.requires.list)

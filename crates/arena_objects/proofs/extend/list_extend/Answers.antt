use Rattle.std.proofs.Common.{◌≡◌, ℕ, ◌+◌, ◌-◌, ◌*◌, ◌/◌, ◌≤◌, ◌++◌, List, length, take, Result, Ok, Err, arith, sym, ◌∙◌, ap, subst, length-append}
use Rattle.arena_heap.specs.declared.value.Value.{Value}
use Rattle.py_values.specs.mpy_base.World.{Heap, AList, AText, IsA, Later, items_at, room_at, with_list}
use Rattle.py_values.specs.mpy_base.Weights.{Fits, used}
use Rattle.std.specs.Result.{OnErr}
use Rattle.py_values.specs.mpy_base.declared.room.NoRoom.{NoRoom}
use Rattle.arena_heap.proofs.Sounds.{leads_later}
use Rattle.arena_objects.specs.Keys.{AllTold}
use Rattle.arena_objects.specs.Iterables.{items_in, spelled, with_texts, texts_from}
use Rattle.arena_objects.proofs.MadeTexts.{texts_used}
use Rattle.arena_objects.proofs.Extension.{count, made_gives, roomy, bytes, made, filled, roomy_is, roomy_later, roomy_spelled, made_later, made_items, made_told, made_is, has_room, filled_is, filled_list, filled_items, filled_room, filled_texts, made_count, extended_is, extended_later, extended_told, room_fits}
use Rattle.arena_objects.proofs.extend.list_extend.Goals as goal

pub make_texts-requires-clause-leads : goal.make_texts-requires-clause-leads
make_texts-requires-clause-leads g c =
    let h = c.args.arena.now in
    let l = c.args.l.cell in
    let from = c.args.from in
    let list = c.requires.list in
    let leads = c.requires.leads in
    let texts = g.C.Constants.text_of c.args.consts.now in
    let tuples = g.C.Constants.items_of c.args.consts.now in
    let is_roomy = roomy_is texts tuples h l from list leads c.list_len.result c.item_count.result (length c.spelled_bytes.result.now) c.reserve_list.new.arena
    c.list_len.ensures c.item_count.ensures (ap length c.spelled_bytes.ensures.bytes) c.in_ok-reserve_list.ensures.ok in
    leads_later (subst (λ (w : Heap Value ℕ). Later h.objects w.objects) (sym is_roomy) (roomy_later texts tuples h l from list leads)) from leads

on_err : (r : Result (Unit {0}) NoRoom) (P : Type 0) → P → OnErr r P
on_err (Ok x) P p = tt
on_err (Err e) P p = p

pub returns-in_err-make_texts-clause-kept : goal.returns-in_err-make_texts-clause-kept
returns-in_err-make_texts-clause-kept g c =
    let h = c.args.arena.now in
    let l = c.args.l.cell in
    let from = c.args.from in
    let list = c.requires.list in
    let leads = c.requires.leads in
    let texts = g.C.Constants.text_of c.args.consts.now in
    let tuples = g.C.Constants.items_of c.args.consts.now in
    let is_roomy = roomy_is texts tuples h l from list leads c.list_len.result c.item_count.result (length c.spelled_bytes.result.now) c.reserve_list.new.arena
    c.list_len.ensures c.item_count.ensures (ap length c.spelled_bytes.ensures.bytes) c.in_ok-reserve_list.ensures.ok in
    let refused = c.in_err-make_texts.ensures.refused in
    let bs = take refused.made (spelled texts c.reserve_list.new.arena from) in
    let cut : c.make_texts.new.arena ≡ with_texts (roomy texts tuples h l from list leads) bs = refused.refused.unchanged ∙ ap (λ (w : Heap Value ℕ). with_texts w bs) is_roomy in
    on_err c.from_residual-in_err-make_texts.result (items_at c.make_texts.new.arena l ≡ items_at h l) (ap (λ (w : Heap Value ℕ). items_at w l) cut ∙ made_items texts tuples h l from list leads bs)

pub returns-in_err-make_texts-clause-later : goal.returns-in_err-make_texts-clause-later
returns-in_err-make_texts-clause-later g c =
    let h = c.args.arena.now in
    let l = c.args.l.cell in
    let from = c.args.from in
    let list = c.requires.list in
    let leads = c.requires.leads in
    let texts = g.C.Constants.text_of c.args.consts.now in
    let tuples = g.C.Constants.items_of c.args.consts.now in
    let is_roomy = roomy_is texts tuples h l from list leads c.list_len.result c.item_count.result (length c.spelled_bytes.result.now) c.reserve_list.new.arena
    c.list_len.ensures c.item_count.ensures (ap length c.spelled_bytes.ensures.bytes) c.in_ok-reserve_list.ensures.ok in
    let refused = c.in_err-make_texts.ensures.refused in
    let bs = take refused.made (spelled texts c.reserve_list.new.arena from) in
    let cut : c.make_texts.new.arena ≡ with_texts (roomy texts tuples h l from list leads) bs = refused.refused.unchanged ∙ ap (λ (w : Heap Value ℕ). with_texts w bs) is_roomy in
    subst (λ (w : Heap Value ℕ). Later h.objects w.objects) (sym cut) (made_later texts tuples h l from list leads bs)

pub returns-in_err-make_texts-clause-all_told : goal.returns-in_err-make_texts-clause-all_told
returns-in_err-make_texts-clause-all_told g c =
    let h = c.args.arena.now in
    let l = c.args.l.cell in
    let from = c.args.from in
    let list = c.requires.list in
    let leads = c.requires.leads in
    let texts = g.C.Constants.text_of c.args.consts.now in
    let tuples = g.C.Constants.items_of c.args.consts.now in
    let is_roomy = roomy_is texts tuples h l from list leads c.list_len.result c.item_count.result (length c.spelled_bytes.result.now) c.reserve_list.new.arena
    c.list_len.ensures c.item_count.ensures (ap length c.spelled_bytes.ensures.bytes) c.in_ok-reserve_list.ensures.ok in
    let refused = c.in_err-make_texts.ensures.refused in
    let bs = take refused.made (spelled texts c.reserve_list.new.arena from) in
    let cut : c.make_texts.new.arena ≡ with_texts (roomy texts tuples h l from list leads) bs = refused.refused.unchanged ∙ ap (λ (w : Heap Value ℕ). with_texts w bs) is_roomy in
    subst (λ (w : Heap Value ℕ). AllTold texts tuples w.objects) (sym cut) (made_told texts tuples h l from list leads c.requires.all_told bs)

pub overflow_sub-texts : goal.overflow_sub-texts
overflow_sub-texts g c =
    let h = c.args.arena.now in
    let l = c.args.l.cell in
    let from = c.args.from in
    let list = c.requires.list in
    let leads = c.requires.leads in
    let texts = g.C.Constants.text_of c.args.consts.now in
    let tuples = g.C.Constants.items_of c.args.consts.now in
    let is_roomy = roomy_is texts tuples h l from list leads c.list_len.result c.item_count.result (length c.spelled_bytes.result.now) c.reserve_list.new.arena
    c.list_len.ensures c.item_count.ensures (ap length c.spelled_bytes.ensures.bytes) c.in_ok-reserve_list.ensures.ok in
    let is_made = made_is texts tuples h l from list leads c.reserve_list.new.arena c.make_texts.new.arena is_roomy c.in_ok-make_texts.ensures.ok in
    let first = c.used-first.ensures.cells ∙ ap used is_roomy in
    let last = c.used.ensures.cells ∙ ap used is_made in
    omega (arith, first, last, texts_used (roomy texts tuples h l from list leads) (bytes texts tuples h l from list leads))

pub put_items-requires-clause-list : goal.put_items-requires-clause-list
put_items-requires-clause-list g c =
    let h = c.args.arena.now in
    let l = c.args.l.cell in
    let from = c.args.from in
    let list = c.requires.list in
    let leads = c.requires.leads in
    let texts = g.C.Constants.text_of c.args.consts.now in
    let tuples = g.C.Constants.items_of c.args.consts.now in
    let is_roomy = roomy_is texts tuples h l from list leads c.list_len.result c.item_count.result (length c.spelled_bytes.result.now) c.reserve_list.new.arena
    c.list_len.ensures c.item_count.ensures (ap length c.spelled_bytes.ensures.bytes) c.in_ok-reserve_list.ensures.ok in
    let is_made = made_is texts tuples h l from list leads c.reserve_list.new.arena c.make_texts.new.arena is_roomy c.in_ok-make_texts.ensures.ok in
    subst (λ (w : Heap Value ℕ). IsA w.objects AList l) (sym is_made) ((made_later texts tuples h l from list leads (bytes texts tuples h l from list leads)).keeps AList l list)

pub put_items-requires-clause-leads : goal.put_items-requires-clause-leads
put_items-requires-clause-leads g c =
    let h = c.args.arena.now in
    let l = c.args.l.cell in
    let from = c.args.from in
    let list = c.requires.list in
    let leads = c.requires.leads in
    let texts = g.C.Constants.text_of c.args.consts.now in
    let tuples = g.C.Constants.items_of c.args.consts.now in
    let is_roomy = roomy_is texts tuples h l from list leads c.list_len.result c.item_count.result (length c.spelled_bytes.result.now) c.reserve_list.new.arena
    c.list_len.ensures c.item_count.ensures (ap length c.spelled_bytes.ensures.bytes) c.in_ok-reserve_list.ensures.ok in
    let is_made = made_is texts tuples h l from list leads c.reserve_list.new.arena c.make_texts.new.arena is_roomy c.in_ok-make_texts.ensures.ok in
    leads_later (subst (λ (w : Heap Value ℕ). Later h.objects w.objects) (sym is_made) (made_later texts tuples h l from list leads (bytes texts tuples h l from list leads))) from leads

pub put_items-requires-clause-all_told : goal.put_items-requires-clause-all_told
put_items-requires-clause-all_told g c =
    let h = c.args.arena.now in
    let l = c.args.l.cell in
    let from = c.args.from in
    let list = c.requires.list in
    let leads = c.requires.leads in
    let texts = g.C.Constants.text_of c.args.consts.now in
    let tuples = g.C.Constants.items_of c.args.consts.now in
    let is_roomy = roomy_is texts tuples h l from list leads c.list_len.result c.item_count.result (length c.spelled_bytes.result.now) c.reserve_list.new.arena
    c.list_len.ensures c.item_count.ensures (ap length c.spelled_bytes.ensures.bytes) c.in_ok-reserve_list.ensures.ok in
    let is_made = made_is texts tuples h l from list leads c.reserve_list.new.arena c.make_texts.new.arena is_roomy c.in_ok-make_texts.ensures.ok in
    subst (λ (w : Heap Value ℕ). AllTold texts tuples w.objects) (sym is_made) (made_told texts tuples h l from list leads c.requires.all_told (bytes texts tuples h l from list leads))

pub put_items-requires-clause-room : goal.put_items-requires-clause-room
put_items-requires-clause-room g c =
    let h = c.args.arena.now in
    let l = c.args.l.cell in
    let from = c.args.from in
    let list = c.requires.list in
    let leads = c.requires.leads in
    let texts = g.C.Constants.text_of c.args.consts.now in
    let tuples = g.C.Constants.items_of c.args.consts.now in
    let is_roomy = roomy_is texts tuples h l from list leads c.list_len.result c.item_count.result (length c.spelled_bytes.result.now) c.reserve_list.new.arena
    c.list_len.ensures c.item_count.ensures (ap length c.spelled_bytes.ensures.bytes) c.in_ok-reserve_list.ensures.ok in
    let is_made = made_is texts tuples h l from list leads c.reserve_list.new.arena c.make_texts.new.arena is_roomy c.in_ok-make_texts.ensures.ok in
    let all = made texts tuples h l from list leads (bytes texts tuples h l from list leads) in
    let items : items_at all l ≡ items_at h l = made_items texts tuples h l from list leads (bytes texts tuples h l from list leads) in
    let gives : items_in tuples all from ≡ items_in tuples h from = made_gives texts tuples h l from list leads in
    subst (λ (w : Heap Value ℕ). length (items_at w l) + length (items_in tuples w from) ≤ room_at w l) (sym is_made) (omega (arith, ap length items, ap length gives, has_room texts tuples h l from list leads))

pub put_texts-requires-clause-list : goal.put_texts-requires-clause-list
put_texts-requires-clause-list g c =
    let h = c.args.arena.now in
    let l = c.args.l.cell in
    let from = c.args.from in
    let list = c.requires.list in
    let leads = c.requires.leads in
    let texts = g.C.Constants.text_of c.args.consts.now in
    let tuples = g.C.Constants.items_of c.args.consts.now in
    let is_roomy = roomy_is texts tuples h l from list leads c.list_len.result c.item_count.result (length c.spelled_bytes.result.now) c.reserve_list.new.arena
    c.list_len.ensures c.item_count.ensures (ap length c.spelled_bytes.ensures.bytes) c.in_ok-reserve_list.ensures.ok in
    let is_made = made_is texts tuples h l from list leads c.reserve_list.new.arena c.make_texts.new.arena is_roomy c.in_ok-make_texts.ensures.ok in
    let is_filled = filled_is texts tuples h l from list leads c.make_texts.new.arena c.put_items.new.arena is_made c.put_items.ensures.put in
    let first = c.used-first.ensures.cells ∙ ap used is_roomy in
    let some = made_count texts tuples h l from list leads c.used-first.result.cells c.used.result.cells first (c.used.ensures.cells ∙ ap used is_made) in
    subst (λ (w : Heap Value ℕ). IsA w.objects AList l) (sym is_filled) (filled_list texts tuples h l from list leads)

pub put_texts-requires-clause-texts : goal.put_texts-requires-clause-texts
put_texts-requires-clause-texts g c =
    let h = c.args.arena.now in
    let l = c.args.l.cell in
    let from = c.args.from in
    let list = c.requires.list in
    let leads = c.requires.leads in
    let texts = g.C.Constants.text_of c.args.consts.now in
    let tuples = g.C.Constants.items_of c.args.consts.now in
    let is_roomy = roomy_is texts tuples h l from list leads c.list_len.result c.item_count.result (length c.spelled_bytes.result.now) c.reserve_list.new.arena
    c.list_len.ensures c.item_count.ensures (ap length c.spelled_bytes.ensures.bytes) c.in_ok-reserve_list.ensures.ok in
    let is_made = made_is texts tuples h l from list leads c.reserve_list.new.arena c.make_texts.new.arena is_roomy c.in_ok-make_texts.ensures.ok in
    let is_filled = filled_is texts tuples h l from list leads c.make_texts.new.arena c.put_items.new.arena is_made c.put_items.ensures.put in
    let first = c.used-first.ensures.cells ∙ ap used is_roomy in
    let some = made_count texts tuples h l from list leads c.used-first.result.cells c.used.result.cells first (c.used.ensures.cells ∙ ap used is_made) in
    λ k lt. subst (λ (w : Heap Value ℕ). IsA w.objects AText (c.used-first.result.cells + 2 * k)) (sym is_filled)
    (subst (λ (n : ℕ). IsA (filled texts tuples h l from list leads).objects AText (n + 2 * k)) (sym first) (filled_texts texts tuples h l from list leads k (omega (arith, some, lt))))

pub put_texts-requires-clause-room : goal.put_texts-requires-clause-room
put_texts-requires-clause-room g c =
    let h = c.args.arena.now in
    let l = c.args.l.cell in
    let from = c.args.from in
    let list = c.requires.list in
    let leads = c.requires.leads in
    let texts = g.C.Constants.text_of c.args.consts.now in
    let tuples = g.C.Constants.items_of c.args.consts.now in
    let is_roomy = roomy_is texts tuples h l from list leads c.list_len.result c.item_count.result (length c.spelled_bytes.result.now) c.reserve_list.new.arena
    c.list_len.ensures c.item_count.ensures (ap length c.spelled_bytes.ensures.bytes) c.in_ok-reserve_list.ensures.ok in
    let is_made = made_is texts tuples h l from list leads c.reserve_list.new.arena c.make_texts.new.arena is_roomy c.in_ok-make_texts.ensures.ok in
    let is_filled = filled_is texts tuples h l from list leads c.make_texts.new.arena c.put_items.new.arena is_made c.put_items.ensures.put in
    let first = c.used-first.ensures.cells ∙ ap used is_roomy in
    let some = made_count texts tuples h l from list leads c.used-first.result.cells c.used.result.cells first (c.used.ensures.cells ∙ ap used is_made) in
    let full = filled texts tuples h l from list leads in
    let items = filled_items texts tuples h l from list leads in
    subst (λ (w : Heap Value ℕ). length (items_at w l) + (c.used.result.cells - c.used-first.result.cells) / 2 ≤ room_at w l) (sym is_filled)
    (omega (arith, ap length items, length-append (items_at h l) (items_in tuples h from), some, filled_room texts tuples h l from list leads, has_room texts tuples h l from list leads))

pub returns-clause-ok : goal.returns-clause-ok
returns-clause-ok g c =
    let h = c.args.arena.now in
    let l = c.args.l.cell in
    let from = c.args.from in
    let list = c.requires.list in
    let leads = c.requires.leads in
    let texts = g.C.Constants.text_of c.args.consts.now in
    let tuples = g.C.Constants.items_of c.args.consts.now in
    let is_roomy = roomy_is texts tuples h l from list leads c.list_len.result c.item_count.result (length c.spelled_bytes.result.now) c.reserve_list.new.arena
    c.list_len.ensures c.item_count.ensures (ap length c.spelled_bytes.ensures.bytes) c.in_ok-reserve_list.ensures.ok in
    let is_made = made_is texts tuples h l from list leads c.reserve_list.new.arena c.make_texts.new.arena is_roomy c.in_ok-make_texts.ensures.ok in
    let is_filled = filled_is texts tuples h l from list leads c.make_texts.new.arena c.put_items.new.arena is_made c.put_items.ensures.put in
    let first = c.used-first.ensures.cells ∙ ap used is_roomy in
    let some = made_count texts tuples h l from list leads c.used-first.result.cells c.used.result.cells first (c.used.ensures.cells ∙ ap used is_made) in
    extended_is texts tuples h l from list leads c.put_items.new.arena c.put_texts.new.arena c.used-first.result.cells ((c.used.result.cells - c.used-first.result.cells) / 2) is_filled first some c.put_texts.ensures

pub returns-clause-fits : goal.returns-clause-fits
returns-clause-fits g c =
    let h = c.args.arena.now in
    let l = c.args.l.cell in
    let from = c.args.from in
    let list = c.requires.list in
    let leads = c.requires.leads in
    let texts = g.C.Constants.text_of c.args.consts.now in
    let tuples = g.C.Constants.items_of c.args.consts.now in
    let is_roomy = roomy_is texts tuples h l from list leads c.list_len.result c.item_count.result (length c.spelled_bytes.result.now) c.reserve_list.new.arena
    c.list_len.ensures c.item_count.ensures (ap length c.spelled_bytes.ensures.bytes) c.in_ok-reserve_list.ensures.ok in
    let same = roomy_spelled texts tuples h l from list leads in
    let n = length (bytes texts tuples h l from list leads) in
    let f : Fits (roomy texts tuples h l from list leads) (2 * length (spelled texts (roomy texts tuples h l from list leads) from)) (length (spelled texts (roomy texts tuples h l from list leads) from)) =
    subst (λ (w : Heap Value ℕ). Fits w (2 * length (spelled texts w from)) (length (spelled texts w from))) is_roomy c.in_ok-make_texts.ensures.fits in
    room_fits h l (count texts tuples h l from list leads) list (2 * n) n (subst (λ (bs : List ℕ). Fits (roomy texts tuples h l from list leads) (2 * length bs) (length bs)) same f)

pub returns-clause-later : goal.returns-clause-later
returns-clause-later g c =
    let h = c.args.arena.now in
    let l = c.args.l.cell in
    let from = c.args.from in
    let list = c.requires.list in
    let leads = c.requires.leads in
    let texts = g.C.Constants.text_of c.args.consts.now in
    let tuples = g.C.Constants.items_of c.args.consts.now in
    let is_roomy = roomy_is texts tuples h l from list leads c.list_len.result c.item_count.result (length c.spelled_bytes.result.now) c.reserve_list.new.arena
    c.list_len.ensures c.item_count.ensures (ap length c.spelled_bytes.ensures.bytes) c.in_ok-reserve_list.ensures.ok in
    let is_made = made_is texts tuples h l from list leads c.reserve_list.new.arena c.make_texts.new.arena is_roomy c.in_ok-make_texts.ensures.ok in
    let is_filled = filled_is texts tuples h l from list leads c.make_texts.new.arena c.put_items.new.arena is_made c.put_items.ensures.put in
    let first = c.used-first.ensures.cells ∙ ap used is_roomy in
    let some = made_count texts tuples h l from list leads c.used-first.result.cells c.used.result.cells first (c.used.ensures.cells ∙ ap used is_made) in
    let is_extended = extended_is texts tuples h l from list leads c.put_items.new.arena c.put_texts.new.arena c.used-first.result.cells ((c.used.result.cells - c.used-first.result.cells) / 2) is_filled first some c.put_texts.ensures in
    subst (λ (w : Heap Value ℕ). Later h.objects w.objects) (sym is_extended) (extended_later texts tuples h l from list leads)

pub returns-clause-all_told : goal.returns-clause-all_told
returns-clause-all_told g c =
    let h = c.args.arena.now in
    let l = c.args.l.cell in
    let from = c.args.from in
    let list = c.requires.list in
    let leads = c.requires.leads in
    let texts = g.C.Constants.text_of c.args.consts.now in
    let tuples = g.C.Constants.items_of c.args.consts.now in
    let is_roomy = roomy_is texts tuples h l from list leads c.list_len.result c.item_count.result (length c.spelled_bytes.result.now) c.reserve_list.new.arena
    c.list_len.ensures c.item_count.ensures (ap length c.spelled_bytes.ensures.bytes) c.in_ok-reserve_list.ensures.ok in
    let is_made = made_is texts tuples h l from list leads c.reserve_list.new.arena c.make_texts.new.arena is_roomy c.in_ok-make_texts.ensures.ok in
    let is_filled = filled_is texts tuples h l from list leads c.make_texts.new.arena c.put_items.new.arena is_made c.put_items.ensures.put in
    let first = c.used-first.ensures.cells ∙ ap used is_roomy in
    let some = made_count texts tuples h l from list leads c.used-first.result.cells c.used.result.cells first (c.used.ensures.cells ∙ ap used is_made) in
    let n = c.used-first.result.cells in
    let m = (c.used.result.cells - n) / 2 in
    let full = filled texts tuples h l from list leads in
    let told : AllTold texts tuples full.objects = subst (λ (w : Heap Value ℕ). AllTold texts tuples w.objects) is_filled c.put_items.ensures.all_told in
    let put = c.put_texts.ensures ∙ ap (λ (w : Heap Value ℕ). with_list w l (items_at w l ++ texts_from n m)) is_filled in
    subst (λ (w : Heap Value ℕ). AllTold texts tuples w.objects) (sym put) (extended_told texts tuples h l from list leads told n m)

use Rattle.std.proofs.Common.{ℕ, ◌+◌, [], subst, refl}
use Rattle.prim_builtins.specs.mpy_base.World.{ListObject, AList}
use Rattle.prim_builtins.specs.mpy_base.Weights.{Made, Refused, room_for}
use Rattle.prim_builtins.proofs.mpy_base_lemmas.Worlds.{later_later}
use Rattle.prim_builtins.proofs.prim_operators_lemmas.ItemFills.{told_empty}
use Rattle.prim_collections.proofs.Kept.{iterable_kept}
use Rattle.prim_collections.proofs.MadeLists.{list_refused, list_filled, list_stops}
use Rattle.prim_collections.proofs.lists.list_from.Goals as goal

pub list_extend-requires-clause-all_told : goal.list_extend-requires-clause-all_told
list_extend-requires-clause-all_told g c =
    let texts = g.C.Constants.text_of c.args.consts.now in
    let tuples = g.C.Constants.items_of c.args.consts.now in
    told_empty texts tuples c.in-Ok.ensures.made c.requires.all_told

pub returns-in-Ok-list_extend : goal.returns-in-Ok-list_extend
returns-in-Ok-list_extend g c =
    let texts = g.C.Constants.text_of c.args.consts.now in
    let tuples = g.C.Constants.items_of c.args.consts.now in
    let h = c.args.arena.now in
    let v = c.args.v in
    let kept = iterable_kept texts tuples h v c.requires.iterable c.requires.leads c.items_law.ensures.nested in
    let m = subst (λ (n : ℕ). Made h c.make_list.new.self c.in-Ok.l.cell (ListObject [] (room_for n))) c.kept_count-count.ensures c.in-Ok.ensures.made in
    let later = c.list_extend.ensures.later in
    list_filled texts tuples h v kept c.requires.leads m c.list_extend.new.arena c.in-Ok.l refl c.in-Ok-list_extend.ensures.ok c.in-Ok-list_extend.ensures.fits
    (later_later c.make_list.ensures.later later) c.list_extend.ensures.all_told (record { meets = later.keeps AList c.in-Ok.l.cell c.in-Ok.ensures.kind; small = tt })

pub returns-in-Err-list_extend : goal.returns-in-Err-list_extend
returns-in-Err-list_extend g c =
    let texts = g.C.Constants.text_of c.args.consts.now in
    let tuples = g.C.Constants.items_of c.args.consts.now in
    let h = c.args.arena.now in
    let v = c.args.v in
    let kept = iterable_kept texts tuples h v c.requires.iterable c.requires.leads c.items_law.ensures.nested in
    let m = subst (λ (n : ℕ). Made h c.make_list.new.self c.in-Ok.l.cell (ListObject [] (room_for n))) c.kept_count-count.ensures c.in-Ok.ensures.made in
    list_stops texts tuples h v kept c.requires.leads m c.list_extend.new.arena c.in-Err-list_extend.room c.in-Err-list_extend.ensures.refused
    (later_later c.make_list.ensures.later c.list_extend.ensures.later) c.list_extend.ensures.all_told

pub returns-in-Err : goal.returns-in-Err
returns-in-Err g c =
    let texts = g.C.Constants.text_of c.args.consts.now in
    let tuples = g.C.Constants.items_of c.args.consts.now in
    let h = c.args.arena.now in
    let v = c.args.v in
    let kept = iterable_kept texts tuples h v c.requires.iterable c.requires.leads c.items_law.ensures.nested in
    let r = subst (λ (n : ℕ). Refused h c.make_list.new.self c.in-Err.room (3 + room_for n) 0) c.kept_count-count.ensures c.in-Err.ensures.refused in
    list_refused texts tuples h v kept c.make_list.new.self c.in-Err.room r c.requires.all_told

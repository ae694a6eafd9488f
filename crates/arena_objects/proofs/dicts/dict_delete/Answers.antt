use Rattle.std.proofs.Common.{ℕ, sym, subst}
use Rattle.std.specs.List.{remove}
use Rattle.arena_heap.specs.declared.value.Value.{Value}
use Rattle.py_values.specs.mpy_base.World.{Heap, pairs_at, with_dict}
use Rattle.arena_objects.specs.Keys.{AllTold, Lacks, KeepsOthers, IsDistinct}
use Rattle.arena_objects.proofs.AfterSet.{texts_kept, pairs_of_with, gone, distinct_removed, others_removed}
use Rattle.arena_objects.proofs.Tolds.{told_dict, told_removed, told_read}
use Rattle.arena_objects.proofs.dicts.dict_delete.Goals as goal

pub returns-clause-all_told : goal.returns-clause-all_told
returns-clause-all_told g c =
    let h = c.args.arena.now in
    let n = c.args.d.cell in
    let texts = g.C.Constants.text_of c.args.consts.now in
    let tuples = g.C.Constants.items_of c.args.consts.now in
    subst (λ (w : Heap Value ℕ). AllTold texts tuples w.objects) (sym c.dict_remove_at.ensures.removed)
    (told_dict texts tuples h n c.requires.dict c.requires.all_told (remove (pairs_at h n) c.in_ok-at.at) (told_removed texts tuples h n c.requires.dict c.requires.all_told c.in_ok-at.at))

pub returns-clause-told : goal.returns-clause-told
returns-clause-told g c =
    told_read (g.C.Constants.text_of c.args.consts.now) (g.C.Constants.items_of c.args.consts.now) c.args.arena.now c.args.d.cell c.requires.dict c.requires.all_told
    c.in_ok-at.at c.in_ok-v.field-0-0 c.in_ok-v.v c.in_ok-v.ensures.pair

pub returns-clause-gone : goal.returns-clause-gone
returns-clause-gone g c =
    let h = c.args.arena.now in
    let n = c.args.d.cell in
    let pairs = remove (pairs_at h n) c.in_ok-at.at in
    λ x. subst (λ (w : Heap Value ℕ). Lacks (g.C.Constants.text_of c.args.consts.now) w n c.args.key) (sym c.dict_remove_at.ensures.removed)
    (gone (g.C.Constants.text_of c.args.consts.now) h (with_dict h n pairs) n c.args.key c.args.key (texts_kept h n c.requires.dict pairs) c.in_ok-at.ensures.found.within (pairs_of_with h n c.requires.dict pairs)
    c.in_ok-at.ensures.found x)

pub returns-clause-distinct : goal.returns-clause-distinct
returns-clause-distinct g c =
    let h = c.args.arena.now in
    let n = c.args.d.cell in
    let pairs = remove (pairs_at h n) c.in_ok-at.at in
    λ x. subst (λ (w : Heap Value ℕ). IsDistinct (g.C.Constants.text_of c.args.consts.now) w n) (sym c.dict_remove_at.ensures.removed)
    (distinct_removed (g.C.Constants.text_of c.args.consts.now) h (with_dict h n pairs) n c.args.key c.args.key (texts_kept h n c.requires.dict pairs) c.in_ok-at.ensures.found.within (pairs_of_with h n c.requires.dict pairs) x)

pub returns-clause-others : goal.returns-clause-others
returns-clause-others g c =
    let h = c.args.arena.now in
    let n = c.args.d.cell in
    let pairs = remove (pairs_at h n) c.in_ok-at.at in
    subst (λ (w : Heap Value ℕ). KeepsOthers (g.C.Constants.text_of c.args.consts.now) h w n c.args.key) (sym c.dict_remove_at.ensures.removed)
    (others_removed (g.C.Constants.text_of c.args.consts.now) h (with_dict h n pairs) n c.args.key c.args.key (texts_kept h n c.requires.dict pairs) c.in_ok-at.ensures.found.within (pairs_of_with h n c.requires.dict pairs)
    c.in_ok-at.ensures.found)
